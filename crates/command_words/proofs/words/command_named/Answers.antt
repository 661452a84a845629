use Rattle.std.proofs.Common.{◌∙◌, ap}
use Rattle.std.specs.Prelude.{option_map}
use Rattle.command_words.specs.Rows.{command_of}
use Rattle.command_words.proofs.RowLemmas.{named_is}
use Rattle.command_words.proofs.words.command_named.Goals as goal

pub returns : goal.returns
returns c = ap (option_map command_of) c.named.ensures ∙ named_is c.args.name.now
