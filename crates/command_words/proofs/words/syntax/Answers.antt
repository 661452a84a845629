use Rattle.std.proofs.Common.{◌∙◌}
use Rattle.command_words.specs.Rows.{command_of}
use Rattle.command_words.proofs.RequestLemmas.{syntax_is}
use Rattle.command_words.proofs.RowLemmas.{names_mapped}
use Rattle.command_words.proofs.words.syntax.Goals as goal

pub returns : goal.returns
returns c =
    syntax_is (command_of c.args.command) _ _ c.name.ensures
    (c.in_ok-names.ensures ∙ names_mapped (command_of c.args.command) c.options.result.now c.options.ensures)
