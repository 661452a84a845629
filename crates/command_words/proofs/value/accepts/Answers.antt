use Rattle.std.proofs.Common.{◌∙◌}
use Rattle.command_words.proofs.ValueLemmas.{any_mapped}
use Rattle.command_words.proofs.value.accepts.Goals as goal

pub returns-in-OneOf : goal.returns-in-OneOf
returns-in-OneOf c = rw c.in-OneOf.is (c.is_among.ensures ∙ any_mapped c.in-OneOf.words.now c.args.text.now)
