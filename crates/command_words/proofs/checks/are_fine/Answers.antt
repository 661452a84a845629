use Rattle.std.proofs.Common.{◌∙◌}
use Rattle.command_words.specs.Meaning.{uses_of}
use Rattle.command_words.specs.Rows.{command_of}
use Rattle.command_words.proofs.RowLemmas.{all_fine}
use Rattle.command_words.proofs.checks.are_fine.Goals as goal

pub returns : goal.returns
returns c =
    c.are_rows_fine.ensures
    ∙ all_fine (command_of c.args.command) (uses_of c.args.given.now) c.options.result.now c.options.ensures
