use Rattle.sorted_words.proofs.BuilderLemmas.{command_added}
use Rattle.sorted_words.proofs.builder.program.Goals as goal

pub loop-syntax-preserved : goal.loop-syntax-preserved
loop-syntax-preserved c =
    command_added c.args.commands.now c.loop-syntax.syntax-index c.syntax-item.result c.loop-syntax.program
    c.in_ok-command.field-0
    c.in_ok-program.program c.loop-syntax-test.true c.syntax-item.is c.in_ok-program.ensures
    c.in_ok-command.ensures.local
    c.in_ok-command.ensures.shape c.loop-syntax.invariant
