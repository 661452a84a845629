use Rattle.sorted_words.proofs.BuilderLemmas.{option_added}
use Rattle.sorted_words.proofs.builder.command.Goals as goal

pub loop-name-preserved : goal.loop-name-preserved
loop-name-preserved c =
    option_added c.args.syntax.now.name.now c.deref-name-items.result.now c.loop-name.name-index _ c.loop-name.command
    c.in_ok-command-2.command
    c.option.result c.loop-name-test.true c.in_ok-command-2.ensures c.option.ensures.local c.option.ensures.rule
    c.loop-name.invariant
