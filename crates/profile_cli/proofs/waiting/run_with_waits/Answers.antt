use Rattle.std.proofs.Common.{ap}
use Rattle.run_watches.specs.declared.run_watch.RunWatch.TheVariants.{Waits}
use Rattle.profile_cli.proofs.waiting.run_with_waits.Goals as goal

pub run_and_put-requires-clause-fresh : goal.run_and_put-requires-clause-fresh
run_and_put-requires-clause-fresh g c = ap Waits c.new.ensures
