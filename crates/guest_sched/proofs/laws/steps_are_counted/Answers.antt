use Rattle.guest_sched.proofs.OrderLemmas.{holds_reached}
use Rattle.guest_sched.proofs.laws.steps_are_counted.Goals as goal

pub returns-clause-steps : goal.returns-clause-steps
returns-clause-steps c guest quantum seed earlier m reached = (holds_reached guest quantum seed earlier m reached).steps

pub returns-clause-threads : goal.returns-clause-threads
returns-clause-threads c guest quantum seed earlier m reached =
    (holds_reached guest quantum seed earlier m reached).made
