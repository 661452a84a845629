use Rattle.std.proofs.Common.{[]}
use Rattle.once_each.proofs.RunLemmas.{order_from, run_sized, stacks, watched_orderly}
use Rattle.once_each.proofs.TakenLemmas.{machine_orderly}
use Rattle.once_each.proofs.runs.steps_of_a_run_are_a_trace.Goals as goal

pub returns-clause-stacks : goal.returns-clause-stacks
returns-clause-stacks c = stacks

pub returns-clause-order : goal.returns-clause-order
returns-clause-order c = λ syms steps orderly. order_from syms [] steps orderly

pub returns-clause-size : goal.returns-clause-size
returns-clause-size c = run_sized

pub returns-clause-machine : goal.returns-clause-machine
returns-clause-machine c = machine_orderly

pub returns-clause-watched : goal.returns-clause-watched
returns-clause-watched c = watched_orderly
