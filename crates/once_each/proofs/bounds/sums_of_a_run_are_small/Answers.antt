use Rattle.once_each.proofs.BoundLemmas.{arc_most, calls_most, self_most, sum_most}
use Rattle.once_each.proofs.bounds.sums_of_a_run_are_small.Goals as goal

pub returns-clause-lines : goal.returns-clause-lines
returns-clause-lines c = self_most

pub returns-clause-arcs : goal.returns-clause-arcs
returns-clause-arcs c = arc_most

pub returns-clause-calls : goal.returns-clause-calls
returns-clause-calls c = calls_most

pub returns-clause-profile : goal.returns-clause-profile
returns-clause-profile c =
    λ syms trace numbers p position sum is run of. sum_most syms trace numbers p is run position sum of
