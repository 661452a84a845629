use Rattle.cycles.proofs.AddingLemmas.{IsAddedSoFar}
use Rattle.cycles.proofs.cost_sums.add_cost.Given as goal

abbrev pub invariant-places : goal.invariant-places
invariant-places l = IsAddedSoFar l.initial.sums l.cost l.place l.sums
