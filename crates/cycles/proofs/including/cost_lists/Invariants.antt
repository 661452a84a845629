use Rattle.std.proofs.Common.{◌≡◌}
use Rattle.cycles.specs.inner.Counting.{lists}
use Rattle.cycles.proofs.including.cost_lists.Given as goal

abbrev pub invariant-lists : goal.invariant-lists
invariant-lists l = l.costs.items ≡ lists l.yielded
