use Rattle.std.proofs.Common.{◌≡◌, replicate}
use Rattle.cycles.specs.inner.Counting.{lists}
use Rattle.cycles.proofs.sums.zeros.Given as goal

abbrev pub invariant-places : goal.invariant-places
invariant-places l = lists l.table.items ≡ replicate l._place (replicate l.events 0)
