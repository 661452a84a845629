use Rattle.std.proofs.Common.{◌≡◌, ℕ, ◌≤◌, ◌<◌, not}
use Rattle.std.specs.Prelude.{is_some}
use Rattle.guest_mem.specs.inner.Table.{at_place}
use Rattle.guest_mem.proofs.table.Table.first.Given as goal

abbrev pub invariant-places : goal.invariant-places
invariant-places l = (q : ℕ) → l.from ≤ q → q < l.place → is_some (at_place l.self.places.items q) ≡ not l.wanted
