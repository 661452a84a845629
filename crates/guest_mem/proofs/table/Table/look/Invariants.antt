use Rattle.std.proofs.Common.{ℕ, ◌≤◌, ◌<◌}
use Rattle.std.specs.Prelude.{is_some}
use Rattle.guest_mem.specs.inner.Table.{at_place, AreFree}
use Rattle.guest_mem.proofs.table.Table.look.Given as goal

abbrev pub invariant-places : goal.invariant-places
invariant-places l = record {
  order : l.past ≤ l.place;
  wide : l.widest ≤ l.place;
  none : (a n : ℕ) → l.first < a → a < l.past → l.widest < n
      → AreFree (λ q. is_some (at_place l.self.places.items q)) a n l.past → ⊥;
}
