use Rattle.std.proofs.Common.{◌≡◌, ◌<◌, ℕ, length, get_or}
use Rattle.report_rows.proofs.order.places_of.Given as goal

abbrev pub invariant-functions : goal.invariant-functions
invariant-functions l = record {
  size : length l.places.items ≡ length l.order;
  exact : (i : ℕ) → i < l.place → get_or l.places.items (get_or l.order i 0) 0 ≡ i;
}
