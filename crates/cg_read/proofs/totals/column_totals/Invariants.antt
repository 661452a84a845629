use Rattle.std.proofs.Common.{◌≡◌, ◌<◌, ◌^◌, ℕ, length, get_or}
use Rattle.cg_read.specs.Totals.{column_sum}
use Rattle.cg_read.proofs.totals.column_totals.Given as goal

abbrev pub invariant-places : goal.invariant-places
invariant-places l = record {
  count : length l.items.items ≡ l.place;
  totals : (k : ℕ) → k < l.place → get_or l.items.items k 0 ≡ column_sum l.rows k;
  within : (k : ℕ) → k < l.place → column_sum l.rows k < 2 ^ 64;
}
