use Rattle.std.proofs.Common.{◌≡◌, ◌<◌, ℕ, length, get_or, take}
use Rattle.report_rows.specs.Entries.{calls_of, cost_of, entry_values}
use Rattle.report_rows.proofs.sums.sum_of.Given as goal

abbrev pub invariant-entries : goal.invariant-entries
invariant-entries l = record {
  width : length l.cost.items ≡ l.events;
  calls : l.calls ≡ calls_of (entry_values (take l.entry-index l.entries));
  cost : (k : ℕ) → k < l.events → get_or l.cost.items k 0 ≡ cost_of (entry_values (take l.entry-index l.entries)) k;
}
