use Rattle.std.proofs.Common.{◌≡◌, ◌<◌, ◌≤◌, ℕ, ◌+◌, get_or}
use Rattle.report_rows.proofs.sums.add_cost.Given as goal

abbrev pub invariant-events : goal.invariant-events
invariant-events l = record {
  done : (k : ℕ) → k < l.event → get_or l.sums k 0 ≡ get_or l.initial.sums k 0 + get_or l.cost k 0;
  rest : (k : ℕ) → l.event ≤ k → get_or l.sums k 0 ≡ get_or l.initial.sums k 0;
}
