use Rattle.std.proofs.Common.{◌≡◌, ◌<◌, ◌≤◌, ℕ, ◌+◌, get_or}
use Rattle.event_costs.proofs.cost.add_numbers.Given as goal

abbrev pub invariant-places : goal.invariant-places
invariant-places l = record {
  done : (k : ℕ) → k < l.i → get_or l.sums k 0 ≡ get_or l.initial.sums k 0 + get_or l.numbers k 0;
  rest : (k : ℕ) → l.i ≤ k → get_or l.sums k 0 ≡ get_or l.initial.sums k 0;
}
