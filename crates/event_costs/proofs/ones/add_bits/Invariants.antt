use Rattle.std.proofs.Common.{◌≡◌, ◌<◌, ◌≤◌, ℕ, ◌+◌, get_or}
use Rattle.std.specs.Int.{bit_at}
use Rattle.event_costs.proofs.ones.add_bits.Given as goal

abbrev pub invariant-kinds : goal.invariant-kinds
invariant-kinds l = record {
  done : (k : ℕ) → l.from ≤ k → k < l.kind → get_or l.sums k 0 ≡ get_or l.initial.sums k 0 + bit_at l.bits k;
  rest : (k : ℕ) → l.kind ≤ k → get_or l.sums k 0 ≡ get_or l.initial.sums k 0;
  below : (k : ℕ) → k < l.from → get_or l.sums k 0 ≡ get_or l.initial.sums k 0;
}
