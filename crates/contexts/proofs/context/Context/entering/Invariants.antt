use Rattle.std.proofs.Common.{◌≡◌, ◌-◌, ◌<◌, ◌≤◌, ℕ, get_or, length}
use Rattle.contexts.proofs.context.Context.entering.Given as goal

abbrev pub invariant-places : goal.invariant-places
invariant-places l = record {
  size : length l.functions ≡ 17;
  first : get_or l.functions 0 0 ≡ l.fn.func.0;
  done : (k : ℕ) → 1 ≤ k → k < l.place → get_or l.functions k 0 ≡ get_or l.beneath (k - 1) 0;
  rest : (k : ℕ) → 1 ≤ k → l.place ≤ k → get_or l.functions k 0 ≡ 0;
}
