use Rattle.std.proofs.Common.{◌≡◌, ℕ, ◌+◌, ◌<◌}
use Rattle.std.specs.Prelude.{IsTrue}
use Rattle.guest_mem.specs.inner.Directory.{page_at, has_place}
use Rattle.guest_mem.proofs.directory.Directory.reserve_range.Given as goal

abbrev pub invariant-loop-step : goal.invariant-loop-step
invariant-loop-step l = record {
  pages : (p : ℕ) → page_at l.self p ≡ page_at l.initial.self p;
  places : (k : ℕ) → k < l.step → IsTrue (has_place l.self (l.first + k));
}
