use Rattle.std.proofs.Common.{◌≡◌, ℕ}
use Rattle.guest_mem.specs.inner.Directory.{page_at}
use Rattle.guest_mem.proofs.directory.Directory.settle.Given as goal

abbrev pub invariant-loop-high : goal.invariant-loop-high
invariant-loop-high l = (p : ℕ) → page_at l.self p ≡ page_at l.initial.self p
