use Rattle.std.proofs.Common.{◌≡◌, ℕ, ◌<◌, length, get_or}
use Rattle.guest_sys.proofs.clock.random_bytes.Given as goal

abbrev pub invariant-bytes : goal.invariant-bytes
invariant-bytes l = (length l.bytes ≡ 256) × ((k : ℕ) → k < l.place → get_or l.bytes k 0 ≡ k)
