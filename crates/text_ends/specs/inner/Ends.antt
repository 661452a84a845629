-- The zero bytes of a section, at which texts end, and its end, which stands for one that isn't there.
use Rattle.std.specs.Prelude.{◌≡◌, ◌≢◌, ℕ, ◌+◌, ◌*◌, ◌/◌, ◌<◌, ◌≤◌, List, length, slice_index_or}

-- of the places from one on, this is the first that has a zero byte, or the end where none has
pub record IsEndFrom (bytes : List ℕ) (place end : ℕ) : Type 0 where
  pub within : end ≤ length bytes
  pub before : (k : ℕ) → place ≤ k → k < end → slice_index_or bytes k 1 ≢ 0
  pub zero : end < length bytes → (place ≤ end) × (slice_index_or bytes end 1 ≡ 0)

-- those from the start of each block of 32 bytes on, the first blocks left out, and the end of the section behind them
pub record AreEndsFrom (bytes : List ℕ) (first : ℕ) (ends : List ℕ) : Type 0 where
  pub blocks : length ends ≡ length bytes / 32 + 2
  pub each : (block d : ℕ) → first ≤ block → block < length ends
      → IsEndFrom bytes (block * 32) (slice_index_or ends block d)

-- those of all blocks
abbrev pub AreEnds : List ℕ → List ℕ → Type 0
AreEnds bytes ends = AreEndsFrom bytes 0 ends
