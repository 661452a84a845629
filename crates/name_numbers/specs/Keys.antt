-- Keys and their numbers.
use Rattle.std.specs.Prelude.{◌≡◌, ℕ, ◌<◌, List, length, slice_get, slice_index}

-- Each number stands for the key at the same place: it is the place of that key among all of them.
pub record NumberEach {K : Type 0} (keys : List K) (numbers : List ℕ) (wanted : List K) : Type 0 where
  pub as_many : length numbers ≡ length wanted
  pub each : (k : ℕ) → k < length wanted → slice_get keys (slice_index numbers k) ≡ slice_get wanted k
