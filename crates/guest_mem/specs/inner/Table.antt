-- Lists whose places are full or empty, and functions of numbers that change at some of them.
use Rattle.std.specs.Prelude.{◌≡◌, ℕ, ◌+◌, ◌==◌, ◌≤◌, ◌<◌, if◌then◌else◌, Bool, not, List, Option, None, is_some, true, false}
use Rattle.std.specs.Prelude.{slice_index_or, length}
use Rattle.guest_mem.specs.Memory.{in_range, count_below}
use Rattle.guest_mem.specs.declared.table.Gaps.{Gaps}

-- what stands at a place, and nothing past the end
abbrev pub at_place : {X : Type 0} → List (Option X) → ℕ → Option X
at_place places i = slice_index_or places i None

-- a function of numbers after its value at one of them changed
abbrev pub Alters : {X : Type 0} → (ℕ → X) → (ℕ → X) → ℕ → X → Type 0
Alters old new i x = (q : ℕ) → new q ≡ (if q == i then x else old q)

-- the same after its values at the n numbers from first on changed by f
abbrev pub AltersRange : {X : Type 0} → (ℕ → X) → (ℕ → X) → ℕ → ℕ → (X → X) → Type 0
AltersRange old new first n f = (q : ℕ) → new q ≡ (if in_range first n q then f (old q) else old q)

-- the places after one of them changed
abbrev pub PlaceChanged : {X : Type 0} → List (Option X) → List (Option X) → ℕ → Option X → Type 0
PlaceChanged old new i x = (length new ≡ length old) × Alters (at_place old) (at_place new) i x

-- how many of the 1,024 places of a level are full
unfoldable pub full_places : {X : Type 0} → List (Option X) → ℕ
full_places places = count_below (λ q. is_some (at_place places q)) 1024

-- the first number from one on, up to an end, at which a test answers as wanted; the end where it does so at none
pub record IsFirst (test : ℕ → Bool) (wanted : Bool) (from end found : ℕ) : Type 0 where
  pub low : from ≤ found
  pub high : found ≤ end
  pub passed : (q : ℕ) → from ≤ q → q < found → test q ≡ not wanted
  pub met : found < end → test found ≡ wanted

-- a test answers false at each of the n numbers from a on, as far as they are below an end
abbrev pub AreFree : (ℕ → Bool) → ℕ → ℕ → ℕ → Type 0
AreFree test a n end = (q : ℕ) → a ≤ q → q < a + n → q < end → test q ≡ false

-- the test answers true at the first place, and between it and the last one never false more often in a row than this
pub record AreGaps (test : ℕ → Bool) (gaps : Gaps) : Type 0 where
  pub begins : gaps.first < 1024
  pub ends : gaps.past ≤ 1024
  pub met : test gaps.first ≡ true
  pub none : (a n : ℕ) → gaps.first < a → a < gaps.past → gaps.widest < n → AreFree test a n gaps.past → ⊥
