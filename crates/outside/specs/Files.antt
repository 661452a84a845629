-- What a folder holds: a finite map from names to bytes, both as lists of bytes.
use Rattle.std.specs.Prelude.{◌≡◌, ◌≢◌, ℕ, ◌+◌, ◌-◌, ◌^◌, ◌≤◌, min, List, Option, Some, None}
use Rattle.std.specs.FinMap as map
use Rattle.std.specs.Ordering.{nat_cmp}
use Rattle.std.specs.Cmp.Lexicographic.{slice_cmp}
use Rattle.std.specs.Coded.{Coded, coded_ℕ, coded_list}

abbrev pub Files : Type 0
Files = map.FinMap (slice_cmp nat_cmp) (List ℕ)

abbrev pub files_code : Coded Files
files_code = map.code (coded_list coded_ℕ) (coded_list coded_ℕ)

-- the bytes under a name
abbrev pub file : Files → List ℕ → Option (List ℕ)
file files name = map.get files name

-- the files once this name has these bytes
abbrev pub with_file : Files → List ℕ → List ℕ → Files
with_file files name bytes = map.insert files name bytes

-- Every file but the one of this name is as it was. A folder neither begins nor ceases to tell what it holds.
abbrev pub SameBut : List ℕ → Option Files → Option Files → Type 0
SameBut name (Some before) (Some now) = (other : List ℕ) → other ≢ name → file now other ≡ file before other
SameBut name (Some before) None = ⊥
SameBut name None (Some now) = ⊥
SameBut name None None = Unit {0}

-- A count of faults rose. A counter that stands at its last value can't show it, so there it counts as risen.
abbrev pub Rose : ℕ → ℕ → Type 0
Rose before now = min (before + 1) (2 ^ 64 - 1) ≤ now
