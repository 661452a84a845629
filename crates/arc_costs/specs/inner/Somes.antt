-- Which rows aren't nothing.
use Rattle.std.specs.Prelude.{◌≤◌, ℕ, suc, Bool, List, [], ◌∷◌, if◌then◌else◌, length, IsPermutation}

module _ {K A : Type 0} (is_some : A → Bool) where
  -- the indexes of the rows that aren't nothing, of rows that are counted from this number on
  abbrev pub some_from : ℕ → List (K × A) → List ℕ
  some_from start [] = []
  some_from start (e ∷ es) = if is_some e.1 then start ∷ some_from (suc start) es else some_from (suc start) es

  -- a list has the index of each row that isn't nothing once, and has room for that of each row
  pub record Knows (entries : List (K × A)) (some : List ℕ) (cap : ℕ) : Type 0 where
    pub each : IsPermutation (some_from 0 entries) some
    pub fits : length entries ≤ cap
