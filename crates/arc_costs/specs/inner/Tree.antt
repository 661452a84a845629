-- Rows as a digital search tree. Of each row four numbers say where a search goes on, by the next digit of its key; 0
-- says that it ends, since it begins at row 0 and never comes back.
use Rattle.std.specs.Prelude.{◌≡◌, ◌≤◌, ◌<◌, ℕ, zero, suc, ◌+◌, ◌*◌, Bool, false, List, [], ◌∷◌, ◌++◌, Some}
use Rattle.std.specs.Prelude.{get_or, length, slice_get, slice_set}
use Rattle.std.specs.List.{IsDistinct}

-- these many rows fit without memory
pub record HasRoom (room len cap next next_cap : ℕ) : Type 0 where
  pub rows : len + room ≤ cap
  pub ways : next + 4 * room ≤ next_cap

abbrev pub way : ℕ → ℕ → ℕ
way row digit = 4 * row + digit

-- ways for one row more, with this one leading to it
abbrev pub with_row : List ℕ → ℕ → ℕ → List ℕ
with_row next end row = slice_set (next ++ 0 ∷ 0 ∷ 0 ∷ 0 ∷ []) end row

module _ (next : List ℕ) where
  abbrev pub following : ℕ → ℕ → ℕ
  following row digit = get_or next (way row digit) 0

  module _ (digits : ℕ → ℕ) where
    -- where a search stands after so many digits
    abbrev pub walk : ℕ → ℕ
    walk zero = 0
    walk (suc n) = following (walk n) (digits n)

    -- a search comes to this row
    pub record Reaches (row : ℕ) : Type 0 where
      pub steps : ℕ
      pub comes : walk steps ≡ row
      pub goes : (k : ℕ) → k < steps → 0 < walk (suc k)

    -- a search ends on this way, and the rows that it came by pass the test
    pub record Ends (passes : ℕ → Type 0) (end : ℕ) : Type 0 where
      pub steps : ℕ
      pub on : end ≡ way (walk steps) (digits steps)
      pub goes : (k : ℕ) → k < steps → 0 < walk (suc k)
      pub open_end : walk (suc steps) ≡ 0
      pub passed : (k : ℕ) → k ≤ steps → passes (walk k)

module _ {K : Type 0} (same : K → K → Bool) where
  -- the key of this row is another one
  abbrev pub Differs : K → List K → ℕ → Type 0
  Differs key keys row = (k : K) → slice_get keys row ≡ Some k → same key k ≡ false

  -- each row is found by its key's digits
  pub record IsTree (digit : K → ℕ → ℕ) (keys : List K) (next : List ℕ) : Type 0 where
    pub long : length next ≡ 4 * length keys
    -- a search goes to later rows alone
    pub rises : (row d : ℕ) → d < 4 → 0 < following next row d → row < following next row d
    pub within : (row d : ℕ) → d < 4 → 0 < following next row d → following next row d < length keys
    pub found : (i : ℕ) (k : K) → slice_get keys i ≡ Some k → Reaches next (digit k) i
    pub apart : IsDistinct same keys
