-- Lists in vectors.
use Rattle.std.specs.Prelude.{◌≡◌, ℕ, ◌<◌, List, [], length, map, slice_index_or, Vec}
use Rattle.std.specs.declared.alloc.Global.{Global}

module _ {X : Type 0} where
  -- the lists in vectors, and one of them
  abbrev pub lists : List (Vec X Global) → List (List X)
  lists rows = map (λ row. row.items) rows

  abbrev pub list_at : List (Vec X Global) → ℕ → List X
  list_at rows n = slice_index_or (lists rows) n []

  -- so many lists, and each is what stands for its number
  pub record AreLists (count : ℕ) (expected : ℕ → List X) (rows : List (Vec X Global)) : Type 0 where
    pub size : length rows ≡ count
    pub exact : (n : ℕ) → n < count → list_at rows n ≡ expected n
