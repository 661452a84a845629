-- Where keys that are made of numbers of texts are found.
use Rattle.std.specs.Prelude.{◌≡◌, ℕ, ◌<◌, ◌⊎◌, Bool, false, List, length, Option, Some, slice_get, slice_index_or}
use Rattle.std.specs.BTreeMap.{BTreeMap, get, is_at}
use Rattle.std.specs.List.{IsDistinct}
use Rattle.std.specs.declared.cmp.Ordering.{Ordering}

-- Among so many keys, the first key of the text has this number, or it is another key and the number is kept elsewhere.
pub record IsFound (firsts : List ℕ) (count text : ℕ) (other : Option ℕ) (number : ℕ) : Type 0 where
  pub within : text < length firsts
  pub there : slice_index_or firsts text 0 < count
  pub by : (slice_index_or firsts text 0 ≡ number) ⊎ (other ≡ Some number)

module _ {K : Type 0} (cmp : K → K → Ordering) (latest : K → ℕ) where
  -- the key is found by its number
  abbrev pub Finds : List ℕ → BTreeMap K ℕ → ℕ → K → ℕ → Type 0
  Finds firsts others count key number = IsFound firsts count (latest key) (get cmp others key) number

  -- each key stands once, and is found
  pub record AreNumbered (same : K → K → Bool) (keys : List K) (firsts : List ℕ) (others : BTreeMap K ℕ)
      : Type 0 where
    pub apart : IsDistinct same keys
    pub found : (n : ℕ) (key : K) → slice_get keys n ≡ Some key → Finds firsts others (length keys) key n

  -- keys that don't equal this one are found as before
  abbrev pub KeepsOthers : K → ℕ → List ℕ → BTreeMap K ℕ → List ℕ → BTreeMap K ℕ → Type 0
  KeepsOthers key count firsts others new_firsts new_others = (k : K) (n : ℕ) → is_at (cmp key) k ≡ false
      → Finds firsts others count k n → Finds new_firsts new_others count k n

-- each text has the first key that it had
abbrev pub KeepsFirsts : List ℕ → List ℕ → Type 0
KeepsFirsts old new = (text : ℕ) → text < length old
    → (text < length new) × (slice_index_or new text 0 ≡ slice_index_or old text 0)
