-- A number that is made of a text's bytes, by which it is found.
use Rattle.std.specs.Prelude.{◌≡◌, ◌+◌, ◌*◌, ◌%◌, ◌⊎◌, ℕ, true, false, List, [], ◌∷◌, Some, is_some, slice_get}
use Rattle.std.specs.BTreeMap.{BTreeMap, get, is_at}
use Rattle.std.specs.List.{IsDistinct}
use Rattle.std.specs.Ordering.{nat_cmp}
use Rattle.std.specs.Str.{bytes_eq}
use Rattle.key_tables.specs.Ranks.{text_order}

-- the number, once one byte more is read
abbrev pub mix_more : ℕ → ℕ → ℕ
mix_more number byte = (number * 1099511628211 % 18446744073709551616 + byte) % 18446744073709551616

abbrev pub mixed_from : ℕ → List ℕ → ℕ
mixed_from number [] = number
mixed_from number (byte ∷ bytes) = mixed_from (mix_more number byte) bytes

abbrev pub mixed : List ℕ → ℕ
mixed bytes = mixed_from 0 bytes

-- the text is found by this number: as the first one of its mixed number, or by its bytes
abbrev pub IsFound : BTreeMap ℕ ℕ → BTreeMap (List ℕ) ℕ → List ℕ → ℕ → Type 0
IsFound firsts others text n = (get nat_cmp firsts (mixed text) ≡ Some n)
    ⊎ ((is_some (get nat_cmp firsts (mixed text)) ≡ true) × (get text_order others text ≡ Some n))

-- other texts than this one are found as before
abbrev pub KeepsTexts : List ℕ → BTreeMap ℕ ℕ → BTreeMap (List ℕ) ℕ → BTreeMap ℕ ℕ → BTreeMap (List ℕ) ℕ → Type 0
KeepsTexts text firsts others new_firsts new_others = (t : List ℕ) (n : ℕ) → is_at (text_order text) t ≡ false
    → IsFound firsts others t n → IsFound new_firsts new_others t n

-- each text stands once, and is found
pub record AreTexts (texts : List (List ℕ)) (firsts : BTreeMap ℕ ℕ) (others : BTreeMap (List ℕ) ℕ) : Type 0 where
  pub apart : IsDistinct bytes_eq texts
  pub found : (n : ℕ) (text : List ℕ) → slice_get texts n ≡ Some text → IsFound firsts others text n
