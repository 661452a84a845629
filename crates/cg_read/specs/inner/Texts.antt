-- Texts by their numbers, and functions by those of their texts.
use Rattle.std.specs.Prelude.{◌≡◌, ◌==◌, ◌&&◌, ℕ, ◌<◌, Bool, List, [], All, length, slice_get, slice_index_or, Option, None, Some}
use Rattle.std.specs.Ordering.{nat_cmp, ordering_then}
use Rattle.std.specs.declared.cmp.Ordering.{Ordering}
use Rattle.cg_read.specs.Profiles.{AreApart}
use Rattle.cg_read.specs.inner.Ids.{number_in}
use Rattle.cg_read.specs.declared.ids.Ids.{Ids}
use Rattle.cg_read.specs.declared.rows.FuncKey.{FuncKey}
use Rattle.cg_read.specs.declared.function_numbers.FunctionNumbers.{FunctionNumbers}

-- every text keeps its number
abbrev pub Keeps : List (List ℕ) → List (List ℕ) → Type 0
Keeps old new = (n : ℕ) (text : List ℕ) → slice_get old n ≡ Some text → slice_get new n ≡ Some text

-- a number is known just where a text is meant, and is that text's
abbrev pub Means : List (List ℕ) → Option ℕ → Option (List ℕ) → Type 0
Means texts None None = Unit {0}
Means texts (Some n) (Some text) = slice_get texts n ≡ Some text
Means texts _ _ = ⊥

-- each id stands for the text that is meant
abbrev pub Tells : List (List ℕ) → Ids → (List ℕ → Option (List ℕ)) → Type 0
Tells texts ids meant = (id : List ℕ) → Means texts (number_in ids id) (meant id)

-- the numbers are those of the function's texts
pub record Names (texts : List (List ℕ)) (numbers : FunctionNumbers) (function : FuncKey) : Type 0 where
  pub object : slice_get texts numbers.object ≡ Some function.object
  pub file : slice_get texts numbers.file ≡ Some function.file
  pub name : slice_get texts numbers.name ≡ Some function.name

-- all three are numbers of so many texts
pub record IsOfTexts (count : ℕ) (numbers : FunctionNumbers) : Type 0 where
  pub object : numbers.object < count
  pub file : numbers.file < count
  pub name : numbers.name < count

-- functions are the same whose texts have the same numbers
abbrev pub numbers_eq : FunctionNumbers → FunctionNumbers → Bool
numbers_eq x y = (x.object == y.object) && ((x.file == y.file) && (x.name == y.name))

-- by object, then file, then name
abbrev pub numbers_order : FunctionNumbers → FunctionNumbers → Ordering
numbers_order x y =
    ordering_then (nat_cmp x.object y.object) (ordering_then (nat_cmp x.file y.file) (nat_cmp x.name y.name))

-- the texts differ, and the functions are of them
pub record AreOfTexts (texts : List (List ℕ)) (numbered : List FunctionNumbers) : Type 0 where
  pub differ : AreApart texts
  pub of_texts : All (IsOfTexts (length texts)) numbered

abbrev pub text_in : List (List ℕ) → ℕ → List ℕ
text_in texts n = slice_index_or texts n []

abbrev pub function_in : List (List ℕ) → FunctionNumbers → FuncKey
function_in texts numbers = record {
  object = text_in texts numbers.object;
  file = text_in texts numbers.file;
  name = text_in texts numbers.name;
}
