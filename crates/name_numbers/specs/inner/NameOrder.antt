-- Names by their numbers, with their first bytes beside them.
use Rattle.std.specs.Prelude.{◌≡◌, ℕ, ◌<◌, Bool, List, [], All, Contains, length, map, drop, slice_index_or}
use Rattle.std.specs.Ordering.{nat_cmp, is_lt, ordering_then}
use Rattle.std.specs.Cmp.Lexicographic.{slice_cmp}
use Rattle.std.specs.declared.cmp.Ordering.{Ordering}
use Rattle.name_numbers.specs.declared.name_order.Fronted.{Fronted}
use Rattle.name_numbers.specs.inner.Fronts.{IsFront}

-- the name of this number
abbrev pub name_of : List (List ℕ) → ℕ → List ℕ
name_of names number = slice_index_or names number []

abbrev pub name_in : List (List ℕ) → Fronted → List ℕ
name_in names one = name_of names one.number

-- the name without so many bytes at its front
abbrev pub tail_of : List (List ℕ) → ℕ → ℕ → List ℕ
tail_of names skip number = drop skip (name_of names number)

-- by the fronts, and then by the names without so many bytes
abbrev pub by_front : List (List ℕ) → ℕ → Fronted → Fronted → Ordering
by_front names skip x y =
    ordering_then (nat_cmp x.front y.front)
    (slice_cmp nat_cmp (tail_of names skip x.number) (tail_of names skip y.number))

abbrev pub is_name_before : List (List ℕ) → Fronted → Fronted → Bool
is_name_before names x y = is_lt (slice_cmp nat_cmp (name_in names x) (name_in names y))

-- the front is that of the name without so many bytes
abbrev pub IsFronted : List (List ℕ) → ℕ → Fronted → Type 0
IsFronted names skip one = IsFront (tail_of names skip one.number) 8 one.front

-- these have all numbers below this one
pub record AreAllNumbers (count : ℕ) (order : List Fronted) : Type 0 where
  pub as_many : length order ≡ count
  pub below : All (λ one. one.number < count) order
  pub all : (k : ℕ) → k < count → Contains (map (λ one. one.number) order) k

-- what has the same name has the same front
abbrev pub HaveOneFrontEach : List (List ℕ) → List Fronted → Type 0
HaveOneFrontEach names order = (x y : Fronted) → Contains order x → Contains order y
    → name_in names x ≡ name_in names y → x.front ≡ y.front
