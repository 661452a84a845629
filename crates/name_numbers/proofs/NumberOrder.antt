-- Numbers of keys compare as the keys do, and lists that are sorted by what is made of their elements.
use Rattle.std.proofs.Common.{◌≡◌, ℕ, ◌+◌, ◌<◌, Bool, List, [], ◌∷◌, Some, length, get_or, map, refl, sym, ap, ◌∙◌, suc}
use Rattle.std.proofs.Common.{◌⊎◌, ⊎_elim, Ordering, arith, option_map}
use Rattle.std.specs.Prelude.{slice_get, slice_index}
use Rattle.std.specs.declared.cmp.Ordering.TheVariants.{Less, Equal, Greater}
use Rattle.std.specs.Cmp.{IsTotalOrder, nat_cmp_is}
use Rattle.std.specs.Ordering.{nat_cmp, ordering_reverse}
use Rattle.std.specs.List.Sorted.{IsSortedBy, IsStrictlySortedBy}
use Rattle.std.proofs.lemmas.Cmp.{tied_itself}
use Rattle.std.proofs.lemmas.List.{length-map, get_or-map}
use Rattle.std.proofs.lemmas.Option.{get_or_from_slice_get, slice_get_within, slice_get-map}
use Rattle.name_numbers.specs.Keys.{NumberEach}
use Rattle.name_numbers.proofs.Rising.{far}

-- numbers in a list that rises compare as what they stand for
pub number_order : {K : Type 0} (R : K → K → Ordering) → IsTotalOrder R → (keys : List K) → IsStrictlySortedBy R keys
    → (i j : ℕ) (a b : K) → slice_get keys i ≡ Some a → slice_get keys j ≡ Some b → nat_cmp i j ≡ R a b
number_order R order keys rise i j a b at there =
    let first : get_or keys i a ≡ a = get_or_from_slice_get keys i a a at in
    let second : get_or keys j a ≡ b = get_or_from_slice_get keys j b a there in
    ⊎_elim
    (λ (lt : i < j).
    let less : R (get_or keys i a) (get_or keys j a) ≡ Less =
    far R order keys rise i j a lt (slice_get_within keys j b there) in
    sym (nat_cmp_is i j Less lt) ∙ sym (ap (λ x. R x b) (sym first)
    ∙ ap (λ y. R (get_or keys i a) y) (sym second) ∙ less))
    (λ (rest : (i ≡ j) ⊎ (j < i)).
    ⊎_elim
    (λ (same : i ≡ j).
    let alike : a ≡ b = sym first ∙ ap (λ k. get_or keys k a) same ∙ second in
    sym (nat_cmp_is i j Equal same) ∙ sym (ap (λ y. R a y) (sym alike) ∙ tied_itself order a))
    (λ (gt : j < i).
    let less : R (get_or keys j a) (get_or keys i a) ≡ Less =
    far R order keys rise j i a gt (slice_get_within keys i a at) in
    let back : R b a ≡ Less = ap (λ x. R x a) (sym second) ∙ ap (λ y. R (get_or keys j a) y) (sym first) ∙ less in
    sym (nat_cmp_is i j Greater gt) ∙ sym (order.antisymm a b ∙ ap ordering_reverse back))
    rest)
    (let P : (i < j) ⊎ ((i ≡ j) ⊎ (j < i)) = grind arith in P)

pub nested : {X Y Z : Type 0} (f : X → Y) (g : Y → Z) (xs : List X) → map g (map f xs) ≡ map (λ x. g (f x)) xs
nested f g [] = refl
nested f g (x ∷ xs) = ap (λ ys. g (f x) ∷ ys) (nested f g xs)

-- the numbers without the first one
pub rest_numbered : {K : Type 0} (keys : List K) (m : ℕ) (ms : List ℕ) (f : K) (fs : List K)
    → NumberEach keys (m ∷ ms) (f ∷ fs) → NumberEach keys ms fs
rest_numbered keys m ms f fs each =
    record { as_many = (let e = each.as_many in omega arith); each = λ k lt. each.each (suc k) (omega arith) }

-- what numbers keys numbers what is made of them
pub numbers_mapped : {K F : Type 0} (f : K → F) (keys : List K) (numbers : List ℕ) (all : List K)
    → NumberEach keys numbers all → NumberEach (map f keys) numbers (map f all)
numbers_mapped f keys numbers all so = record {
  as_many = so.as_many ∙ sym (length-map all f);
  each = λ k lt.
      let long = length-map all f in
      slice_get-map f keys (slice_index numbers k) ∙ ap (option_map f) (so.each k (omega (arith, long)))
      ∙ sym (slice_get-map f all k);
}

module _ {X Y : Type 0} (f : Y → X) (lt : X → X → Bool) where
  pub sorted_map : (ys : List Y) → IsSortedBy (λ (a b : Y). lt (f a) (f b)) ys → IsSortedBy lt (map f ys)
  sorted_map [] sorted k d low high = absurd (omega arith)
  sorted_map (y ∷ ys) sorted k d low high =
      let long : length (map f (y ∷ ys)) ≡ length (y ∷ ys) = length-map (y ∷ ys) f in
      let next : get_or (map f (y ∷ ys)) (k + 1) d ≡ f (get_or (y ∷ ys) (k + 1) y) =
      get_or-map f (y ∷ ys) (k + 1) y d (omega (arith, long, high)) in
      let here : get_or (map f (y ∷ ys)) k d ≡ f (get_or (y ∷ ys) k y) =
      get_or-map f (y ∷ ys) k y d (omega (arith, long, high)) in
      ap (λ (x : X). lt x (get_or (map f (y ∷ ys)) k d)) next
      ∙ ap (λ (x : X). lt (f (get_or (y ∷ ys) (k + 1) y)) x) here
      ∙ sorted k y low (omega (arith, long, high))
