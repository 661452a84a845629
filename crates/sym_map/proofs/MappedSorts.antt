-- A list that is sorted by a field, and the list of that field.
use Rattle.std.proofs.Common.{◌≡◌, Bool, true, false, cond, List, [], ◌∷◌, map, refl, sym, ap}
use Rattle.std.proofs.Common.{◌∙◌, Contains}
use Rattle.std.specs.Prelude.{filter}
use Rattle.std.specs.Cmp.{IsStrictWeakOrder}
use Rattle.std.specs.List.Sorted.{IsPermutation, IsStableBy, ties}
use Rattle.std.proofs.lemmas.List.Sorted.{Contains-permutation, IsPermutation-map, IsPermutation-sym}
use Rattle.sym_map.proofs.Members.{Contains-from_map}
use Rattle.sym_map.proofs.Preference.{Found, none, some, found, filter_none, filter_same, ties_alike}

module _ {X Y : Type 0} (f : Y → X) where
  filter_of_map : (p : X → Bool) (ys : List Y) → filter p (map f ys) ≡ map f (filter (λ (y : Y). p (f y)) ys)
  filter_of_map p [] = refl
  filter_of_map p (y ∷ ys) = go (p (f y)) (filter_of_map p ys)
    where
      go : (b : Bool) → filter p (map f ys) ≡ map f (filter (λ (y : Y). p (f y)) ys)
          → cond b (f y ∷ filter p (map f ys)) (filter p (map f ys))
          ≡ map f (cond b (y ∷ filter (λ (y : Y). p (f y)) ys) (filter (λ (y : Y). p (f y)) ys))
      go true e = ap (λ xs. f y ∷ xs) e
      go false e = e

module _ {X Y : Type 0} (f : Y → X) (lt : X → X → Bool) (weak : IsStrictWeakOrder lt) where
  -- what ties with x is what ties with an element that ties with it
  tied_to : (x : X) (a : Y) (zs : List Y) → ties lt x (f a) ≡ true
      → filter (ties lt x) (map f zs) ≡ map f (filter (ties (λ (a b : Y). lt (f a) (f b)) a) zs)
  tied_to x a zs tied =
      filter_same (ties lt x) (ties lt (f a)) (map f zs) (λ z h. ties_alike lt weak x (f a) z tied)
      ∙ filter_of_map f (ties lt (f a)) zs

  pub stable_map : (xs ys : List Y) → IsPermutation xs ys → IsStableBy (λ (a b : Y). lt (f a) (f b)) xs ys
      → IsStableBy lt (map f xs) (map f ys)
  stable_map xs ys moved stable x = go (found (ties lt x) (map f xs))
    where
      back : (y : X) → Contains (map f ys) y → Contains (map f xs) y
      back y h = Contains-permutation (map f ys) (map f xs) y
          (IsPermutation-sym (map f xs) (map f ys) (IsPermutation-map f xs ys moved)) h

      go : Found (ties lt x) (map f xs) → filter (ties lt x) (map f ys) ≡ filter (ties lt x) (map f xs)
      go (none is fails) =
          filter_none (ties lt x) (map f ys) (λ y h. fails y (back y h))
          ∙ sym (filter_none (ties lt x) (map f xs) fails)
      go (some j y rest inside at passes before is filtered) =
          let from = Contains-from_map f xs y (j, inside, at) in
          let tied : ties lt x (f from.0) ≡ true = ap (ties lt x) from.2 ∙ passes in
          tied_to x from.0 ys tied ∙ ap (map f) (stable from.0) ∙ sym (tied_to x from.0 xs tied)
