-- Lists with the same members.
use Rattle.std.proofs.Common.{◌≡◌, ℕ, ◌<◌, ◌↔◌, List, [], ◌∷◌, ◌++◌, length, get_or, map, refl, sym, ap, ◌∙◌}
use Rattle.std.proofs.Common.{zero, suc}
use Rattle.std.proofs.Common.{Contains, inl, inr, ◌⊎◌, ⊎_elim, arith, subst}
use Rattle.std.specs.Prelude.{All}
use Rattle.std.specs.List.Sorted.{IsPermutation}
use Rattle.std.proofs.lemmas.List.{length-map, get_or-map}
use Rattle.std.proofs.lemmas.List.Elements.{Contains-append_left, Contains-append_right, Contains-append_cases}
use Rattle.std.proofs.lemmas.List.Elements.{All-contains_itself, All-weaker, All-contains, Contains-push_cases}
use Rattle.std.specs.List.{insert}
use Rattle.std.proofs.lemmas.List.Sorted.{Contains-permutation, IsPermutation-sym, IsPermutation-insert}

-- two lists have the same members
abbrev pub Alike : {X : Type 0} → List X → List X → Type 0
Alike {X} xs ys = (x : X) → Contains xs x ↔ Contains ys x

module _ {X : Type 0} where
  pub Alike-refl : (xs ys : List X) → xs ≡ ys → Alike xs ys
  Alike-refl xs ys e = λ x. (
    (λ h. subst (λ (zs : List X). Contains zs x) e h),
    (λ h. subst (λ (zs : List X). Contains zs x) (sym e) h),
  )

  pub Alike-trans : (xs ys zs : List X) → Alike xs ys → Alike ys zs → Alike xs zs
  Alike-trans xs ys zs p q = λ x. ((λ h. (q x).0 ((p x).0 h)), (λ h. (p x).1 ((q x).1 h)))

  pub Alike-permutation : (xs ys : List X) → IsPermutation xs ys → Alike xs ys
  Alike-permutation xs ys p = λ x.
      (Contains-permutation xs ys x p, Contains-permutation ys xs x (IsPermutation-sym xs ys p))

  pub Contains-cons : (y : X) (xs : List X) (x : X) → Contains xs x → Contains (y ∷ xs) x
  Contains-cons y xs x h = Contains-append_right (y ∷ []) xs x h

  pub Contains-first : (x : X) (xs : List X) → Contains (x ∷ xs) x
  Contains-first x xs = (0, (omega arith), refl)

  pub first_or_rest : (y : X) (xs : List X) (x : X) → Contains (y ∷ xs) x → (y ≡ x) ⊎ Contains xs x
  first_or_rest y xs x h = go h.0 h.1 h.2
    where
      go : (k : ℕ) → k < length (y ∷ xs) → get_or (y ∷ xs) k x ≡ x → (y ≡ x) ⊎ Contains xs x
      go zero lt e = inl e
      go (suc k) lt e = inr (k, (omega arith), e)

  pub Alike-cons : (y : X) (xs zs : List X) → Alike xs zs → Alike (y ∷ xs) (y ∷ zs)
  Alike-cons y xs zs p = λ x. (step xs zs x (p x).0, step zs xs x (p x).1)
    where
      step : (us vs : List X) (x : X) → (Contains us x → Contains vs x) → Contains (y ∷ us) x → Contains (y ∷ vs) x
      step us vs x f h =
          ⊎_elim (λ a. Contains-append_left (y ∷ []) vs x a) (λ b. Contains-cons y vs x (f b))
          (Contains-append_cases (y ∷ []) us x h)

  pub Alike-append : (xs ys zs : List X) → Alike xs ys → Alike (xs ++ zs) (ys ++ zs)
  Alike-append xs ys zs p = λ x. (step xs ys x (p x).0, step ys xs x (p x).1)
    where
      step : (us vs : List X) (x : X) → (Contains us x → Contains vs x) → Contains (us ++ zs) x
          → Contains (vs ++ zs) x
      step us vs x f h =
          ⊎_elim (λ a. Contains-append_left vs zs x (f a)) (λ b. Contains-append_right vs zs x b)
          (Contains-append_cases us zs x h)

  -- one that is there is pushed once more
  pub Alike-again : (xs : List X) (x : X) → Contains xs x → Alike xs (xs ++ x ∷ [])
  Alike-again xs x there = λ y. (
    Contains-append_left xs (x ∷ []) y,
    λ h. ⊎_elim (λ a. a) (λ (e : x ≡ y). subst (λ z. Contains xs z) e there) (Contains-push_cases xs x y h),
  )

  -- an inserted one comes first
  pub Alike-inserted : (y : X) (xs : List X) (i : ℕ) → Alike (insert xs i y) (y ∷ xs)
  Alike-inserted y xs i =
      let moved : IsPermutation (y ∷ xs) (insert xs i y) = IsPermutation-insert xs i y in
      Alike-permutation (insert xs i y) (y ∷ xs) (IsPermutation-sym (y ∷ xs) (insert xs i y) moved)

  pub All-alike : (P : X → Type 0) (xs ys : List X) → Alike ys xs → All P xs → All P ys
  All-alike P xs ys p all = All-weaker (Contains ys) P (λ x h. All-contains P xs x all ((p x).0 h)) ys
      (All-contains_itself ys)

module _ {X Y : Type 0} (f : X → Y) where
  pub Contains-map : (xs : List X) (x : X) → Contains xs x → Contains (map f xs) (f x)
  Contains-map xs x h =
      let long = length-map xs f in
      let there = h.1 in
      (h.0, (omega arith), get_or-map f xs h.0 x (f x) h.1 ∙ ap f h.2)

  origin : (xs : List X) (k : ℕ) (y : Y) → k < length (map f xs) → get_or (map f xs) k y ≡ y
      → (x : X) × Contains xs x × (f x ≡ y)
  origin [] k y lt e = absurd (omega arith)
  origin (x ∷ xs) zero y lt e = (x, Contains-first x xs, e)
  origin (x ∷ xs) (suc k) y lt e = let inner =
      origin xs k y (omega arith) e in (inner.0, Contains-cons x xs inner.0 inner.1, inner.2)

  pub Contains-from_map : (xs : List X) (y : Y) → Contains (map f xs) y → (x : X) × Contains xs x × (f x ≡ y)
  Contains-from_map xs y h = origin xs h.0 y h.1 h.2

  pub Alike-map : (xs ys : List X) → Alike xs ys → Alike (map f xs) (map f ys)
  Alike-map xs ys p = λ y. (step xs ys y (λ x. (p x).0), step ys xs y (λ x. (p x).1))
    where
      step : (us vs : List X) (y : Y) → ((x : X) → Contains us x → Contains vs x) → Contains (map f us) y
          → Contains (map f vs) y
      step us vs y g h =
          let from = Contains-from_map us y h in
          subst (λ (z : Y). Contains (map f vs) z) from.2 (Contains-map vs from.0 (g from.0 from.1))
