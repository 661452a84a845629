-- Rows in the order of their functions.
use Rattle.std.proofs.Common.{◌≡◌, ℕ, zero, suc, ◌<◌, ◌≤◌, ◌==◌, nat_lt, Bool, true, false, cond, not, ◌&&◌, ◌⊎◌, inl}
use Rattle.std.proofs.Common.{inr, List, [], ◌∷◌, ◌++◌, get_or, flat_map, All, refl, ap, sym, ◌∙◌, arith}
use Rattle.std.specs.List.{filter}
use Rattle.std.specs.List.Sorted.{IsNonDecreasingBy, IsStableByKey, ties}
use Rattle.std.specs.Ordering.{is_lt, nat_cmp}
use Rattle.std.proofs.lemmas.Bool.{cases_order}
use Rattle.std.proofs.lemmas.Bool.Decides.{nat_tests}
use Rattle.std.proofs.lemmas.List.{append-nil}
use Rattle.std.proofs.lemmas.List.Concat.{flat_map-append}
use Rattle.std.proofs.lemmas.List.Elements.{All-head, All-tail, filter_agree}
use Rattle.cg_format.specs.Rows.{below}

filter_yes : {X : Type 0} (p : X → Bool) (x : X) (xs : List X) → p x ≡ true → filter p (x ∷ xs) ≡ x ∷ filter p xs
filter_yes p x xs e = ap (λ b. cond b (x ∷ filter p xs) (filter p xs)) e

filter_no : {X : Type 0} (p : X → Bool) (x : X) (xs : List X) → p x ≡ false → filter p (x ∷ xs) ≡ filter p xs
filter_no p x xs e = ap (λ b. cond b (x ∷ filter p xs) (filter p xs)) e

filter_none : {X : Type 0} (p : X → Bool) (xs : List X) → All (λ x. p x ≡ false) xs → filter p xs ≡ []
filter_none p [] none = refl
filter_none {X} p (x ∷ xs) none =
    let P : X → Type 0 = λ y. p y ≡ false in
    filter_no p x xs (All-head P x xs none) ∙ filter_none p xs (All-tail P x xs none)

filter_each : {X : Type 0} (p : X → Bool) (xs : List X) → All (λ x. p x ≡ true) xs → filter p xs ≡ xs
filter_each p [] all = refl
filter_each {X} p (x ∷ xs) all =
    let P : X → Type 0 = λ y. p y ≡ true in
    filter_yes p x xs (All-head P x xs all) ∙ ap (λ ys. x ∷ ys) (filter_each p xs (All-tail P x xs all))

flat_map_agree : {X Y : Type 0} (f g : X → List Y) → ((x : X) → f x ≡ g x) → (xs : List X)
    → flat_map f xs ≡ flat_map g xs
flat_map_agree f g same [] = refl
flat_map_agree f g same (x ∷ xs) = ap (λ ys. ys ++ flat_map f xs) (same x)
    ∙ ap (λ ys. g x ++ ys) (flat_map_agree f g same xs)

-- what ties with a number is that number
tied : (m n : ℕ) → (not (is_lt (nat_cmp m n)) && not (is_lt (nat_cmp n m))) ≡ (n == m)
tied m n = grind (arith, nat_tests)

module _ {X : Type 0} (key : X → ℕ) where
  abbrev is_at : ℕ → X → Bool
  is_at n x = key x == n

  abbrev is_below : ℕ → X → Bool
  is_below n x = nat_lt (key x) n

  tail_rises : (x : X) (xs : List X) → IsNonDecreasingBy key (x ∷ xs) → IsNonDecreasingBy key xs
  tail_rises x xs rise = λ i j d up lt. rise (suc i) (suc j) d (omega arith) (omega arith)

  -- what follows an element isn't below it
  none_below : (x : X) (xs : List X) (n : ℕ) → n ≤ key x → IsNonDecreasingBy key (x ∷ xs)
      → All (λ y. is_below n y ≡ false) xs
  none_below x xs n up rise = λ k d lt. not_below (get_or xs k d) (rise 0 (suc k) d (omega arith) (omega arith))
    where
      not_below : (y : X) → key x ≤ key y → is_below n y ≡ false
      not_below y over = grind (arith, nat_tests)

  -- those up to a number are those below it and then those at it
  split_at : (n : ℕ) (xs : List X) → IsNonDecreasingBy key xs
      → filter (is_below (suc n)) xs ≡ filter (is_below n) xs ++ filter (is_at n) xs
  split_at n [] rise = refl
  split_at n (x ∷ xs) rise = by (split_at n xs (tail_rises x xs rise)) (cases_order (key x) n)
    where
      by : filter (is_below (suc n)) xs ≡ filter (is_below n) xs ++ filter (is_at n) xs
          → (key x ≡ n) ⊎ ((key x < n) ⊎ (n < key x))
          → filter (is_below (suc n)) (x ∷ xs) ≡ filter (is_below n) (x ∷ xs) ++ filter (is_at n) (x ∷ xs)
      by rest (inl same) =
          let before = filter_none (is_below n) xs (none_below x xs n (omega arith) rise) in
          filter_yes (is_below (suc n)) x xs (grind (arith, nat_tests))
          ∙ ap (λ ys. x ∷ ys) (rest ∙ ap (λ ys. ys ++ filter (is_at n) xs) before)
          ∙ sym (ap (λ ys. ys ++ filter (is_at n) (x ∷ xs))
          (filter_no (is_below n) x xs (grind (arith, nat_tests)) ∙ before)
          ∙ filter_yes (is_at n) x xs (grind (arith, nat_tests)))
      by rest (inr (inl less)) =
          filter_yes (is_below (suc n)) x xs (grind (arith, nat_tests)) ∙ ap (λ ys. x ∷ ys) rest
          ∙ sym (ap (λ ys. ys ++ filter (is_at n) (x ∷ xs)) (filter_yes (is_below n) x xs (grind (arith, nat_tests)))
          ∙ ap (λ ys. x ∷ (filter (is_below n) xs ++ ys)) (filter_no (is_at n) x xs (grind (arith, nat_tests))))
      by rest (inr (inr more)) =
          filter_no (is_below (suc n)) x xs (grind (arith, nat_tests)) ∙ rest
          ∙ sym (ap (λ ys. ys ++ filter (is_at n) (x ∷ xs)) (filter_no (is_below n) x xs (grind (arith, nat_tests)))
          ∙ ap (λ ys. filter (is_below n) xs ++ ys) (filter_no (is_at n) x xs (grind (arith, nat_tests))))

  below_grouped : (n : ℕ) (xs : List X) → IsNonDecreasingBy key xs
      → filter (is_below n) xs ≡ flat_map (λ k. filter (is_at k) xs) (below n)
  below_grouped zero xs rise = filter_none (is_below 0) xs (λ k d lt. none (get_or xs k d))
    where
      none : (x : X) → is_below 0 x ≡ false
      none x = grind (arith, nat_tests)
  below_grouped (suc n) xs rise =
      split_at n xs rise ∙ ap (λ ys. ys ++ filter (is_at n) xs) (below_grouped n xs rise)
      ∙ ap (λ ys. flat_map (λ k. filter (is_at k) xs) (below n) ++ ys) (sym (append-nil (filter (is_at n) xs)))
      ∙ sym (flat_map-append (λ k. filter (is_at k) xs) (below n) (n ∷ []))

  -- a list that rises stands group by group
  pub grouped : (n : ℕ) (xs : List X) → IsNonDecreasingBy key xs → All (λ x. key x < n) xs
      → xs ≡ flat_map (λ k. filter (is_at k) xs) (below n)
  grouped n xs rise small =
      sym (filter_each (is_below n) xs (λ k d lt. each (get_or xs k d) (small k d lt))) ∙ below_grouped n xs rise
    where
      each : (x : X) → key x < n → is_below n x ≡ true
      each x lt = grind (arith, nat_tests)

  abbrev ties_with : X → X → Bool
  ties_with x = ties (λ x y. is_lt (nat_cmp (key x) (key y))) x

  -- of a stable sort, each group is as it was
  pub stable_groups : (made : ℕ → X) → ((n : ℕ) → key (made n) ≡ n) → (xs ys : List X) → IsStableByKey key nat_cmp xs ys
      → (n : ℕ) → filter (is_at n) ys ≡ filter (is_at n) xs
  stable_groups made made_at xs ys stable n =
      filter_agree (is_at n) (ties_with (made n)) agrees ys ∙ stable (made n)
      ∙ sym (filter_agree (is_at n) (ties_with (made n)) agrees xs)
    where
      agrees : (x : X) → is_at n x ≡ ties_with (made n) x
      agrees x = ap (λ k. key x == k) (sym (made_at n)) ∙ sym (tied (key (made n)) (key x))

  -- a list that is sorted stably stands by the groups of the old one
  pub sorted_by_groups : (made : ℕ → X) → ((n : ℕ) → key (made n) ≡ n) → (n : ℕ) (xs ys : List X)
      → IsStableByKey key nat_cmp xs ys → IsNonDecreasingBy key ys → All (λ x. key x < n) ys
      → ys ≡ flat_map (λ k. filter (is_at k) xs) (below n)
  sorted_by_groups made made_at n xs ys stable rise small =
      grouped n ys rise small
      ∙ flat_map_agree (λ k. filter (is_at k) ys) (λ k. filter (is_at k) xs)
      (stable_groups made made_at xs ys stable) (below n)
