-- Lists by rising keys: there is one of given keys.
use Rattle.std.proofs.Common.{◌≡◌, List, [], ◌∷◌, map, refl, ap, sym, subst}
use Rattle.std.proofs.Common.{◌∙◌}
use Rattle.std.proofs.Common.{◌⊎◌, inl, inr}
use Rattle.std.specs.List.{AllByRecursion}
use Rattle.std.specs.List.Sorted.{IsStrictlySortedBy}
use Rattle.std.specs.BTreeSet.{insert_key}
use Rattle.std.specs.Ordering.{match_ordering, ordering_reverse}
use Rattle.std.specs.FinMap.{IsAntisymmetric}
use Rattle.std.specs.Cmp.{IsTotalOrder, tied_itself}
use Rattle.std.specs.declared.cmp.Ordering.{Ordering}
use Rattle.std.specs.declared.cmp.Ordering.TheVariants.{Less, Equal, Greater}
use Rattle.arc_costs.specs.Keys.{IsIn, risen}

pub in-map : {A B : Type 0} (f : A → B) (xs : List A) (x : A) → IsIn xs x → IsIn (map f xs) (f x)
in-map f [] x there = elim there [ ]
in-map f (y ∷ ys) x (inl is) = inl (ap f is)
in-map f (y ∷ ys) x (inr there) = inr (in-map f ys x there)

module _ {K : Type 0} (R : K → K → Ordering) (order : IsTotalOrder R) (only : IsAntisymmetric R) where
  -- each key is below those after it
  abbrev pub Rises : List K → Type 0
  Rises [] = Unit {0}
  Rises (k ∷ ks) = ((q : K) → IsIn ks q → R k q ≡ Less) × Rises ks

  below_all : (P : K → Type 0) (ks : List K) → AllByRecursion P ks → (q : K) → IsIn ks q → P q
  below_all P [] all q there = elim there [ ]
  below_all P (k ∷ ks) all q (inl is) = subst P is all.0
  below_all P (k ∷ ks) all q (inr there) = below_all P ks all.1 q there

  pub rises_from : (ks : List K) → IsStrictlySortedBy R ks → Rises ks
  unfolding IsStrictlySortedBy
  rises_from [] sorted = tt
  rises_from (k ∷ ks) sorted = (below_all (λ q. R k q ≡ Less) ks sorted.0, rises_from ks sorted.1)

  all_below : (P : K → Type 0) (ks : List K) → ((q : K) → IsIn ks q → P q) → AllByRecursion P ks
  all_below P [] each = tt
  all_below P (k ∷ ks) each = (each k (inl refl), all_below P ks (λ q there. each q (inr there)))

  pub sorted_from : (ks : List K) → Rises ks → IsStrictlySortedBy R ks
  unfolding IsStrictlySortedBy
  sorted_from [] rises = tt
  sorted_from (k ∷ ks) rises = (all_below (λ q. R k q ≡ Less) ks rises.0, sorted_from ks rises.1)

  pub not_below_itself : (k : K) → R k k ≡ Less → ⊥
  not_below_itself k less = let tied = tied_itself order k in absurd_orders (sym tied ∙ less)
    where
      absurd_orders : Equal ≡ Less → ⊥
      absurd_orders e = cc

  not_both : (k q : K) → R k q ≡ Less → R q k ≡ Less → ⊥
  not_both k q a b = not_below_itself k (order.trans k q k a b)

  -- two rising lists of the same keys are one
  pub one_list : (ks qs : List K) → Rises ks → Rises qs → ((k : K) → IsIn ks k → IsIn qs k)
      → ((k : K) → IsIn qs k → IsIn ks k) → ks ≡ qs
  one_list [] [] a b there back = refl
  one_list [] (q ∷ qs) a b there back = absurd (back q (inl refl))
  one_list (k ∷ ks) [] a b there back = absurd (there k (inl refl))
  one_list (k ∷ ks) (q ∷ qs) a b there back =
      let first : k ≡ q = heads (there k (inl refl)) (back q (inl refl)) in
      (λ i. first i ∷ one_list ks qs a.1 b.1
      (λ p inside. rest (there p (inr inside)) (λ e. not_below_itself k
      (subst (λ u. R k u ≡ Less) (sym e ∙ sym first) (a.0 p inside))))
      (λ p inside. rest_back (back p (inr inside)) (λ e. not_below_itself q
      (subst (λ u. R q u ≡ Less) (sym e ∙ first) (b.0 p inside)))) i)
    where
      heads : (q ≡ k) ⊎ IsIn qs k → (k ≡ q) ⊎ IsIn ks q → k ≡ q
      heads (inl e) back_ = sym e
      heads (inr x) (inl e) = e
      heads (inr x) (inr y) = absurd (not_both k q (a.0 q y) (b.0 k x))

      rest : {p : K} → (q ≡ p) ⊎ IsIn qs p → (q ≡ p → ⊥) → IsIn qs p
      rest (inl e) other = absurd (other e)
      rest (inr x) other = x

      rest_back : {p : K} → (k ≡ p) ⊎ IsIn ks p → (k ≡ p → ⊥) → IsIn ks p
      rest_back (inl e) other = absurd (other e)
      rest_back (inr x) other = x

  -- ---- one more key

  in_put : (ks : List K) (k x q : K) (r : Ordering) → ((p : K) → IsIn (insert_key R ks k) p → (k ≡ p) ⊎ IsIn ks p)
      → R k x ≡ r
      → IsIn (match_ordering r (k ∷ x ∷ ks) (x ∷ ks) (x ∷ insert_key R ks k)) q → (k ≡ q) ⊎ IsIn (x ∷ ks) q
  in_put ks k x q Less more e (inl is) = inl is
  in_put ks k x q Less more e (inr there) = inr there
  in_put ks k x q Equal more e there = inr there
  in_put ks k x q Greater more e (inl is) = inr (inl is)
  in_put ks k x q Greater more e (inr there) = elim (more q there) as (λ _. (k ≡ q) ⊎ IsIn (x ∷ ks) q) [
    | inl is ↦ inl is
    | inr before ↦ inr (inr before)
  ]

  pub put_from : (ks : List K) (k q : K) → IsIn (insert_key R ks k) q → (k ≡ q) ⊎ IsIn ks q
  put_from [] k q (inl is) = inl is
  put_from [] k q (inr there) = absurd there
  put_from (x ∷ ks) k q there = in_put ks k x q (R k x) (λ p h. put_from ks k p h) refl there

  new_put : (ks : List K) (k x : K) (r : Ordering) → R k x ≡ r → IsIn (insert_key R ks k) k
      → IsIn (match_ordering r (k ∷ x ∷ ks) (x ∷ ks) (x ∷ insert_key R ks k)) k
  new_put ks k x Less e there = inl refl
  new_put ks k x Equal e there = inl (sym (only k x e))
  new_put ks k x Greater e there = inr there

  pub put_new : (ks : List K) (k : K) → IsIn (insert_key R ks k) k
  put_new [] k = inl refl
  put_new (x ∷ ks) k = new_put ks k x (R k x) refl (put_new ks k)

  old_put : (ks : List K) (k x q : K) (r : Ordering) → (IsIn ks q → IsIn (insert_key R ks k) q) → IsIn (x ∷ ks) q
      → IsIn (match_ordering r (k ∷ x ∷ ks) (x ∷ ks) (x ∷ insert_key R ks k)) q
  old_put ks k x q Less more there = inr there
  old_put ks k x q Equal more there = there
  old_put ks k x q Greater more (inl is) = inl is
  old_put ks k x q Greater more (inr there) = inr (more there)

  pub put_old : (ks : List K) (k q : K) → IsIn ks q → IsIn (insert_key R ks k) q
  put_old [] k q there = elim there [ ]
  put_old (x ∷ ks) k q there = old_put ks k x q (R k x) (λ h. put_old ks k q h) there

  rises_put : (ks : List K) (k x : K) (r : Ordering) → R k x ≡ r → Rises (x ∷ ks) → Rises (insert_key R ks k)
      → Rises (match_ordering r (k ∷ x ∷ ks) (x ∷ ks) (x ∷ insert_key R ks k))
  rises_put ks k x Less e rises more = (
    (λ q there. elim there as (λ _. R k q ≡ Less) [
      | inl is ↦ subst (λ u. R k u ≡ Less) is e
      | inr after ↦ order.trans k x q e (rises.0 q after)
    ]),
    rises,
  )
  rises_put ks k x Equal e rises more = rises
  rises_put ks k x Greater e rises more = (
    (λ q there. elim (put_from ks k q there) as (λ _. R x q ≡ Less) [
      | inl is ↦ subst (λ u. R x u ≡ Less) is (order.antisymm x k ∙ ap ordering_reverse e)
      | inr before ↦ rises.0 q before
    ]),
    more,
  )

  pub put_rises : (ks : List K) (k : K) → Rises ks → Rises (insert_key R ks k)
  put_rises [] k rises = ((λ q there. absurd there), tt)
  put_rises (x ∷ ks) k rises = rises_put ks k x (R k x) refl rises (put_rises ks k rises.1)

  -- ---- all keys of a list

  pub risen_rises : (ks : List K) → Rises (risen R ks)
  risen_rises [] = tt
  risen_rises (k ∷ ks) = put_rises (risen R ks) k (risen_rises ks)

  pub in_risen : (ks : List K) (q : K) → IsIn ks q → IsIn (risen R ks) q
  in_risen [] q there = elim there [ ]
  in_risen (k ∷ ks) q (inl is) = subst (IsIn (insert_key R (risen R ks) k)) is (put_new (risen R ks) k)
  in_risen (k ∷ ks) q (inr there) = put_old (risen R ks) k q (in_risen ks q there)

  pub risen_in : (ks : List K) (q : K) → IsIn (risen R ks) q → IsIn ks q
  risen_in [] q there = elim there [ ]
  risen_in (k ∷ ks) q there = elim (put_from (risen R ks) k q there) as (λ _. IsIn (k ∷ ks) q) [
    | inl is ↦ inl is
    | inr before ↦ inr (risen_in ks q before)
  ]
