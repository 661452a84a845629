-- Numbers in the order of their keys: there is one such order.
use Rattle.std.proofs.Common.{◌≡◌, ℕ, suc, ◌<◌, false, List, [], ◌∷◌, get_or, length, map, refl, sym, ap, subst, ◌∙◌}
use Rattle.std.proofs.Common.{add-one, inl, inr, arith}
use Rattle.std.specs.List.{AllByRecursion}
use Rattle.std.specs.Cmp.{IsTotalOrder}
use Rattle.std.specs.FinMap.{IsAntisymmetric}
use Rattle.std.specs.Ordering.{is_lt, ordering_reverse}
use Rattle.std.specs.declared.cmp.Ordering.{Ordering}
use Rattle.std.specs.declared.cmp.Ordering.TheVariants.{Less, Equal, Greater}
use Rattle.std.proofs.lemmas.List.{get_or-map, length-map}
use Rattle.std.proofs.lemmas.List.Elements.{recursion_from_All}
use Rattle.std.proofs.lemmas.List.FromFn.{get_or-range_with_len, length-range_with_len}
use Rattle.arc_costs.specs.Keys.{IsIn}
use Rattle.report_laws.proofs.Others.{Rises, in-map, one_list}
use Rattle.ctx_rows.proofs.NamedLemmas.{in_from_contains, in_permutation}
use Rattle.report_rows.specs.Orders.{IsArranged, numbers}
pub use Rattle.report_rows.proofs.OrderLemmas.{all_below, numbers_below, places_differ}

module _ {K : Type 0} (R : K → K → Ordering) where
  -- the numbers below a count in the order of their keys, from which each is known again
  pub record IsInOrder (key : ℕ → K) (back : K → ℕ) (count : ℕ) (xs : List ℕ) : Type 0 where
    pub again : (i : ℕ) → i < count → i ≡ back (key i)
    pub is : IsArranged (λ i j. R (key i) (key j)) (numbers count) xs

  -- each key below the one count is one below the other
  abbrev pub AreAmong : (ℕ → K) → ℕ → (ℕ → K) → ℕ → Type 0
  AreAmong key count other more = (i : ℕ) → i < count → (j : ℕ) × (j < more) × (other j ≡ key i)

  known_again : (key : ℕ → K) (back : K → ℕ) (count : ℕ) (xs : List ℕ) → ((i : ℕ) → i < count → i ≡ back (key i))
      → AllByRecursion (λ i. i < count) xs → map back (map key xs) ≡ xs
  known_again key back count [] again below = refl
  known_again key back count (x ∷ xs) again below =
      λ i. sym (again x below.0) i ∷ known_again key back count xs again below.1 i

  keyed_from : (key : ℕ → K) (count : ℕ) (xs : List ℕ) → AllByRecursion (λ i. i < count) xs → (k : K)
      → IsIn (map key xs) k → (i : ℕ) × (i < count) × (key i ≡ k)
  keyed_from key count [] below k there = elim there [ ]
  keyed_from key count (x ∷ xs) below k (inl is) = (x, below.0, is)
  keyed_from key count (x ∷ xs) below k (inr there) = keyed_from key count xs below.1 k there

  module _ (order : IsTotalOrder R) (only : IsAntisymmetric R) where
    less : (a b : K) → is_lt (R b a) ≡ false → (a ≡ b → ⊥) → R a b ≡ Less
    less a b not_less apart = by (R a b) refl
      where
        by : (o : Ordering) → R a b ≡ o → o ≡ Less
        by Less e = refl
        by Equal e = absurd (apart (only a b e))
        by Greater e = absurd (never (sym (ap is_lt (order.antisymm b a ∙ ap ordering_reverse e)) ∙ not_less))
          where
            never : is_lt Less ≡ false → ⊥
            never e = cc

    abbrev AreNear : List K → Type 0
    AreNear ks = (i : ℕ) (d : K) → suc i < length ks → R (get_or ks i d) (get_or ks (suc i) d) ≡ Less

    above : (k : K) (ks : List K) → AreNear (k ∷ ks) → (q : K) → IsIn ks q → R k q ≡ Less
    above k [] near q there = elim there [ ]
    above k (x ∷ ks) near q (inl is) = subst (λ z. R k z ≡ Less) is (near 0 k (omega arith))
    above k (x ∷ ks) near q (inr there) =
        order.trans k x q (near 0 k (omega arith))
        (above x ks (λ i d lt. near (suc i) d (omega (arith, lt))) q there)

    rises : (ks : List K) → AreNear ks → Rises R order only ks
    rises [] near = tt
    rises (k ∷ ks) near = (above k ks near, rises ks (λ i d lt. near (suc i) d (omega (arith, lt))))

    module _ (key : ℕ → K) (back : K → ℕ) (count : ℕ) (xs : List ℕ) (are : IsInOrder key back count xs) where
      below : AllByRecursion (λ i. i < count) xs
      below = recursion_from_All (λ i. i < count) xs (all_below count xs are.is.same)

      rise : Rises R order only (map key xs)
      rise = rises (map key xs) at
        where
          at : (k : ℕ) (d : K) → suc k < length (map key xs)
              → R (get_or (map key xs) k d) (get_or (map key xs) (suc k) d) ≡ Less
          at k d lt =
              let size = length-map xs key in
              let here : k < length xs = omega (arith, lt, size) in
              let next : suc k < length xs = omega (arith, lt, size) in
              let x = get_or xs k 0 in
              let y = get_or xs (suc k) 0 in
              let in_x = all_below count xs are.is.same k 0 here in
              let in_y = all_below count xs are.is.same (suc k) 0 next in
              (λ i. R (get_or-map key xs k 0 d here i) (get_or-map key xs (suc k) 0 d next i))
              ∙ less (key x) (key y)
              (subst (λ m. is_lt (R (key (get_or xs m 0)) (key x)) ≡ false) (add-one k)
              (are.is.sorted k 0 (omega arith) (omega (arith, next))))
              (λ e. places_differ count xs k (suc k) are.is.same (omega arith) next
              (are.again x in_x ∙ ap back e ∙ sym (are.again y in_y)))

      there : (i : ℕ) → i < count → IsIn (map key xs) (key i)
      there i lt =
          let size = length-range_with_len 0 count in
          in-map key xs i
          (in_permutation (numbers count) xs i are.is.same (in_from_contains (numbers count) i
          (i, omega (arith, lt, size), get_or-range_with_len 0 count i i lt ∙ omega arith)))

    -- Two lists in order, of which each has the keys of the other, have their keys in one order.
    pub one_order : (key other : ℕ → K) (back from : K → ℕ) (count more : ℕ) (xs ys : List ℕ)
        → IsInOrder key back count xs → IsInOrder other from more ys → AreAmong key count other more
        → AreAmong other more key count → ys ≡ map from (map key xs)
    one_order key other back from count more xs ys are also among and_back =
        sym (known_again other from more ys also.again (below other from more ys also))
        ∙ ap (map from) (sym (one_list R order only (map key xs) (map other ys) (rise key back count xs are)
        (rise other from more ys also)
        (λ k inside. to key other count more xs ys (below key back count xs are) (there other from more ys also) among k
        inside)
        (λ k inside. to other key more count ys xs (below other from more ys also) (there key back count xs are) and_back
        k inside)))
      where
        to : (key other : ℕ → K) (count more : ℕ) (xs ys : List ℕ) → AllByRecursion (λ i. i < count) xs
            → ((j : ℕ) → j < more → IsIn (map other ys) (other j)) → AreAmong key count other more → (k : K)
            → IsIn (map key xs) k → IsIn (map other ys) k
        to key other count more xs ys low has among k inside =
            let at = keyed_from key count xs low k inside in
            let same = among at.0 at.1 in
            subst (IsIn (map other ys)) (same.2 ∙ at.2) (has same.0 same.1)
