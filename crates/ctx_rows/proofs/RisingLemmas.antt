-- A sorted list in which each key comes once rises strictly.
use Rattle.std.proofs.Common.{◌≡◌, ℕ, suc, ◌+◌, ◌≤◌, Bool, true, false, List, [], ◌∷◌, get_or, map}
use Rattle.std.proofs.Common.{refl, ap, sym, subst, ◌∙◌, arith, inl, inr, if◌then◌else◌}
use Rattle.std.specs.Cmp.{IsTotalOrder}
use Rattle.std.specs.FinMap.{IsAntisymmetric}
use Rattle.std.specs.List.Sorted.{IsSortedBy}
use Rattle.std.specs.Ordering.{is_lt, ordering_reverse}
use Rattle.std.specs.declared.cmp.Ordering.{Ordering}
use Rattle.std.specs.declared.cmp.Ordering.TheVariants.{Less, Equal, Greater}
use Rattle.std.proofs.lemmas.List.MinMax.{ranks_by}
use Rattle.std.proofs.lemmas.List.Sorted.{sorted_far}
use Rattle.std.proofs.lemmas.List.Sums.{sum_by-cons}
use Rattle.arc_costs.specs.Rows as rows
use Rattle.recorder.specs.Laws.{IsIn}
use Rattle.ctx_rows.proofs.Others.{from_map}
use Rattle.arc_costs.proofs.RiseLemmas as rise
use Rattle.ctx_rows.proofs.NamedLemmas.{contains_from_in}

module _ {C K : Type 0} (key : C → K) (same : K → K → Bool) (order : K → K → Ordering) (total : IsTotalOrder order)
    (only : IsAntisymmetric order) (alike : (a b : K) → same a b ≡ true → a ≡ b) (itself : (a : K)
    → same a a ≡ true) where
  -- how many elements have a key
  abbrev pub many : K → List C → ℕ
  many k xs = rows.sum_at key same (λ c. 1) k xs

  some_there : (x : C) (xs : List C) → IsIn xs x → 1 ≤ many (key x) xs
  some_there x [] there = elim there [ ]
  some_there x (y ∷ ys) (inl is) =
      let all = sum_by-cons (λ c. if same (key x) (key c) then 1 else 0) y ys in
      let here : ◌≡◌ {A = ℕ} (if same (key x) (key y) then 1 else 0) 1
      = ap (λ b. if b then 1 else 0) (ap (λ q. same (key x) (key q)) is ∙ itself (key x)) in
      omega (arith, all, here)
  some_there x (y ∷ ys) (inr there) =
      let all = sum_by-cons (λ c. if same (key x) (key c) then 1 else 0) y ys in
      let rest = some_there x ys there in
      omega (arith, all, rest)

  tail_sorted : (x : C) (xs : List C) → IsSortedBy (λ a b. is_lt (order (key a) (key b))) (x ∷ xs)
      → IsSortedBy (λ a b. is_lt (order (key a) (key b))) xs
  tail_sorted x xs sorted k d low less =
      let same : suc k + 1 ≡ suc (k + 1) = omega arith in
      subst (λ n. is_lt (order (key (get_or (x ∷ xs) n d)) (key (get_or xs k d))) ≡ false) same
      (sorted (suc k) d (omega arith) (omega (arith, less)))

  -- the first is not above any other
  first_least : (x : C) (xs : List C) → IsSortedBy (λ a b. is_lt (order (key a) (key b))) (x ∷ xs) → (q : C) → IsIn xs q
      → is_lt (order (key q) (key x)) ≡ false
  first_least x xs sorted q there =
      let has = contains_from_in xs q there in
      let far =
      sorted_far (λ a b. is_lt (order (key a) (key b))) (ranks_by total key) (x ∷ xs) sorted 0 (suc has.0) q
      (omega arith) (omega (arith, has.1)) in
      subst (λ (c : C). is_lt (order (key c) (key x)) ≡ false) has.2 far

  below : (a b : K) (r : Ordering) → order a b ≡ r → is_lt (order b a) ≡ false → (a ≡ b → ⊥) → r ≡ Less
  below a b Less is not_above apart = refl
  below a b Equal is not_above apart = absurd (apart (only a b is))
  below a b Greater is not_above apart =
      absurd (never (sym (ap is_lt (total.antisymm b a ∙ ap ordering_reverse is)) ∙ not_above))
    where
      never : true ≡ false → ⊥
      never e = cc

  pub rises_once : (xs : List C) → IsSortedBy (λ a b. is_lt (order (key a) (key b))) xs
      → ((x : C) → IsIn xs x → many (key x) xs ≡ 1) → rise.Rises order total only (map key xs)
  rises_once [] sorted once = tt
  rises_once (x ∷ xs) sorted once = (
    (λ k there.
        let q = from_map key xs k there in
        subst (λ (j : K). order (key x) j ≡ Less) q.2
        (below (key x) (key q.0) (order (key x) (key q.0)) refl (first_least x xs sorted q.0 q.1) (apart q.0 q.1))),
    rises_once xs (tail_sorted x xs sorted) (λ q there. rest q there),
  )
    where
      here : (q : C) → many (key q) (x ∷ xs) ≡ (if same (key q) (key x) then 1 else 0) + many (key q) xs
      here q = sum_by-cons (λ c. if same (key q) (key c) then 1 else 0) x xs

      at_most : (b : Bool) (n : ℕ) → (if b then 1 else 0) + n ≡ 1 → 1 ≤ n → n ≡ 1
      at_most true n all some = omega (arith, all, some)
      at_most false n all some = omega (arith, all)

      rest : (q : C) → IsIn xs q → many (key q) xs ≡ 1
      rest q there =
          at_most (same (key q) (key x)) (many (key q) xs) (sym (here q) ∙ once q (inr there)) (some_there q xs there)

      apart : (q : C) → IsIn xs q → key x ≡ key q → ⊥
      apart q there is =
          let all = sym (here q) ∙ once q (inr there) in
          let two : ◌≡◌ {A = ℕ} (if same (key q) (key x) then 1 else 0) 1
          = ap (λ b. if b then 1 else 0) (ap (same (key q)) is ∙ itself (key q)) in
          omega (arith, all, two, some_there q xs there)
