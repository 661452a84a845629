-- Rows by number are named, sorted and summed up: there is one list of them.
use Rattle.std.proofs.Common.{◌≡◌, ◌≢◌, ℕ, zero, suc, ◌<◌, Bool, true, List, [], ◌∷◌, length, map, filter}
use Rattle.std.proofs.Common.{get_or, refl, ap, sym, subst, ◌∙◌, arith, inl, inr}
use Rattle.std.proofs.Common.{if◌then◌else◌, IsPermutation, Contains}
use Rattle.std.specs.FinMap.{IsAntisymmetric}
use Rattle.std.specs.Cmp.{IsTotalOrder}
use Rattle.std.specs.declared.cmp.Ordering.{Ordering}
use Rattle.std.proofs.lemmas.List.Sorted.{Contains-permutation, IsPermutation-sym, sum_by-IsPermutation}
use Rattle.std.proofs.lemmas.List.Sums.{sum_by-cons}
use Rattle.arc_costs.specs.Rows as rows
use Rattle.recorder.specs.Laws.{IsIn}
use Rattle.arc_costs.specs.Keys.{risen}
use Rattle.ctx_rows.proofs.Others.{some_passes, from_map}
use Rattle.arc_costs.proofs.RiseLemmas as rise
use Rattle.recorder.proofs.RowLemmas as row

-- ---- elements

pub in_from_contains : {A : Type 0} (xs : List A) (x : A) → Contains xs x → IsIn xs x
in_from_contains [] x has = absurd (omega (arith, has.1))
in_from_contains (y ∷ ys) x has = by has.0 has.1 has.2 (λ k less is. in_from_contains ys x (k, less, is))
  where
    by : (k : ℕ) → k < length (y ∷ ys) → get_or (y ∷ ys) k x ≡ x
        → ((j : ℕ) → j < length ys → get_or ys j x ≡ x → IsIn ys x) → IsIn (y ∷ ys) x
    by zero less is rest = inl is
    by (suc k) less is rest = inr (rest k (omega (arith, less)) is)

pub contains_from_in : {A : Type 0} (xs : List A) (x : A) → IsIn xs x → Contains xs x
contains_from_in [] x there = elim there [ ]
contains_from_in (y ∷ ys) x (inl is) = (0, omega arith, is)
contains_from_in (y ∷ ys) x (inr there) =
    let has = contains_from_in ys x there in (suc has.0, omega (arith, has.1), has.2)

pub in_permutation : {A : Type 0} (xs ys : List A) (x : A) → IsPermutation xs ys → IsIn xs x → IsIn ys x
in_permutation xs ys x moved there =
    in_from_contains ys x (Contains-permutation xs ys x moved (contains_from_in xs x there))

module _ {Row CRow K CK I : Type 0} (key : Row → K) (same : K → K → Bool) (name : Row → CRow) (rename : K → CK)
    (ckey : CRow → CK) (csame : CK → CK → Bool) (order : CK → CK → Ordering) (total : IsTotalOrder order)
    (only : IsAntisymmetric order) (alike : (a b : CK) → csame a b ≡ true → a ≡ b)
    (itself : (a : CK) → csame a a ≡ true) (InRange : K → Type 0) (keyed : (r : Row) → ckey (name r) ≡ rename (key r))
    (apart : (a b : K) → InRange a → InRange b → csame (rename a) (rename b) ≡ same a b)
    (number : I → Row → ℕ) (cnumber : I → CRow → ℕ) (numbers : (i : I) (r : Row)
    → cnumber i (name r) ≡ number i r) where
  abbrev AreIn : List Row → Type 0
  AreIn rs = (r : Row) → IsIn rs r → InRange (key r)

  -- a sum by number is the sum by name
  pub named_sum : (i : I) (k : K) → InRange k → (rs : List Row) → AreIn rs
      → rows.sum_at ckey csame (cnumber i) (rename k) (map name rs) ≡ rows.sum_at key same (number i) k rs
  named_sum i k of [] range = refl
  named_sum i k of (r ∷ rs) range =
      let test : csame (rename k) (ckey (name r)) ≡ same k (key r)
      = ap (csame (rename k)) (keyed r) ∙ apart k (key r) of (range r (inl refl)) in
      let here : (if csame (rename k) (ckey (name r)) then cnumber i (name r) else 0)
      ≡ (if same k (key r) then number i r else 0)
      = (λ j. if test j then numbers i r j else 0) in
      let left = sum_by-cons (λ c. if csame (rename k) (ckey c) then cnumber i c else 0) (name r) (map name rs) in
      let right = sum_by-cons (λ q. if same k (key q) then number i q else 0) r rs in
      let rest = named_sum i k of rs (λ q there. range q (inr there)) in
      omega (arith, here, left, right, rest)

  module _ (all found : List Row) (named : List CRow) (all_in : AreIn all) (found_in : AreIn found)
      (moved : IsPermutation (map name found) named) (rises : rise.Rises order total only (map ckey named))
      (sums : (i : I) (k : K) → rows.sum_at key same (number i) k found ≡ rows.sum_at key same (number i) k all)
    where
      -- the sum by name of all rows
      abbrev pub csum : I → CK → ℕ
      csum i k = rows.sum_at ckey csame (cnumber i) k (map name all)

      -- at a key that is in range, the named rows have the sums of all
      known_sum : (i : I) (k : K) → InRange k
          → rows.sum_at ckey csame (cnumber i) (rename k) named ≡ csum i (rename k)
      known_sum i k of =
          sum_by-IsPermutation (λ c. if csame (rename k) (ckey c) then cnumber i c else 0) (map name found) named moved
          ∙ named_sum i k of found found_in ∙ sums i k ∙ sym (named_sum i k of all all_in)

      from_found : (c : CRow) → IsIn named c → (r : Row) × IsIn found r × (name r ≡ c)
      from_found c there =
          from_map name found c
          (in_permutation named (map name found) c (IsPermutation-sym (map name found) named moved) there)

      pub sum_is : (i : I) (c : CRow) → IsIn named c → cnumber i c ≡ csum i (ckey c)
      sum_is i c there =
          let r = from_found c there in
          let at : ckey c ≡ rename (key r.0) = ap ckey (sym r.2) ∙ keyed r.0 in
          sym (row.sum_own ckey csame order total only alike itself (cnumber i) named rises c there)
          ∙ ap (λ k. rows.sum_at ckey csame (cnumber i) k named) at ∙ known_sum i (key r.0) (found_in r.0 r.1)
          ∙ ap (csum i) (sym at)

      module _ (at : CK → CRow) (some : CRow → Bool)
          (is_at : (c : CRow) → IsIn named c → ((i : I) → cnumber i c ≡ csum i (ckey c)) → c ≡ at (ckey c))
          (some_in : (c : CRow) → IsIn named c → some c ≡ true)
          (has_some : (c : CRow) → IsIn named c → (i : I) × (cnumber i c ≢ 0))
          (some_at : (k : CK) → some (at k) ≡ true → (i : I) × (csum i k ≢ 0)) where
        keys : List CK
        keys = risen order (map ckey (map name all))

        within : (c : CRow) → IsIn named c → IsIn (risen order (map ckey (map name all))) (ckey c)
        within c there =
            let i = has_some c there in
            let passes = some_passes (λ q. csame (ckey c) (ckey q)) (cnumber i.0) (map name all)
            (λ none. i.1 (sum_is i.0 c there ∙ none)) in
            rise.in_risen order total only (map ckey (map name all)) (ckey c)
            (subst (IsIn (map ckey (map name all))) (sym (alike (ckey c) (ckey passes.0) passes.2))
            (rise.in-map ckey (map name all) passes.0 passes.1))

        key_of_all : (k : CK) → IsIn (map ckey (map name all)) k → (q : Row) × IsIn all q × (rename (key q) ≡ k)
        key_of_all k there =
            let c = from_map ckey (map name all) k there in
            let q = from_map name all c.0 c.1 in
            (q.0, q.1, sym (keyed q.0) ∙ ap ckey q.2 ∙ c.2)

        back : (k : CK) → IsIn (risen order (map ckey (map name all))) k → some (at k) ≡ true → IsIn (map ckey named) k
        back k there is =
            elim (row.there_or_none ckey csame order total only alike itself k named) as
            (λ _. IsIn (map ckey named) k) [
              | inl inside ↦ inside
              | inr none ↦
                  (let q = key_of_all k (rise.risen_in order total only (map ckey (map name all)) k there) in
                  let i = some_at k is in
                  absurd (i.1 (ap (csum i.0) (sym q.2) ∙ sym (known_sum i.0 (key q.0) (all_in q.0 q.1))
                  ∙ ap (λ u. rows.sum_at ckey csame (cnumber i.0) u named) q.2
                  ∙ row.sum_none ckey csame order total only alike itself (cnumber i.0) k named none)))
            ]

        -- the rows that were named and sorted are those with the sums of all
        pub named_are : named ≡ filter some (map at (risen order (map ckey (map name all))))
        named_are =
            row.rows_are ckey csame order total only alike itself at some named
            (risen order (map ckey (map name all))) rises
            (rise.risen_rises order total only (map ckey (map name all)))
            (λ c there. is_at c there (λ i. sum_is i c there)) some_in within back
