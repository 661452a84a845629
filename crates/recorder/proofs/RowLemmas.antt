-- Rows by rising keys.
use Rattle.std.proofs.Common.{◌≡◌, ℕ, Bool, true, false, List, [], ◌∷◌, map, filter, refl, ap, sym, subst, ◌∙◌, arith}
use Rattle.std.proofs.Common.{◌⊎◌, inl, inr, if◌then◌else◌}
use Rattle.std.specs.FinMap.{IsAntisymmetric}
use Rattle.std.specs.Cmp.{IsTotalOrder, tied_itself}
use Rattle.std.specs.declared.cmp.Ordering.{Ordering}
use Rattle.std.specs.declared.cmp.Ordering.TheVariants.{Less, Equal}
use Rattle.std.proofs.lemmas.List.Sums.{sum_by-cons}
use Rattle.arc_costs.specs.Rows as rows
use Rattle.arc_costs.proofs.RiseLemmas as rise
use Rattle.recorder.specs.Laws.{IsIn}
use Rattle.recorder.proofs.ListLemmas.{from_map, in_filter, to_filter}

module _ {Row K : Type 0} (key : Row → K) (same : K → K → Bool) (R : K → K → Ordering) (order : IsTotalOrder R)
    (only : IsAntisymmetric R) (alike : (a b : K) → same a b ≡ true → a ≡ b) (itself : (a : K) → same a a ≡ true) where
  abbrev pub Rises : List K → Type 0
  Rises ks = rise.Rises R order only ks

  apart : (a b : K) → R a b ≡ Less → (same a b ≡ false) × (same b a ≡ false)
  apart a b less = (
    by a b (same a b) refl (λ e. no_loop a b less e),
    by b a (same b a) refl (λ e. no_loop a b less (sym e)),
  )
    where
      no_loop : (a b : K) → R a b ≡ Less → a ≡ b → ⊥
      no_loop a b less_ e =
          let tied = tied_itself order a in
          orders (sym tied ∙ subst (λ u. R a u ≡ Less) (sym e) less_)
        where
          orders : Equal ≡ Less → ⊥
          orders e_ = cc

      by : (a b : K) (c : Bool) → same a b ≡ c → (a ≡ b → ⊥) → same a b ≡ false
      by a b true is none = absurd (none (alike a b is))
      by a b false is none = is

  -- a key without a row has a sum of 0
  pub sum_none : (number : Row → ℕ) (k : K) (rs : List Row) → ((r : Row) → IsIn rs r → same k (key r) ≡ false)
      → rows.sum_at key same number k rs ≡ 0
  sum_none number k [] none = refl
  sum_none number k (r ∷ rs) none =
      let all = sum_by-cons (λ s. if same k (key s) then number s else 0) r rs in
      let here = ap (λ b. if b then number r else 0) (none r (inl refl)) in
      let rest = sum_none number k rs (λ s there. none s (inr there)) in
      omega (arith, all, here, rest)

  -- a row's key has its number
  pub sum_own : (number : Row → ℕ) (rs : List Row) → Rises (map key rs) → (r : Row) → IsIn rs r
      → rows.sum_at key same number (key r) rs ≡ number r
  sum_own number [] rises r there = elim there [ ]
  sum_own number (s ∷ rs) rises r (inl is) =
      let all = sum_by-cons (λ q. if same (key r) (key q) then number q else 0) s rs in
      let here =
      ap (λ b. if b then number s else 0) (ap (λ q. same (key r) (key q)) is ∙ itself (key r)) ∙ ap number is in
      let rest =
      sum_none number (key r) rs
      (λ q there. (apart (key r) (key q)
      (subst (λ u. R (key u) (key q) ≡ Less) is (rises.0 (key q) (rise.in-map key rs q there)))).0) in
      omega (arith, all, here, rest)
  sum_own number (s ∷ rs) rises r (inr there) =
      let all = sum_by-cons (λ q. if same (key r) (key q) then number q else 0) s rs in
      let here =
      ap (λ b. if b then number s else 0)
      (apart (key s) (key r) (rises.0 (key r) (rise.in-map key rs r there))).1 in
      let rest = sum_own number rs rises.1 r there in
      omega (arith, all, here, rest)

  pub there_or_none : (k : K) (rs : List Row) → IsIn (map key rs) k ⊎ ((r : Row) → IsIn rs r → same k (key r) ≡ false)
  there_or_none k [] = inr (λ r there. elim there [ ])
  there_or_none k (s ∷ rs) = by (same k (key s)) refl (there_or_none k rs)
    where
      by : (b : Bool) → same k (key s) ≡ b
          → IsIn (map key rs) k ⊎ ((r : Row) → IsIn rs r → same k (key r) ≡ false)
          → IsIn (map key (s ∷ rs)) k ⊎ ((r : Row) → IsIn (s ∷ rs) r → same k (key r) ≡ false)
      by true is rest = inl (inl (sym (alike k (key s) is)))
      by false is (inl there) = inl (inr there)
      by false is (inr none) =
          inr (λ r there. elim there as (λ _. same k (key r) ≡ false) [
            | inl e ↦ subst (λ q. same k (key q) ≡ false) e is
            | inr there_ ↦ none r there_
          ])

  module _ (at : K → Row) (some : Row → Bool) where
    pub filtered : (ks : List K) → Rises ks → Rises (filter (λ k. some (at k)) ks)
    filtered [] rises = tt
    filtered (k ∷ ks) rises = by (some (at k)) (filtered ks rises.1)
      where
        by : (b : Bool) → Rises (filter (λ q. some (at q)) ks)
            → Rises (if b then k ∷ filter (λ q. some (at q)) ks else filter (λ q. some (at q)) ks)
        by true rest = ((λ q there. rises.0 q (in_filter (λ u. some (at u)) ks q there).0), rest)
        by false rest = rest

    pub map_filter : (ks : List K) → map at (filter (λ k. some (at k)) ks) ≡ filter some (map at ks)
    map_filter [] = refl
    map_filter (k ∷ ks) = by (some (at k)) (map_filter ks)
      where
        by : (b : Bool) → map at (filter (λ q. some (at q)) ks) ≡ filter some (map at ks)
            → map at (if b then k ∷ filter (λ q. some (at q)) ks else filter (λ q. some (at q)) ks)
            ≡ (if b then at k ∷ filter some (map at ks) else filter some (map at ks))
        by true rest = ap (λ rs. at k ∷ rs) rest
        by false rest = rest

    each_at : (rs : List Row) → ((r : Row) → IsIn rs r → r ≡ at (key r)) → rs ≡ map at (map key rs)
    each_at [] each = refl
    each_at (r ∷ rs) each = λ i. each r (inl refl) i ∷ each_at rs (λ s there. each s (inr there)) i

    -- rows that are each the one at its key, where the keys are just those with a row that isn't all 0
    pub rows_are : (rs : List Row) (keys : List K) → Rises (map key rs) → Rises keys
        → ((r : Row) → IsIn rs r → r ≡ at (key r)) → ((r : Row) → IsIn rs r → some r ≡ true)
        → ((r : Row) → IsIn rs r → IsIn keys (key r))
        → ((k : K) → IsIn keys k → some (at k) ≡ true → IsIn (map key rs) k)
        → rs ≡ filter some (map at keys)
    rows_are rs keys rises keys_rise each some_in within back =
        each_at rs each
        ∙ ap (map at) (rise.one_list R order only (map key rs) (filter (λ k. some (at k)) keys) rises
        (filtered keys keys_rise)
        (λ k there. forth k (from_map key rs k there))
        (λ k there. (let r = in_filter (λ u. some (at u)) keys k there in back k r.0 r.1)))
        ∙ map_filter keys
      where
        forth : (k : K) → (r : Row) × IsIn rs r × (key r ≡ k) → IsIn (filter (λ u. some (at u)) keys) k
        forth k r =
            subst (IsIn (filter (λ u. some (at u)) keys)) r.2
            (to_filter (λ u. some (at u)) keys (key r.0) (within r.0 r.1)
            (ap some (sym (each r.0 r.1)) ∙ some_in r.0 r.1))
