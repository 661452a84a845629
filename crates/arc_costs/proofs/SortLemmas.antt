-- Rows with keys that differ, and what sorting makes of them.
use Rattle.std.proofs.Common.{◌≡◌, ◌+◌, Bool, true, false, cond, ◌||◌, List, [], ◌∷◌, filter, get_or, Option, Some}
use Rattle.std.proofs.Common.{None, refl, sym, ap, subst, ◌∙◌, arith, true≢false, ◌++◌, IsPermutation}
use Rattle.std.specs.Cmp.{IsEquivalence, IsTotalOrder}
use Rattle.std.specs.List.{AllByRecursion, IsDistinct, list_any}
use Rattle.std.specs.List.Sorted.{IsSortedByKey, IsStrictlySortedBy}
use Rattle.std.specs.Map.{keys_of}
use Rattle.std.specs.Ordering.{is_eq, is_lt, ordering_reverse}
use Rattle.std.specs.declared.cmp.Ordering.{Ordering}
use Rattle.std.specs.declared.cmp.Ordering.TheVariants.{Less, Equal, Greater}
use Rattle.std.proofs.lemmas.List.{append-nil, get_or-map, length-map, map-append}
use Rattle.std.proofs.lemmas.List.Elements.{filter-append}
use Rattle.std.proofs.lemmas.List.Sorted.{IsPermutation-append_left}
use Rattle.std.proofs.lemmas.Map.Keys.{IsDistinct-cons, IsDistinct-head, IsDistinct-push, IsDistinct-tail}
use Rattle.std.proofs.lemmas.Map.Keys.{apart_from_distinct, sorted_from_all_adjacent}
use Rattle.arc_costs.specs.inner.Shape.{IsSound, all_rows}
use Rattle.arc_costs.proofs.EntryLemmas.{IsAbsent, absent_lookup}

module _ {K A : Type 0} (same : K → K → Bool) where
  pub none_passes : (k : K) (es : List (K × A)) → IsAbsent same k es → list_any (same k) (keys_of es) ≡ false
  none_passes k [] absent = refl
  none_passes k (e ∷ es) absent = ap (λ b. b || list_any (same k) (keys_of es)) absent.0 ∙ none_passes k es absent.1

  -- the keys of all rows of a table differ
  pub distinct_rows : IsEquivalence same → (known : List (K × A)) (newest : Option (K × A))
      → IsDistinct same (keys_of known)
      → (is_whole : A → Type 0) → IsSound same is_whole known newest → IsDistinct same (keys_of (all_rows known newest))
  distinct_rows laws known None distinct is_whole sound =
      subst (λ es. IsDistinct same (keys_of es)) (sym (append-nil known)) distinct
  distinct_rows laws known (Some row) distinct is_whole sound =
      subst (IsDistinct same) (sym (map-append (λ (e : K × A). e.0) known (row ∷ [])))
      (IsDistinct-push laws (keys_of known) row.0 distinct
      (none_passes row.0 known (absent_lookup same row.0 known sound.apart)))

  module _ (p : K × A → Bool) where
    apart_more : (b : Bool) (k : K) (e : K × A) (es : List (K × A)) → p e ≡ b
        → AllByRecursion (λ y. same k y ≡ false) (keys_of (e ∷ es))
        → AllByRecursion (λ y. same k y ≡ false) (keys_of (filter p es))
        → AllByRecursion (λ y. same k y ≡ false) (keys_of (filter p (e ∷ es)))
    apart_more true k e es is all rest =
        subst (λ fs. AllByRecursion (λ y. same k y ≡ false) (keys_of fs))
        (sym (ap (λ c. cond c (e ∷ filter p es) (filter p es)) is)) (all.0, rest)
    apart_more false k e es is all rest =
        subst (λ fs. AllByRecursion (λ y. same k y ≡ false) (keys_of fs))
        (sym (ap (λ c. cond c (e ∷ filter p es) (filter p es)) is)) rest

    apart_kept : (k : K) (es : List (K × A)) → AllByRecursion (λ y. same k y ≡ false) (keys_of es)
        → AllByRecursion (λ y. same k y ≡ false) (keys_of (filter p es))
    apart_kept k [] all = tt
    apart_kept k (e ∷ es) all = apart_more (p e) k e es refl all (apart_kept k es all.1)

    distinct_more : (b : Bool) (e : K × A) (es : List (K × A)) → p e ≡ b
        → AllByRecursion (λ y. same e.0 y ≡ false) (keys_of (filter p es))
        → IsDistinct same (keys_of (filter p es)) → IsDistinct same (keys_of (filter p (e ∷ es)))
    distinct_more true e es is all rest =
        subst (λ fs. IsDistinct same (keys_of fs)) (sym (ap (λ c. cond c (e ∷ filter p es) (filter p es)) is))
        (IsDistinct-cons same e.0 (keys_of (filter p es)) all rest)
    distinct_more false e es is all rest =
        subst (λ fs. IsDistinct same (keys_of fs)) (sym (ap (λ c. cond c (e ∷ filter p es) (filter p es)) is)) rest

    -- and those of some of them do
    pub distinct_kept : (es : List (K × A)) → IsDistinct same (keys_of es) → IsDistinct same (keys_of (filter p es))
    distinct_kept [] distinct = distinct
    distinct_kept (e ∷ es) distinct =
        distinct_more (p e) e es refl (apart_kept e.0 es (IsDistinct-head same e.0 (keys_of es) distinct))
        (distinct_kept es (IsDistinct-tail same e.0 (keys_of es) distinct))

-- of rows of which some are listed, those of them with one row more
module _ {X : Type 0} (p : X → Bool) (known listed : List X) (x : X) (are : IsPermutation (filter p known) listed) where
  pub listed_more : p x ≡ true → IsPermutation (filter p (known ++ x ∷ [])) (listed ++ x ∷ [])
  listed_more is =
      subst (λ xs. IsPermutation xs (listed ++ x ∷ []))
      (sym (filter-append p known (x ∷ []) ∙ ap (λ b. filter p known ++ cond b (x ∷ []) []) is))
      (IsPermutation-append_left (x ∷ []) (filter p known) listed are)

  pub listed_still : p x ≡ false → IsPermutation (filter p (known ++ x ∷ [])) listed
  listed_still is =
      subst (λ xs. IsPermutation xs listed)
      (sym (filter-append p known (x ∷ []) ∙ ap (λ b. filter p known ++ cond b (x ∷ []) []) is
      ∙ append-nil (filter p known))) are

below : (o p : Ordering) → o ≡ ordering_reverse p → is_lt p ≡ false → is_eq o ≡ false → o ≡ Less
below o Less flip not_less apart = absurd (true≢false not_less)
below o Equal flip not_less apart = absurd (true≢false (sym (ap is_eq flip) ∙ apart))
below o Greater flip not_less apart = flip

pub none_apart : {K : Type 0} (same : K → K → Bool) → IsDistinct same []
unfolding IsDistinct
none_apart same = tt

none_rise : {K : Type 0} (R : K → K → Ordering) → IsStrictlySortedBy R []
unfolding IsStrictlySortedBy
none_rise R = tt

-- sorted rows whose keys differ rise
pub rise_from_sorted : {K A : Type 0} {R : K → K → Ordering} (order : IsTotalOrder R) (same : K → K → Bool)
    → ((x y : K) → same x y ≡ is_eq (R x y))
    → (es : List (K × A)) → IsSortedByKey (λ e. e.0) R es → IsDistinct same (keys_of es)
    → IsStrictlySortedBy R (keys_of es)
rise_from_sorted {K} {A} {R} order same ties [] sorted distinct = none_rise R
rise_from_sorted {K} {A} {R} order same ties (e ∷ es) sorted distinct =
    let rows = e ∷ es in
    let long = length-map rows (λ (r : K × A). r.0) in
    sorted_from_all_adjacent order (keys_of rows) e.0
    (λ k lt.
    let here : get_or (keys_of rows) k e.0 ≡ (get_or rows k e).0
    = get_or-map (λ (r : K × A). r.0) rows k e e.0 (omega (arith, long)) in
    let next : get_or (keys_of rows) (k + 1) e.0 ≡ (get_or rows (k + 1) e).0
    = get_or-map (λ (r : K × A). r.0) rows (k + 1) e e.0 (omega (arith, long)) in
    below (R (get_or (keys_of rows) k e.0) (get_or (keys_of rows) (k + 1) e.0))
    (R (get_or (keys_of rows) (k + 1) e.0) (get_or (keys_of rows) k e.0))
    (order.antisymm (get_or (keys_of rows) k e.0) (get_or (keys_of rows) (k + 1) e.0))
    ((λ i. is_lt (R (next i) (here i))) ∙ sorted k e (omega arith) (omega (arith, long)))
    (sym (ties (get_or (keys_of rows) k e.0) (get_or (keys_of rows) (k + 1) e.0))
    ∙ apart_from_distinct same (keys_of rows) k (k + 1) e.0 distinct (omega arith) lt))
