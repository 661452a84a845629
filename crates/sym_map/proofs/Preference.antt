-- The most preferred of several symbols is the first one of the sorted list that passes.
use Rattle.std.proofs.Common.{◌≡◌, ℕ, ◌+◌, ◌<◌, ◌≤◌, Bool, true, false, not, cond, List, [], ◌∷◌, ◌++◌, length, get_or}
use Rattle.std.proofs.Common.{take, Option, Some, None, refl, sym, ap, ◌∙◌, subst, zero, suc, Contains, ◌⊎◌}
use Rattle.std.proofs.Common.{⊎_elim, arith}
use Rattle.std.specs.Prelude.{filter, find, slice_get, ◌&&◌}
use Rattle.std.specs.List.{list_all}
use Rattle.std.specs.Cmp.{IsTotalOrder, IsStrictWeakOrder}
use Rattle.std.specs.List.Sorted.{IsPermutation, IsSortedBy, IsStableBy, ties}
use Rattle.std.proofs.lemmas.Cmp.{on_total, then_total, back_total, nat_cmp_total, nat_list_cmp_total}
use Rattle.std.proofs.lemmas.List.{get_or_default}
use Rattle.std.proofs.lemmas.List.Elements.{filter_more}
use Rattle.std.proofs.lemmas.List.Sorted.{ranks_by, sorted_far, Contains-permutation, IsPermutation-sym}
use Rattle.std.proofs.lemmas.Option.{get_or_from_slice_get, slice_get_within}
use Rattle.elf_read.specs.declared.symbol.Symbol.{Symbol}
use Rattle.elf_read.specs.Image.{Image}
use Rattle.sym_map.specs.inner.Naming.{NamedSymbol, by_preference, is_preferred}
use Rattle.sym_map.specs.Symbols.{binding_rank, is_candidate}
use Rattle.sym_map.proofs.Members.{Contains-cons, Contains-first, first_or_rest}

-- ---- preference is an order

pub preference_total : IsTotalOrder by_preference
preference_total =
    then_total (on_total (λ (x : NamedSymbol). x.symbol.value) (back_total nat_cmp_total))
    (then_total (on_total (λ (x : NamedSymbol). binding_rank x.symbol.binding) nat_cmp_total)
    (on_total (λ (x : NamedSymbol). x.name) nat_list_cmp_total))

pub preferred_weak : IsStrictWeakOrder is_preferred
preferred_weak = ranks_by preference_total (λ (x : NamedSymbol). x)

-- ---- one symbol more

pub candidates_more : (image : Image) (xs : List Symbol) (i : ℕ) (s : Symbol) (b : Bool) → slice_get xs i ≡ Some s
    → is_candidate image s ≡ b
    → filter (is_candidate image) (take (i + 1) xs)
    ≡ filter (is_candidate image) (take i xs) ++ cond b (s ∷ []) []
candidates_more image xs i s b at is =
    let here : get_or xs i s ≡ s = get_or_from_slice_get xs i s s at in
    let test : is_candidate image (get_or xs i s) ≡ b = ap (is_candidate image) here ∙ is in
    filter_more (is_candidate image) xs i s (slice_get_within xs i s at)
    ∙ ap (λ c. filter (is_candidate image) (take i xs) ++ cond c (get_or xs i s ∷ []) []) test
    ∙ ap (λ (x : Symbol). filter (is_candidate image) (take i xs) ++ cond b (x ∷ []) []) here

-- ---- the first that passes in a sorted list

abbrev head : {X : Type 0} → List X → Option X
head [] = None
head (x ∷ xs) = Some x

module _ {X : Type 0} where
  find_head : (p : X → Bool) (xs : List X) → find p xs ≡ head (filter p xs)
  find_head p [] = refl
  find_head p (x ∷ xs) = go (p x) (find_head p xs)
    where
      go : (b : Bool) → find p xs ≡ head (filter p xs)
          → cond b (Some x) (find p xs) ≡ head (cond b (x ∷ filter p xs) (filter p xs))
      go true e = refl
      go false e = e

  filters_commute : (p q : X → Bool) (xs : List X) → filter p (filter q xs) ≡ filter q (filter p xs)
  filters_commute p q [] = refl
  filters_commute p q (x ∷ xs) = go (p x) (q x) refl refl (filters_commute p q xs)
    where
      go : (b c : Bool) → p x ≡ b → q x ≡ c → filter p (filter q xs) ≡ filter q (filter p xs)
          → filter p (cond (q x) (x ∷ filter q xs) (filter q xs))
          ≡ filter q (cond (p x) (x ∷ filter p xs) (filter p xs))
      go true true e f so = rw (e, f, e) (ap (λ ys. x ∷ ys) so)
      go true false e f so = rw (e, f) so
      go false true e f so = rw (f, e) so
      go false false e f so = rw (e, f) so

  pub filter_none : (p : X → Bool) (xs : List X) → ((x : X) → Contains xs x → p x ≡ false) → filter p xs ≡ []
  filter_none p [] none = refl
  filter_none p (x ∷ xs) none = rw (none x (Contains-first x xs))
      (filter_none p xs (λ y h. none y (Contains-cons x xs y h)))

  pub Contains-filter : (p : X → Bool) (xs : List X) (y : X) → Contains (filter p xs) y → Contains xs y × (p y ≡ true)
  Contains-filter p [] y h = absurd (omega arith)
  Contains-filter p (x ∷ xs) y h = go (p x) refl (Contains-filter p xs y) h
    where
      go : (b : Bool) → p x ≡ b → (Contains (filter p xs) y → Contains xs y × (p y ≡ true))
          → Contains (cond b (x ∷ filter p xs) (filter p xs)) y → Contains (x ∷ xs) y × (p y ≡ true)
      go false e inner g = (Contains-cons x xs y (inner g).0, (inner g).1)
      go true e inner g =
          ⊎_elim
          (λ (f : x ≡ y). (
            subst (λ (z : X). Contains (x ∷ xs) z) f (Contains-first x xs),
            subst
                (λ (z : X). p z ≡ true) f e,
          ))
          (λ (r : Contains (filter p xs) y). (Contains-cons x xs y (inner r).0, (inner r).1))
          (first_or_rest x (filter p xs) y g)

  pub Contains-to_filter : (p : X → Bool) (xs : List X) (y : X) → Contains xs y → p y ≡ true → Contains (filter p xs) y
  Contains-to_filter p [] y h passes = absurd (omega arith)
  Contains-to_filter p (x ∷ xs) y h passes =
      ⊎_elim
      (λ (f : x ≡ y). let e : p x ≡ true = ap p f
      ∙ passes in rw e (subst (λ (z : X). Contains (x ∷ filter p xs) z) f (Contains-first x (filter p xs))))
      (λ (r : Contains xs y). kept (p x) (Contains-to_filter p xs y r passes))
      (first_or_rest x xs y h)
    where
      kept : (b : Bool) → Contains (filter p xs) y → Contains (cond b (x ∷ filter p xs) (filter p xs)) y
      kept true g = Contains-cons x (filter p xs) y g
      kept false g = g

  -- where one test passes just where another does, among these
  pub filter_same : (p q : X → Bool) (xs : List X) → ((x : X) → Contains xs x → p x ≡ q x) → filter p xs ≡ filter q xs
  filter_same p q [] same = refl
  filter_same p q (x ∷ xs) same =
      rw (same x (Contains-first x xs), filter_same p q xs (λ y h. same y (Contains-cons x xs y h))) refl

  all_pass : (p : X → Bool) (xs : List X) → ((x : X) → Contains xs x → p x ≡ true) → list_all p xs ≡ true
  all_pass p [] pass = refl
  all_pass p (x ∷ xs) pass = rw (pass x (Contains-first x xs), all_pass p xs (λ y h. pass y (Contains-cons x xs y h)))
      refl

  one_fails : (p : X → Bool) (xs : List X) (y : X) → Contains xs y → p y ≡ false → list_all p xs ≡ false
  one_fails p [] y h fails = absurd (omega arith)
  one_fails p (x ∷ xs) y h fails =
      ⊎_elim
      (λ (f : x ≡ y). let e : p x ≡ false = ap p f ∙ fails in rw e refl)
      (λ (r : Contains xs y). rw (one_fails p xs y r fails) (and_false (p x)))
      (first_or_rest x xs y h)
    where
      and_false : (b : Bool) → (b && false) ≡ false
      and_false true = refl
      and_false false = refl

module _ {X : Type 0} (lt : X → X → Bool) (weak : IsStrictWeakOrder lt) (p : X → Bool) (xs ys : List X)
    (moved : IsPermutation xs ys) (sorted : IsSortedBy lt ys) (stable : IsStableBy lt xs ys) where
  abbrev is_least : X → Bool
  is_least x = list_all (λ t. not (lt t x)) (filter p xs)

  -- among those that pass, the least are those that tie with one that nothing comes before
  least_of : (y : X) → p y ≡ true → Contains xs y → ((t : X) → Contains xs t → p t ≡ true → lt t y ≡ false) → (x : X)
      → Contains (filter p xs) x → is_least x ≡ ties lt y x
  least_of y passes there below x h =
      let inner = Contains-filter p xs x h in
      go (lt y x) refl (below x inner.0 inner.1)
    where
      go : (b : Bool) → lt y x ≡ b → lt x y ≡ false → is_least x ≡ ties lt y x
      go true e f = one_fails (λ t. not (lt t x)) (filter p xs) y (Contains-to_filter p xs y there passes) (rw e refl)
          ∙ rw e refl
      go false e f =
          all_pass (λ t. not (lt t x)) (filter p xs)
          (λ t g. let from = Contains-filter p xs t g in rw (weak.chain t y x (below t from.0 from.1) e) refl)
          ∙ rw (e, f) refl

  -- nothing that passes comes before the first that does
  first_found : (j : ℕ) (y : X) → j < length ys → get_or ys j y ≡ y
      → ((k : ℕ) (d : X) → k < j → p (get_or ys k d) ≡ false) → (t : X) → Contains xs t → p t ≡ true → lt t y ≡ false
  first_found j y within at before t there pass =
      let moved_there = Contains-permutation xs ys t moved there in
      let k : ℕ = moved_there.0 in
      ⊎_elim
      (λ (lt' : k < j). let fails : p t ≡ false = sym (ap p moved_there.2) ∙ before k t lt' in absurd (cc))
      (λ (le : j ≤ k).
      let far : lt (get_or ys k y) (get_or ys j y) ≡ false = sorted_far lt weak ys sorted j k y le moved_there.1 in
      let here : get_or ys k y ≡ t = get_or_default ys k y t moved_there.1 ∙ moved_there.2 in
      ap (λ (x : X). lt x y) (sym here) ∙ ap (λ (x : X). lt (get_or ys k y) x) (sym at) ∙ far)
      (let P : (k < j) ⊎ (j ≤ k) = grind arith in P)

  itself : (y : X) → lt y y ≡ false
  itself y = go (lt y y) refl
    where
      go : (b : Bool) → lt y y ≡ b → lt y y ≡ false
      go true e = weak.one_way y y e
      go false e = e

-- whether one passes, and where the first does
pub data Found {X : Type 0} (p : X → Bool) (ys : List X) : Type 0 where
  none : find p ys ≡ None → ((x : X) → Contains ys x → p x ≡ false) → Found p ys
  some : (j : ℕ) (y : X) (rest : List X) → j < length ys → get_or ys j y ≡ y → p y ≡ true
      → ((k : ℕ) (d : X) → k < j → p (get_or ys k d) ≡ false) → find p ys ≡ Some y → filter p ys ≡ y ∷ rest → Found p ys

module _ {X : Type 0} (p : X → Bool) where
  pub found : (ys : List X) → Found p ys
  found [] = none refl (λ x h. absurd (omega arith))
  found (x ∷ xs) = go (p x) refl (found xs)
    where
      go : (b : Bool) → p x ≡ b → Found p xs → Found p (x ∷ xs)
      go true e inner = some 0 x (filter p xs) (omega arith) refl e (λ k d lt. absurd (omega arith)) (rw e refl)
          (rw e refl)
      go false e (none is fails) = none (rw e is)
          (λ y h. ⊎_elim (λ (f : x ≡ y). sym (ap p f) ∙ e) (λ (r : Contains xs y). fails y r) (first_or_rest x xs y h))
      go false e (some j y rest lt at passes before is filtered) =
          some (suc j) y rest (omega arith) at passes (earlier j before) (rw e is) (rw e filtered)
        where
          earlier : (j : ℕ) → ((k : ℕ) (d : X) → k < j → p (get_or xs k d) ≡ false) → (k : ℕ) (d : X) → k < suc j
              → p (get_or (x ∷ xs) k d) ≡ false
          earlier j before zero d lt = e
          earlier j before (suc k) d lt = before k d (omega arith)

module _ {X : Type 0} (lt : X → X → Bool) (weak : IsStrictWeakOrder lt) (p : X → Bool) (xs ys : List X)
    (moved : IsPermutation xs ys) (sorted : IsSortedBy lt ys) (stable : IsStableBy lt xs ys) where
  pub first_is_least : find p ys ≡ find (λ x. list_all (λ t. not (lt t x)) (filter p xs)) (filter p xs)
  first_is_least = go (found p ys)
    where
      go : Found p ys → find p ys ≡ find (λ x. list_all (λ t. not (lt t x)) (filter p xs)) (filter p xs)
      go (none is fails) =
          is ∙ sym (ap (find (λ x. list_all (λ t. not (lt t x)) (filter p xs)))
          (filter_none p xs (λ x h. fails x (Contains-permutation xs ys x moved h))))
      go (some j y rest within at passes before is filtered) =
          let below = first_found lt weak p xs ys moved sorted stable j y within at before in
          let there : Contains xs y = Contains-permutation ys xs y (IsPermutation-sym xs ys moved) (j, within, at) in
          let least : X → Bool = λ x. list_all (λ t. not (lt t x)) (filter p xs) in
          is
          ∙ sym (find_head least (filter p xs)
          ∙ ap head (filter_same least (ties lt y) (filter p xs)
          (least_of lt weak p xs ys moved sorted stable y passes there below))
          ∙ ap head (filters_commute (ties lt y) p xs)
          ∙ ap (λ zs. head (filter p zs)) (sym (stable y))
          ∙ ap head (filters_commute p (ties lt y) ys)
          ∙ ap (λ zs. head (filter (ties lt y) zs)) filtered
          ∙ rw (itself lt weak p xs ys moved sorted stable y) refl)

-- ---- a list that is sorted by a test which agrees with another on all elements

same_where_false : (a b : Bool) → (a ≡ false → b ≡ false) → (b ≡ false → a ≡ false) → a ≡ b
same_where_false true true f g = refl
same_where_false false false f g = refl
same_where_false true false f g = g refl
same_where_false false true f g = sym (f refl)

both_false : (a b : Bool) → (not a && not b) ≡ true → (a ≡ false) × (b ≡ false)
both_false true b h = absurd (cc)
both_false false true h = absurd (cc)
both_false false false h = (refl, refl)

module _ {X : Type 0} (lt : X → X → Bool) (weak : IsStrictWeakOrder lt) where
  -- what ties with one of two that tie ties with the other
  pub ties_alike : (x y z : X) → ties lt x y ≡ true → ties lt x z ≡ ties lt y z
  ties_alike x y z tied =
      let below = both_false (lt x y) (lt y x) tied in
      let first : lt x z ≡ lt y z = same_where_false (lt x z) (lt y z)
      (λ e. weak.chain y x z below.1 e) (λ e. weak.chain x y z below.0 e) in
      let second : lt z x ≡ lt z y = same_where_false (lt z x) (lt z y)
      (λ e. weak.chain z x y e below.0) (λ e. weak.chain z y x e below.1) in
      rw (first, second) refl

module _ {X : Type 0} (lt within : X → X → Bool) (weak : IsStrictWeakOrder lt) (xs ys : List X)
    (moved : IsPermutation xs ys)
    (same : (x y : X) → Contains xs x → Contains xs y → within x y ≡ lt x y) where
  back : (x : X) → Contains ys x → Contains xs x
  back x h = Contains-permutation ys xs x (IsPermutation-sym xs ys moved) h

  stands : (k : ℕ) (d : X) → k < length ys → Contains xs (get_or ys k d)
  stands k d lt' = back (get_or ys k d) (k, lt', get_or_default ys k (get_or ys k d) d lt')

  pub sorted_alike : IsSortedBy within ys → IsSortedBy lt ys
  sorted_alike sorted k d low high =
      sym (same (get_or ys (k + 1) d) (get_or ys k d) (stands (k + 1) d high) (stands k d (omega (arith, high))))
      ∙ sorted k d low high

  pub stable_alike : IsStableBy within xs ys → IsStableBy lt xs ys
  stable_alike stable x = go (found (ties lt x) xs)
    where
      go : Found (ties lt x) xs → filter (ties lt x) ys ≡ filter (ties lt x) xs
      go (none is fails) =
          filter_none (ties lt x) ys (λ y h. fails y (back y h)) ∙ sym (filter_none (ties lt x) xs fails)
      go (some j y rest inside at passes before is filtered) =
          let here : Contains xs y = (j, inside, at) in
          let alike : (z : X) → Contains xs z → ties lt x z ≡ ties within y z =
          λ z h. ties_alike lt weak x y z passes ∙ sym (rw (same y z here h, same z y h here) refl) in
          filter_same (ties lt x) (ties within y) ys (λ z h. alike z (back z h)) ∙ stable y
          ∙ sym (filter_same (ties lt x) (ties within y) xs alike)
