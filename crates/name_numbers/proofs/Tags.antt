-- Keys that are tagged with their places in a list, and their numbers among the keys that are gathered from them.
use Rattle.std.proofs.Common.{◌≡◌, ◌≢◌, ℕ, ◌+◌, ◌-◌, ◌<◌, ◌≤◌, true, false, List, [], ◌∷◌, ◌++◌, length, get_or}
use Rattle.std.proofs.Common.{map, Some}
use Rattle.std.proofs.Common.{take, refl, sym, ap, suc, ◌∙◌, subst, Contains, ◌⊎◌, ⊎_elim, arith, Ordering}
use Rattle.std.proofs.Common.{get_or-set_other, get_or-set_same}
use Rattle.std.specs.Prelude.{All, slice_get, slice_index, slice_set}
use Rattle.std.specs.declared.cmp.Ordering.TheVariants.{Less, Equal, Greater}
use Rattle.std.specs.Cmp.{IsTotalOrder}
use Rattle.std.specs.Ordering.{is_eq, is_lt, ordering_reverse}
use Rattle.std.specs.List.{AllByRecursion}
use Rattle.std.specs.List.Sorted.{IsPermutation, IsSortedBy, IsStrictlySortedBy}
use Rattle.std.proofs.lemmas.List.{map-append, take_more, length-map, length-set, length_push, length-take-le}
use Rattle.std.proofs.lemmas.List.{get_or-take, get_or-map, get_or_append_left, get_or_push, get_or_default}
use Rattle.std.proofs.lemmas.List.Elements.{Contains-append_left, Contains-push, Contains-push_cases}
use Rattle.std.proofs.lemmas.List.Elements.{All-push, All-weaker, All-contains, All-contains_itself}
use Rattle.std.proofs.lemmas.List.Sorted.{Contains-permutation, IsPermutation-map, IsPermutation-sym}
use Rattle.std.proofs.lemmas.List.Sorted.{length_permutation}
use Rattle.std.proofs.lemmas.Option.{slice_get-get_or, slice_get_within, get_or_from_slice_get}
use Rattle.name_numbers.specs.Keys.{NumberEach}
use Rattle.name_numbers.specs.inner.Tagging.{HaveOneKeyEach, NumberTagged}
use Rattle.name_numbers.specs.declared.numbering.Tagged.{Tagged}
use Rattle.name_numbers.proofs.Members.{Alike, Alike-trans, Alike-refl, Alike-permutation, All-alike}
use Rattle.name_numbers.proofs.Members.{Contains-from_map}
use Rattle.name_numbers.proofs.Rising.{every}

abbrev pub place_of : {K : Type 0} → Tagged K → ℕ
place_of t = t.place

abbrev pub key_of : {K : Type 0} → Tagged K → K
key_of t = t.key

-- each stands at its place
abbrev pub IsKept : {K : Type 0} → List K → List (Tagged K) → Type 0
IsKept {K} all ts = All (λ (t : Tagged K). slice_get all t.place ≡ Some t.key) ts

-- the number at its place is that of its key
abbrev pub IsNumbered : {K : Type 0} → List K → List ℕ → Tagged K → Type 0
IsNumbered keys numbers t = slice_get keys (slice_index numbers t.place) ≡ Some t.key

-- a list that has grown at its end
pub grown : {K : Type 0} (xs : List K) (y : K) (n : ℕ) (x : K) → slice_get xs n ≡ Some x
    → slice_get (xs ++ y ∷ []) n ≡ Some x
grown xs y n x at =
    let within : n < length xs = slice_get_within xs n x at in
    slice_get-get_or (xs ++ y ∷ []) n x (omega (arith, length_push xs y, within))
    ∙ ap (λ z. Some z) (get_or_append_left xs (y ∷ []) x n within ∙ get_or_from_slice_get xs n x x at)

-- the end of one that has
pub end_of : {K : Type 0} (xs : List K) (y : K) → slice_get (xs ++ y ∷ []) (length (xs ++ y ∷ []) - 1) ≡ Some y
end_of xs y =
    let more = length_push xs y in
    let last : length (xs ++ y ∷ []) - 1 ≡ length xs = omega (arith, more) in
    ap (slice_get (xs ++ y ∷ [])) last ∙ slice_get-get_or (xs ++ y ∷ []) (length xs) y (omega (arith, more))
    ∙ ap (λ z. Some z) (get_or_push xs y y (length xs) refl)

module _ {K : Type 0} where
  -- ---- a list that is tagged

  -- each has its index as its place
  abbrev pub AreInOrder : List (Tagged K) → Type 0
  AreInOrder ts = (k : ℕ) (d : Tagged K) → k < length ts → (get_or ts k d).place ≡ k

  pub one_more : (ts : List (Tagged K)) (t : Tagged K) → t.place ≡ length ts → AreInOrder ts → AreInOrder (ts ++ t ∷ [])
  one_more ts t at in_order k d lt =
      let more = length_push ts t in
      ⊎_elim
      (λ (inner : k < length ts). ap place_of (get_or_append_left ts (t ∷ []) d k inner) ∙ in_order k d inner)
      (λ (last : length ts ≡ k). ap place_of (get_or_push ts t d k last) ∙ at ∙ last)
      (let P : (k < length ts) ⊎ (length ts ≡ k) = grind (arith, more) in P)

  pub kept_in_order : (all : List K) (ts : List (Tagged K)) → map key_of ts ≡ all → AreInOrder ts → IsKept all ts
  kept_in_order all ts is in_order k d lt =
      let long : length (map key_of ts) ≡ length ts = length-map ts key_of in
      let t : Tagged K = get_or ts k d in
      ap (λ (xs : List K). slice_get xs t.place) (sym is) ∙ ap (slice_get (map key_of ts)) (in_order k d lt)
      ∙ slice_get-get_or (map key_of ts) k d.key (omega (arith, long))
      ∙ ap (λ z. Some z) (get_or-map key_of ts k d d.key lt)

  pub all_in_order : (all : List K) (ts : List (Tagged K)) → map key_of ts ≡ all → AreInOrder ts → (k : ℕ)
      → k < length all → Contains (map place_of ts) k
  all_in_order all ts is in_order k lt =
      let long : length (map key_of ts) ≡ length ts = length-map ts key_of in
      let same : length (map key_of ts) ≡ length all = ap length is in
      let wide : length (map place_of ts) ≡ length ts = length-map ts place_of in
      go ts k (omega arith) (omega arith) in_order
    where
      go : (ts : List (Tagged K)) (k : ℕ) → k < length ts → k < length (map place_of ts) → AreInOrder ts
          → Contains (map place_of ts) k
      go [] k lt within in_order = absurd (omega arith)
      go (t ∷ ts) k lt within in_order =
          (k, within, get_or-map place_of (t ∷ ts) k t k lt ∙ in_order k t lt)

  -- ---- in another order

  pub kept_moved : (all : List K) (ts us : List (Tagged K)) → IsPermutation ts us
      → IsKept all ts → IsKept all us
  kept_moved all ts us moved kept =
      All-alike (λ (t : Tagged K). slice_get all t.place ≡ Some t.key) ts us
      (λ t. ((Alike-permutation ts us moved t).1, (Alike-permutation ts us moved t).0)) kept

  pub places_moved : (ts us : List (Tagged K)) → IsPermutation ts us → (n : ℕ)
      → ((k : ℕ) → k < n → Contains (map place_of ts) k) → (k : ℕ) → k < n → Contains (map place_of us) k
  places_moved ts us moved n all k lt =
      Contains-permutation (map place_of ts) (map place_of us) k (IsPermutation-map place_of ts us moved) (all k lt)

  pub as_many_moved : (all : List K) (ts us : List (Tagged K)) → IsPermutation ts us → map key_of ts ≡ all
      → length us ≡ length all
  as_many_moved all ts us moved is =
      length_permutation ts us moved ∙ sym (length-map ts key_of) ∙ ap length is

  pub one_key_each : (all : List K) (ts : List (Tagged K)) → IsKept all ts → HaveOneKeyEach ts
  one_key_each all ts kept x y here there same =
      let one : slice_get all x.place ≡ Some x.key =
      All-contains (λ (t : Tagged K). slice_get all t.place ≡ Some t.key) ts x kept here in
      let other : slice_get all y.place ≡ Some y.key =
      All-contains (λ (t : Tagged K). slice_get all t.place ≡ Some t.key) ts y kept there in
      alike (sym one ∙ ap (slice_get all) same ∙ other)
    where
      alike : {x y : K} → Some x ≡ Some y → x ≡ y
      alike e = cc

  pub all_within : (all : List K) (ts : List (Tagged K)) (n : ℕ) → length all ≡ n → IsKept all ts
      → All (λ (t : Tagged K). t.place < n) ts
  all_within all ts n long kept =
      All-weaker (λ (t : Tagged K). slice_get all t.place ≡ Some t.key) (λ (t : Tagged K). t.place < n)
      (λ t at. let within = slice_get_within all t.place t.key at in omega (arith, within)) ts kept

  pub keys_moved : (keys all : List K) (ts us : List (Tagged K)) → IsPermutation ts us → map key_of ts ≡ all
      → Alike keys (map key_of us) → Alike keys all
  keys_moved keys all ts us moved is same =
      Alike-trans keys (map key_of us) all same
      (Alike-trans (map key_of us) (map key_of ts) all
      (Alike-permutation (map key_of us) (map key_of ts)
      (IsPermutation-sym (map key_of ts) (map key_of us) (IsPermutation-map key_of ts us moved)))
      (Alike-refl (map key_of ts) all is))

  pub numbers_moved : (keys all : List K) (numbers : List ℕ) (us : List (Tagged K)) → length us ≡ length all
      → IsKept all us → ((k : ℕ) → k < length all → Contains (map place_of us) k)
      → NumberTagged keys numbers us → NumberEach keys numbers all
  numbers_moved keys all numbers us long kept places so =
      record {
        as_many = so.as_many ∙ long;
        each = λ k lt.
            let from = Contains-from_map place_of us k (places k lt) in
            let t : Tagged K = from.0 in
            let number : slice_get keys (slice_index numbers t.place) ≡ Some t.key =
            All-contains (IsNumbered keys numbers) us t so.each from.1 in
            let at : slice_get all t.place ≡ Some t.key =
            All-contains (λ (t : Tagged K). slice_get all t.place ≡ Some t.key) us t kept from.1 in
            subst (λ n. slice_get keys (slice_index numbers n) ≡ slice_get all n) from.2 (number ∙ sym at);
      }

  -- ---- keys that are gathered

  all_more_by_recursion : (P : K → Type 0) (xs : List K) (y : K) → AllByRecursion P xs → P y
      → AllByRecursion P (xs ++ y ∷ [])
  all_more_by_recursion P [] y all here = (here, tt)
  all_more_by_recursion P (x ∷ xs) y all here = (all.0, all_more_by_recursion P xs y all.1 here)

module _ {K : Type 0} (R : K → K → Ordering) (order : IsTotalOrder R)
    (exact : (x y : K) → is_eq (R x y) ≡ true → x ≡ y) where
  pub rise_more : (xs : List K) (y : K) → IsStrictlySortedBy R xs
      → ((d : K) → 0 < length xs → R (get_or xs (length xs - 1) d) y ≡ Less) → IsStrictlySortedBy R (xs ++ y ∷ [])
  unfolding IsStrictlySortedBy
  rise_more [] y rise above = (tt, tt)
  rise_more (x ∷ []) y rise above = ((above x (omega arith), tt), (tt, tt))
  rise_more (x ∷ z ∷ zs) y rise above =
      let n : ℕ = length zs in
      let last : R x (get_or (z ∷ zs) n z) ≡ Less = every (λ w. R x w ≡ Less) (z ∷ zs) rise.0 n z (omega arith) in
      let at : length (x ∷ z ∷ zs) - 1 ≡ suc n = omega arith in
      let less : R (get_or (z ∷ zs) n z) y ≡ Less =
      sym (ap (λ k. R (get_or (x ∷ z ∷ zs) k z) y) at) ∙ above z (omega arith) in (
        all_more_by_recursion (λ w. R x w ≡ Less) (z ∷ zs) y rise.0 (order.trans x (get_or (z ∷ zs) n z) y last less),
        rise_more (z ∷ zs) y rise.1 (λ d lt. step d (above d (omega arith))),
      )
    where
      step : (d : K) → R (get_or (x ∷ z ∷ zs) (length (x ∷ z ∷ zs) - 1) d) y ≡ Less
          → R (get_or (z ∷ zs) (length (z ∷ zs) - 1) d) y ≡ Less
      step d less =
          let n : length (x ∷ z ∷ zs) - 1 ≡ suc (length zs) = omega arith in
          let m : length (z ∷ zs) - 1 ≡ length zs = omega arith in
          ap (λ k. R (get_or (z ∷ zs) k d) y) m ∙ sym (ap (λ k. R (get_or (x ∷ z ∷ zs) k d) y) n) ∙ less

  pub less_where_other : (x y : K) → is_lt (R y x) ≡ false → x ≢ y → R x y ≡ Less
  less_where_other x y back other = go (R x y) refl
    where
      go : (o : Ordering) → R x y ≡ o → o ≡ Less
      go Less e = refl
      go Equal e = absurd (other (exact x y (ap is_eq e)))
      go Greater e =
          let turned : R y x ≡ Less = order.antisymm y x ∙ ap ordering_reverse e in
          absurd (let P : true ≡ false = sym (ap is_lt turned) ∙ back in cc)

  -- keys and numbers that are gathered from the first so many
  pub record IsGathered (ts : List (Tagged K)) (i : ℕ) (keys : List K) (numbers : List ℕ) : Type 0 where
    pub rise : IsStrictlySortedBy R keys
    pub same : Alike keys (map key_of (take i ts))
    pub last : (j : ℕ) (t : Tagged K) → i ≡ j + 1 → slice_get keys (length keys - 1) ≡ Some (get_or ts j t).key
    pub few : length keys ≤ i
    pub as_many : length numbers ≡ length ts
    pub each : All (IsNumbered keys numbers) (take i ts)

  pub none_gathered : (ts : List (Tagged K)) (numbers : List ℕ) → length numbers ≡ length ts
      → IsGathered ts 0 [] numbers
  unfolding IsStrictlySortedBy
  none_gathered ts numbers as_many =
      record {
        rise = tt;
        same = Alike-refl [] (map key_of (take 0 ts)) refl;
        last = λ j t e. absurd (omega arith);
        few = (omega arith);
        as_many = as_many;
        each = λ k d lt. absurd (omega arith);
      }

  module _ (ts : List (Tagged K)) (i : ℕ) (keys : List K) (numbers : List ℕ) (t : Tagged K) (lt : i < length ts)
      (is : t ≡ get_or ts i t) (one_key : HaveOneKeyEach ts) (within : All (λ (t : Tagged K). t.place < length ts) ts)
      (so : IsGathered ts i keys numbers) where
    more : take (i + 1) ts ≡ take i ts ++ t ∷ []
    more = take_more ts i t lt ∙ ap (λ (u : Tagged K). take i ts ++ u ∷ []) (sym is)

    here : Contains ts t
    here = (i, lt, sym is)

    earlier : (u : Tagged K) → Contains (take i ts) u → Contains ts u
    earlier u h =
        let long : length (take i ts) ≡ i = length-take-le i ts (omega arith) in
        let below : h.0 < i = (let a = h.1 in omega (arith, a, long)) in
        (h.0, (omega arith), sym (get_or-take i ts h.0 u below) ∙ h.2)

    pub inside : t.place < length numbers
    inside =
        let P = All-contains (λ (t : Tagged K). t.place < length ts) ts t within here in
        omega (arith, P, so.as_many)

    -- a number that is written at its place
    written : (more_keys : List K) (number : ℕ)
        → ((n : ℕ) (x : K) → slice_get keys n ≡ Some x → slice_get more_keys n ≡ Some x)
        → slice_get more_keys number ≡ Some t.key
        → All (IsNumbered more_keys (slice_set numbers t.place number)) (take (i + 1) ts)
    written more_keys number kept at =
        let new : List ℕ = slice_set numbers t.place number in
        subst (All (IsNumbered more_keys new)) (sym more)
        (All-push (IsNumbered more_keys new) (take i ts) t
        (All-weaker (Contains (take i ts)) (IsNumbered more_keys new) (λ u h. old u h) (take i ts)
        (All-contains_itself (take i ts)))
        (ap (slice_get more_keys) (get_or-set_same numbers t.place number 0 inside) ∙ at))
      where
        old : (u : Tagged K) → Contains (take i ts) u → IsNumbered more_keys (slice_set numbers t.place number) u
        old u h =
            ⊎_elim
            (λ (same : u.place ≡ t.place).
            ap (λ p. slice_get more_keys (slice_index (slice_set numbers t.place number) p)) same
            ∙ ap (slice_get more_keys) (get_or-set_same numbers t.place number 0 inside) ∙ at
            ∙ ap (λ z. Some z) (sym (one_key u t (earlier u h) here same)))
            (λ (other : u.place ≢ t.place).
            ap (slice_get more_keys) (get_or-set_other numbers t.place u.place number 0 other)
            ∙ kept (slice_index numbers u.place) u.key (All-contains (IsNumbered keys numbers) (take i ts) u so.each h))
            (let P : (u.place ≡ t.place) ⊎ (u.place ≢ t.place) = grind arith in P)

    ends : (j : ℕ) (u : Tagged K) → i + 1 ≡ j + 1 → t.key ≡ (get_or ts j u).key
    ends j u e =
        let same : i ≡ j = omega arith in
        ap key_of (is ∙ get_or_default ts i t u lt) ∙ ap (λ n. (get_or ts n u).key) same

    -- the key is the last one again
    pub again : slice_get keys (length keys - 1) ≡ Some t.key
        → IsGathered ts (i + 1) keys (slice_set numbers t.place (length keys - 1))
    again at =
        record {
          rise = so.rise;
          same = λ x. (
            (λ h. subst (λ (us : List (Tagged K)). Contains (map key_of us) x) (sym more)
                (subst (λ (ks : List K). Contains ks x) (sym (map-append key_of (take i ts) (t ∷ [])))
                (Contains-append_left (map key_of (take i ts)) (t.key ∷ []) x ((so.same x).0 h)))),
            (λ h. ⊎_elim (λ (old : Contains (map key_of (take i ts)) x). (so.same x).1 old)
                (λ (new : t.key ≡ x). (
                  length keys - 1,
                  slice_get_within keys (length keys - 1) t.key at,
                  get_or_from_slice_get keys (length keys - 1) t.key x at ∙ new,
                ))
                (Contains-push_cases (map key_of (take i ts)) t.key x
                (subst (λ (ks : List K). Contains ks x) (map-append key_of (take i ts) (t ∷ []))
                (subst (λ (us : List (Tagged K)). Contains (map key_of us) x) more h)))),
          );
          last = λ j u e. at ∙ ap (λ z. Some z) (ends j u e);
          few = (let P = so.few in omega (arith, P));
          as_many = length-set numbers t.place (length keys - 1) ∙ so.as_many;
          each = written keys (length keys - 1) (λ n x e. e) at;
        }

    -- another key is the last one
    pub another : IsSortedBy (λ (x y : Tagged K). is_lt (R x.key y.key)) ts
        → slice_get keys (length keys - 1) ≢ Some t.key
        → IsGathered ts (i + 1) (keys ++ t.key ∷ []) (slice_set numbers t.place (length (keys ++ t.key ∷ []) - 1))
    another sorted other =
        let long = length_push keys t.key in
        record {
          rise = rise_more keys t.key so.rise (λ d some. above d some);
          same = λ x. (
            (λ h. subst (λ (us : List (Tagged K)). Contains (map key_of us) x) (sym more)
                (subst (λ (ks : List K). Contains ks x) (sym (map-append key_of (take i ts) (t ∷ [])))
                (pushed keys (map key_of (take i ts)) x (so.same x).0 h))),
            (λ h. pushed (map key_of (take i ts)) keys x (so.same x).1
                (subst (λ (ks : List K). Contains ks x) (map-append key_of (take i ts) (t ∷ []))
                (subst (λ (us : List (Tagged K)). Contains (map key_of us) x) more h))),
          );
          last = λ j u e. end_of keys t.key ∙ ap (λ z. Some z) (ends j u e);
          few = (let P = so.few in omega (arith, P, long));
          as_many = length-set numbers t.place (length (keys ++ t.key ∷ []) - 1) ∙ so.as_many;
          each = written (keys ++ t.key ∷ []) (length (keys ++ t.key ∷ []) - 1) (grown keys t.key) (end_of keys t.key);
        }
      where
        pushed : (xs ys : List K) (x : K) → (Contains xs x → Contains ys x) → Contains (xs ++ t.key ∷ []) x
            → Contains (ys ++ t.key ∷ []) x
        pushed xs ys x f h =
            ⊎_elim (λ (old : Contains xs x). Contains-append_left ys (t.key ∷ []) x (f old))
            (λ (new : t.key ≡ x). subst (λ z. Contains (ys ++ t.key ∷ []) z) new (Contains-push ys t.key))
            (Contains-push_cases xs t.key x h)

        above : (d : K) → 0 < length keys → R (get_or keys (length keys - 1) d) t.key ≡ Less
        above d some =
            let few = so.few in
            let j : ℕ = i - 1 in
            let next : i ≡ j + 1 = omega arith in
            let at : slice_get keys (length keys - 1) ≡ Some (get_or ts j t).key = so.last j t next in
            let back : is_lt (R t.key (get_or ts j t).key) ≡ false =
            ap (λ (u : Tagged K). is_lt (R u.key (get_or ts j t).key)) (is ∙ ap (λ n. get_or ts n t) next)
            ∙ sorted j t (omega arith) (omega arith) in
            let apart : (get_or ts j t).key ≢ t.key = λ e. other (at ∙ ap (λ z. Some z) e) in
            ap (λ z. R z t.key) (get_or_from_slice_get keys (length keys - 1) (get_or ts j t).key d at)
            ∙ less_where_other (get_or ts j t).key t.key back apart
