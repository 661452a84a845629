-- Searches in a tree of rows, and what one row more makes of it.
use Rattle.std.proofs.Common.{◌≡◌, ◌≤◌, ◌<◌, ◌⊎◌, inl, inr, ℕ, zero, suc, ◌+◌, ◌*◌, Bool, true, false, List, [], ◌∷◌}
use Rattle.std.proofs.Common.{◌++◌, Option, Some, None, get_or, length, slice_get, slice_set, is_some, refl, sym, ap, subst, ◌∙◌}
use Rattle.std.proofs.Common.{arith, true≢false, ◌||◌, position}
use Rattle.std.specs.Cmp.{IsEquivalence}
use Rattle.std.specs.List.{list_any}
use Rattle.std.specs.Map.{keys_of, lookup, values_of}
use Rattle.indexmap.specs.IndexMap.{set_value_at}
use Rattle.std.proofs.lemmas.Bool.{ltb-true}
use Rattle.std.proofs.lemmas.List.{length-append, length-map, length-set}
use Rattle.std.proofs.lemmas.Map.Keys.{IsDistinct-push}
use Rattle.std.proofs.lemmas.Option.{cond_some, none-some, same_Some}
use Rattle.std.specs.Option.{option_to_list}
use Rattle.arc_costs.specs.inner.Shape.{all_rows}
use Rattle.arc_costs.proofs.EntryLemmas.{IsAbsent, at_front, at_position, lookup_absent, place_at}
use Rattle.arc_costs.proofs.SortLemmas.{none_apart}
use Rattle.arc_costs.specs.inner.Tree.{Differs, Ends, IsTree, Reaches, following, walk, way, with_row}

-- Lists

-- the element behind a list, or one of it
last_or : {X : Type 0} (xs : List X) (x : X) (i : ℕ) (y : X) → slice_get (xs ++ x ∷ []) i ≡ Some y
    → (slice_get xs i ≡ Some y) ⊎ ((i ≡ length xs) × (x ≡ y))
last_or [] x zero y at = inr (refl, same_Some x y at)
last_or [] x (suc i) y at = absurd (none-some y at)
last_or (z ∷ xs) x zero y at = inl at
last_or (z ∷ xs) x (suc i) y at = next (last_or xs x i y at)
  where
    next : (slice_get xs i ≡ Some y) ⊎ ((i ≡ length xs) × (x ≡ y))
        → (slice_get (z ∷ xs) (suc i) ≡ Some y) ⊎ ((suc i ≡ length (z ∷ xs)) × (x ≡ y))
    next (inl e) = inl e
    next (inr e) = inr (ap suc e.0, e.1)

some_below : {X : Type 0} (xs : List X) (i : ℕ) → i < length xs → (x : X) × (slice_get xs i ≡ Some x)
some_below [] i lt = absurd (omega arith)
some_below (x ∷ xs) zero lt = (x, refl)
some_below (x ∷ xs) (suc i) lt = some_below xs i (omega arith)

below_some : {X : Type 0} (xs : List X) (i : ℕ) (x : X) → slice_get xs i ≡ Some x → i < length xs
below_some [] i x at = absurd (none-some x at)
below_some (y ∷ xs) zero x at = omega arith
below_some (y ∷ xs) (suc i) x at = let rest = below_some xs i x at in omega (arith, rest)

pub element : {X : Type 0} (xs : List X) (i : ℕ) (x : X) → x ≡ get_or xs i x → i < length xs
    → slice_get xs i ≡ Some x
element [] i x is lt = absurd (omega arith)
element (y ∷ xs) zero x is lt = ap Some (sym is)
element (y ∷ xs) (suc i) x is lt = element xs i x is (omega arith)

pub differs_there : {K A : Type 0} (same : K → K → Bool) (key : K) (es : List (K × A)) (i : ℕ) (e : K × A)
    → slice_get es i ≡ Some e → same key e.0 ≡ false → Differs same key (keys_of es) i
differs_there same key [] i e at is k there = absurd (none-some e at)
differs_there {K = K} {A = A} same key (f ∷ es) zero e at is k there =
    ap (λ q. same key q) (sym (same_Some f.0 k there)) ∙ ap (λ (q : K × A). same key q.0) (same_Some f e at) ∙ is
differs_there same key (f ∷ es) (suc i) e at is k there = differs_there same key es i e at is k there

value_at_place : {K A : Type 0} (es : List (K × A)) (i : ℕ) → i < length es → (v : A) × (slice_get (values_of es) i ≡ Some v)
value_at_place [] i lt = absurd (omega arith)
value_at_place (e ∷ es) zero lt = (e.1, refl)
value_at_place (e ∷ es) (suc i) lt = value_at_place es i (omega arith)

pub within_place : {K A : Type 0} (same : K → K → Bool) (key : K) (es : List (K × A)) (i : ℕ)
    → position (same key) (keys_of es) ≡ Some i → i < length es
within_place same key es i is =
    let found = cond_some _ _ _ is in
    let lt = ltb-true _ _ found.0 in
    let long = length-map es (λ e. e.0) in
    let at = found.1 in
    omega (arith, lt, at, long)

pub value_of_place : {K A : Type 0} (same : K → K → Bool) (key : K) (es : List (K × A)) (i : ℕ)
    → position (same key) (keys_of es) ≡ Some i → (v : A) × (slice_get (values_of es) i ≡ Some v)
value_of_place same key es i is = value_at_place es i (within_place same key es i is)

-- a value that is written leaves the keys
pub value_set : {K A : Type 0} (es : List (K × A)) (i : ℕ) (e : K × A) (v : A) → slice_get es i ≡ Some e
    → slice_set es i (e.0, v) ≡ set_value_at es i v
value_set [] i e v at = absurd (none-some e at)
value_set {K = K} {A = A} (f ∷ es) zero e v at = ap (λ (q : K × A). (q.0, v) ∷ es) (sym (same_Some f e at))
value_set (f ∷ es) (suc i) e v at = ap (λ fs. f ∷ fs) (value_set es i e v at)

pub keys_stay : {K A : Type 0} (es : List (K × A)) (i : ℕ) (v : A) → keys_of (set_value_at es i v) ≡ keys_of es
keys_stay [] i v = refl
keys_stay (f ∷ es) zero v = refl
keys_stay (f ∷ es) (suc i) v = ap (λ ks. f.0 ∷ ks) (keys_stay es i v)

pub value_there : {K A : Type 0} (es : List (K × A)) (i : ℕ) (e : K × A) (v : A) → slice_get es i ≡ Some e
    → slice_get (values_of es) i ≡ Some v → e.1 ≡ v
value_there [] i e v at there = absurd (none-some e at)
value_there {K = K} {A = A} (f ∷ es) zero e v at there =
    ap (λ (q : K × A). q.1) (sym (same_Some f e at)) ∙ same_Some f.1 v there
value_there (f ∷ es) (suc i) e v at there = value_there es i e v at there

pub none_at : (o p : Option ℕ) → o ≡ p → is_some p ≡ false → None ≡ o
none_at o None is e = sym is
none_at o (Some n) is e = absurd (true≢false e)

pub no_tree : {K : Type 0} (same : K → K → Bool) (digit : K → ℕ → ℕ) → IsTree same digit [] []
no_tree same digit = record {
  long = refl;
  rises = λ row d lt some. absurd (omega (arith, some));
  within = λ row d lt some. absurd (omega (arith, some));
  found = λ i k at. absurd (none-some k at);
  apart = none_apart same;
}

-- the place of a key is the same where a row more stands behind
pub place_in_front : {K A : Type 0} (same : K → K → Bool) (key : K) (es : List (K × A)) (newest : Option (K × A)) (i : ℕ)
    → position (same key) (keys_of es) ≡ Some i → position (same key) (keys_of (all_rows es newest)) ≡ Some i
place_in_front same key es newest i is =
    let v = value_of_place same key es i is in
    place_at same key (all_rows es newest) i v.0
    (at_front same key es (option_to_list newest) i v.0 (at_position same key es i v.0 is v.1))

-- zeros behind a list are what stands behind it
zeros_behind : (xs : List ℕ) (w : ℕ) → get_or (xs ++ 0 ∷ 0 ∷ 0 ∷ 0 ∷ []) w 0 ≡ get_or xs w 0
zeros_behind [] zero = refl
zeros_behind [] (suc zero) = refl
zeros_behind [] (suc (suc zero)) = refl
zeros_behind [] (suc (suc (suc zero))) = refl
zeros_behind [] (suc (suc (suc (suc w)))) = refl
zeros_behind (x ∷ xs) zero = refl
zeros_behind (x ∷ xs) (suc w) = zeros_behind xs w

written_or : (xs : List ℕ) (i v w : ℕ) → i < length xs
    → (get_or (slice_set xs i v) w 0 ≡ get_or xs w 0) ⊎ ((w ≡ i) × (get_or (slice_set xs i v) w 0 ≡ v))
written_or [] i v w lt = absurd (omega arith)
written_or (x ∷ xs) zero v zero lt = inr (refl, refl)
written_or (x ∷ xs) zero v (suc w) lt = inl refl
written_or (x ∷ xs) (suc i) v zero lt = inl refl
written_or (x ∷ xs) (suc i) v (suc w) lt = up (written_or xs i v w (omega arith))
  where
    up : (get_or (slice_set xs i v) w 0 ≡ get_or xs w 0) ⊎ ((w ≡ i) × (get_or (slice_set xs i v) w 0 ≡ v))
        → (get_or (slice_set (x ∷ xs) (suc i) v) (suc w) 0 ≡ get_or (x ∷ xs) (suc w) 0)
        ⊎ ((suc w ≡ suc i) × (get_or (slice_set (x ∷ xs) (suc i) v) (suc w) 0 ≡ v))
    up (inl e) = inl e
    up (inr e) = inr (ap suc e.0, e.1)

written_at : (xs : List ℕ) (i v : ℕ) → i < length xs → get_or (slice_set xs i v) i 0 ≡ v
written_at [] i v lt = absurd (omega arith)
written_at (x ∷ xs) zero v lt = refl
written_at (x ∷ xs) (suc i) v lt = written_at xs i v (omega arith)

nothing_in : (xs : List ℕ) (w : ℕ) → length xs ≡ 0 → get_or xs w 0 ≡ 0
nothing_in [] w none = refl
nothing_in (x ∷ xs) w none = absurd (omega (arith, none))

-- what holds below a number and at it
up_to : (P : ℕ → Type 0) (n : ℕ) → ((k : ℕ) → k < n → P k) → P n → (k : ℕ) → k < n + 1 → P k
up_to P n below here k lt = by (last k n (omega (arith, lt)))
  where
    last : (j m : ℕ) → j ≤ m → (j < m) ⊎ (j ≡ m)
    last zero zero le = inr refl
    last zero (suc m) le = inl (omega arith)
    last (suc j) zero le = absurd (omega arith)
    last (suc j) (suc m) le = up (last j m (omega arith))
      where
        up : (j < m) ⊎ (j ≡ m) → (suc j < suc m) ⊎ (suc j ≡ suc m)
        up (inl l) = inl (omega (arith, l))
        up (inr e) = inr (ap suc e)

    by : (k < n) ⊎ (k ≡ n) → P k
    by (inl l) = below k l
    by (inr e) = subst P (sym e) here

module _ {K : Type 0} (same : K → K → Bool) (digit : K → ℕ → ℕ) (few : (k : K) (n : ℕ) → digit k n < 4)
    (keys : List K) (next : List ℕ) (tree : IsTree same digit keys next) (key : K) where
  -- a search goes on to later rows
  pub later : (n : ℕ) → ((k : ℕ) → k < n → 0 < walk next (digit key) (suc k)) → n ≤ walk next (digit key) n
  later zero goes = omega arith
  later (suc n) goes =
      let before = later n (λ k lt. goes k (omega arith)) in
      let here = goes n (omega arith) in
      let up = tree.rises (walk next (digit key) n) (digit key n) (few key n) here in
      omega (arith, before, up)

  -- and stays within them
  pub inside : (n : ℕ) → 0 < length keys → ((k : ℕ) → k < n → 0 < walk next (digit key) (suc k))
      → walk next (digit key) n < length keys
  inside zero some goes = some
  inside (suc n) some goes =
      tree.within (walk next (digit key) n) (digit key n) (few key n) (goes n (omega arith))

  -- a search that has come this far by other keys
  module _ (n at : ℕ) (comes : at ≡ walk next (digit key) n)
      (goes : (k : ℕ) → k < n → 0 < walk next (digit key) (suc k)) where
    pub stands : n < length keys → at < length keys
    stands lt = let in_rows = inside n (omega (arith, lt)) goes in omega (arith, comes, in_rows)

    module _ (passed : (k : ℕ) → k < n → Differs same key keys (walk next (digit key) k)) where
      pub passes : Differs same key keys at → (k : ℕ) → k < n + 1 → Differs same key keys (walk next (digit key) k)
      passes other = up_to (λ k. Differs same key keys (walk next (digit key) k)) n passed
          (subst (Differs same key keys) comes other)

      -- it ends where no way goes on
      pub stops_here : Differs same key keys at → (d : ℕ) → d ≡ digit key n → get_or next (4 * at + d) 0 ≡ 0
          → Ends next (digit key) (Differs same key keys) (4 * at + d)
      stops_here other d is none =
          let on : 4 * at + d ≡ way (walk next (digit key) n) (digit key n) = λ i. way (comes i) (is i) in
          record {
            steps = n;
            on = on;
            goes = goes;
            open_end = ap (λ w. get_or next w 0) (sym on) ∙ none;
            passed = λ k le. passes other k (omega (arith, le));
          }

      -- and goes on elsewhere
      pub comes_next : (d : ℕ) → d ≡ digit key n → get_or next (4 * at + d) 0 ≡ walk next (digit key) (n + 1)
      comes_next d is =
          let on : 4 * at + d ≡ way (walk next (digit key) n) (digit key n) = λ i. way (comes i) (is i) in
          let more : suc n ≡ n + 1 = omega arith in
          ap (λ w. get_or next w 0) on ∙ ap (walk next (digit key)) more

      pub goes_next : (d : ℕ) → d ≡ digit key n → 0 < get_or next (4 * at + d) 0
          → (k : ℕ) → k < n + 1 → 0 < walk next (digit key) (suc k)
      goes_next d is some =
          up_to (λ k. 0 < walk next (digit key) (suc k)) n goes
          (let here = comes_next d is in
          let more : suc n ≡ n + 1 = omega arith in
          subst (λ m. 0 < walk next (digit key) m) (sym more) (omega (arith, here, some)))

    no_rows : length keys ≤ n → length keys ≡ 0
    no_rows all = by (length keys) refl
      where
        by : (m : ℕ) → length keys ≡ m → length keys ≡ 0
        by zero is = is
        by (suc m) is =
            let low = later n goes in
            let high = inside n (omega (arith, is)) goes in
            absurd (omega (arith, low, high, all))

    -- it has come by all rows only where there is none
    pub goes_nowhere : length keys ≤ n → (d : ℕ) → d ≡ digit key 0
        → Ends next (digit key) (Differs same key keys) d
    goes_nowhere all d is =
        let none = no_rows all in
        let long = tree.long in
        record {
          steps = 0;
          on = omega (arith, is);
          goes = λ k lt. absurd (omega arith);
          open_end = nothing_in next (way 0 (digit key 0)) (omega (arith, long, none));
          passed = λ k le q at. let below = below_some keys (walk next (digit key) k) q at in absurd (omega (arith, below, none));
        }

  module _ (exact : (x y : K) → same x y ≡ true → x ≡ y) (end : ℕ)
      (ends : Ends next (digit key) (Differs same key keys) end) where
    differs : (b : Bool) (i : ℕ) (k : K) → slice_get keys i ≡ Some k → same key k ≡ b → b ≡ false
    differs false i k at is = refl
    differs true i k at is =
        let found = subst (λ q. Reaches next (digit q) i) (sym (exact key k is)) (tree.found i k at) in
        by_steps found (order found.steps ends.steps)
      where
        order : (m n : ℕ) → (m ≤ n) ⊎ (n < m)
        order zero n = inl (omega arith)
        order (suc m) zero = inr (omega arith)
        order (suc m) (suc n) = up (order m n)
          where
            up : (m ≤ n) ⊎ (n < m) → (suc m ≤ suc n) ⊎ (suc n < suc m)
            up (inl le) = inl (omega (arith, le))
            up (inr lt) = inr (omega (arith, lt))

        by_steps : (found : Reaches next (digit key) i) → (found.steps ≤ ends.steps) ⊎ (ends.steps < found.steps)
            → true ≡ false
        by_steps found (inl le) =
            sym is
            ∙ ends.passed found.steps le k (ap (λ (r : ℕ). slice_get keys r) found.comes ∙ at)
        by_steps found (inr lt) =
            let goes = found.goes ends.steps lt in
            let stops = ends.open_end in
            absurd (omega (arith, goes, stops))

    -- no row has the key
    pub nowhere : (i : ℕ) (k : K) → slice_get keys i ≡ Some k → same key k ≡ false
    nowhere i k at = differs (same key k) i k at refl

    absent_in : {A : Type 0} (es : List (K × A))
        → ((i : ℕ) (k : K) → slice_get (keys_of es) i ≡ Some k → same key k ≡ false) → IsAbsent same key es
    absent_in [] all = tt
    absent_in (e ∷ es) all = (all 0 e.0 refl, absent_in es (λ i k at. all (suc i) k at))

    pub looked : {A : Type 0} (es : List (K × A)) → keys ≡ keys_of es → lookup (same key) es ≡ None
    looked es is =
        lookup_absent same key es
        (absent_in es (λ i k at. nowhere i k (ap (λ ks. slice_get ks i) is ∙ at)))

    ending : end ≡ way (walk next (digit key) ends.steps) (digit key ends.steps)
    ending = ends.on

    pub end_within : end < length next + 4
    end_within =
        let d = few key ends.steps in
        let e = ending in
        let long = tree.long in
        by_rows (length keys) refl
      where
        by_rows : (n : ℕ) → length keys ≡ n → end < length next + 4
        by_rows zero is =
            let at : walk next (digit key) ends.steps ≡ 0
            = none ends.steps refl in
            let d = few key ends.steps in
            let e = ending in
            omega (arith, d, e, at)
          where
            none : (s : ℕ) → ends.steps ≡ s → walk next (digit key) ends.steps ≡ 0
            none zero e = ap (walk next (digit key)) e
            none (suc s) e =
                let goes = ends.goes s (omega (arith, e)) in
                let low = tree.within (walk next (digit key) s) (digit key s) (few key s) goes in
                absurd (omega (arith, low, is))
        by_rows (suc n) is =
            let in_rows = inside ends.steps (omega (arith, is)) ends.goes in
            let d = few key ends.steps in
            let e = ending in
            let long = tree.long in
            omega (arith, d, e, in_rows, long)

    abbrev after : List ℕ
    after = with_row next end (length keys)

    abbrev zeros : List ℕ
    zeros = next ++ 0 ∷ 0 ∷ 0 ∷ 0 ∷ []

    end_in_zeros : end < length zeros
    end_in_zeros =
        let within = end_within in
        let long : length zeros ≡ length next + 4 = length-append next (0 ∷ 0 ∷ 0 ∷ 0 ∷ []) in
        omega (arith, within, long)

    way_or : (w : ℕ) → (get_or after w 0 ≡ get_or next w 0) ⊎ ((w ≡ end) × (get_or after w 0 ≡ length keys))
    way_or w = by (written_or zeros end (length keys) w end_in_zeros)
      where
        by : (get_or after w 0 ≡ get_or zeros w 0) ⊎ ((w ≡ end) × (get_or after w 0 ≡ length keys))
            → (get_or after w 0 ≡ get_or next w 0) ⊎ ((w ≡ end) × (get_or after w 0 ≡ length keys))
        by (inl e) = inl (e ∙ zeros_behind next w)
        by (inr e) = inr e

    stops : get_or next end 0 ≡ 0
    stops = ap (λ w. get_or next w 0) ending ∙ ends.open_end

    kept : (row d : ℕ) → 0 < following next row d → following after row d ≡ following next row d
    kept row d some = by (way_or (way row d))
      where
        by : (get_or after (way row d) 0 ≡ get_or next (way row d) 0)
            ⊎ ((way row d ≡ end) × (get_or after (way row d) 0 ≡ length keys))
            → following after row d ≡ following next row d
        by (inl e) = e
        by (inr e) =
            let none : following next row d ≡ 0 = ap (λ w. get_or next w 0) e.0 ∙ stops in
            absurd (omega (arith, none, some))

    walks_on : (digits : ℕ → ℕ) (n : ℕ) → ((k : ℕ) → k < n → 0 < walk next digits (suc k))
        → walk after digits n ≡ walk next digits n
    walks_on digits zero goes = refl
    walks_on digits (suc n) goes =
        ap (λ row. following after row (digits n)) (walks_on digits n (λ k lt. goes k (omega arith)))
        ∙ kept (walk next digits n) (digits n) (goes n (omega arith))

    goes_on : (digits : ℕ → ℕ) (n : ℕ) → ((k : ℕ) → k < n → 0 < walk next digits (suc k))
        → (k : ℕ) → k < n → 0 < walk after digits (suc k)
    goes_on digits n goes k lt =
        let here = walks_on digits (suc k) (λ j below. goes j (omega arith)) in
        let there = goes k lt in
        omega (arith, here, there)

    reaches_on : (k : K) (i : ℕ) → Reaches next (digit k) i → Reaches after (digit k) i
    reaches_on k i r = record {
      steps = r.steps;
      comes = walks_on (digit k) r.steps r.goes ∙ r.comes;
      goes = goes_on (digit k) r.steps r.goes;
    }

    comes_to : walk after (digit key) (suc ends.steps) ≡ length keys
    comes_to =
        ap (λ row. following after row (digit key ends.steps)) (walks_on (digit key) ends.steps ends.goes)
        ∙ ap (λ w. get_or after w 0) (sym ending) ∙ written_at zeros end (length keys) end_in_zeros

    reaches_new : (n : ℕ) → length keys ≡ n → Reaches after (digit key) (length keys)
    reaches_new zero is = record { steps = 0; comes = sym is; goes = λ k lt. absurd (omega arith) }
    reaches_new (suc n) is = record {
      steps = suc ends.steps;
      comes = comes_to;
      goes = λ k lt.
          up_to (λ j. 0 < walk after (digit key) (suc j)) ends.steps
          (goes_on (digit key) ends.steps ends.goes) there k (omega (arith, lt));
    }
      where
        there : 0 < walk after (digit key) (suc ends.steps)
        there = let to = comes_to in omega (arith, to, is)

    abbrev more_keys : List K
    more_keys = keys ++ key ∷ []

    found_on : (i : ℕ) (k : K) → slice_get more_keys i ≡ Some k → Reaches after (digit k) i
    found_on i k at = by (last_or keys key i k at)
      where
        by : (slice_get keys i ≡ Some k) ⊎ ((i ≡ length keys) × (key ≡ k)) → Reaches after (digit k) i
        by (inl e) = reaches_on k i (tree.found i k e)
        by (inr e) =
            subst (λ q. Reaches after (digit q) i) e.1
            (subst (Reaches after (digit key)) (sym e.0) (reaches_new (length keys) refl))

    many : length more_keys ≡ length keys + 1
    many = length-append keys (key ∷ [])

    row_of_end : (row d : ℕ) → d < 4 → way row d ≡ end → 0 < length keys → row < length keys
    row_of_end row d lt at some =
        let in_rows = inside ends.steps some ends.goes in
        let e = ending in
        let f = few key ends.steps in
        omega (arith, in_rows, e, f, at, lt)

    rises_on : (row d : ℕ) → d < 4 → 0 < following after row d → row < following after row d
    rises_on row d lt some = by (way_or (way row d))
      where
        by : (get_or after (way row d) 0 ≡ get_or next (way row d) 0)
            ⊎ ((way row d ≡ end) × (get_or after (way row d) 0 ≡ length keys))
            → row < following after row d
        by (inl e) = let old = tree.rises row d lt (omega (arith, e, some)) in omega (arith, e, old)
        by (inr e) =
            let new = e.1 in
            let below = row_of_end row d lt e.0 (omega (arith, new, some)) in
            omega (arith, new, below)

    within_on : (row d : ℕ) → d < 4 → 0 < following after row d → following after row d < length more_keys
    within_on row d lt some = by (way_or (way row d))
      where
        by : (get_or after (way row d) 0 ≡ get_or next (way row d) 0)
            ⊎ ((way row d ≡ end) × (get_or after (way row d) 0 ≡ length keys))
            → following after row d < length more_keys
        by (inl e) =
            let old = tree.within row d lt (omega (arith, e, some)) in
            let more = many in
            omega (arith, e, old, more)
        by (inr e) = let new = e.1 in let more = many in omega (arith, new, more)

    none_equal : (ks : List K) → ((i : ℕ) (k : K) → slice_get ks i ≡ Some k → same key k ≡ false)
        → list_any (same key) ks ≡ false
    none_equal [] all = refl
    none_equal (k ∷ ks) all =
        ap (λ b. b || list_any (same key) ks) (all 0 k refl) ∙ none_equal ks (λ i q at. all (suc i) q at)

    -- the rows with one of the key behind them
    pub grows : IsEquivalence same → IsTree same digit (keys ++ key ∷ []) (with_row next end (length keys))
    grows laws = record {
      long =
          let a : length after ≡ length zeros = length-set zeros end (length keys) in
          let b : length zeros ≡ length next + 4 = length-append next (0 ∷ 0 ∷ 0 ∷ 0 ∷ []) in
          let c = many in
          let d = tree.long in
          omega (arith, a, b, c, d);
      rises = rises_on;
      within = within_on;
      found = found_on;
      apart = IsDistinct-push laws keys key tree.apart (none_equal keys nowhere);
    }
