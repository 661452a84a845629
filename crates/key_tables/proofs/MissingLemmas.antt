-- Keys with those of others behind them that aren't among them.
use Rattle.std.proofs.Common.{◌≡◌, ◌≢◌, ◌⊎◌, inl, inr, ⊎_elim, ℕ, ◌+◌, ◌-◌, ◌<◌, ◌≤◌, Bool, true, false, not, List, [], ◌∷◌, ◌++◌, length, filter, cond}
use Rattle.std.proofs.Common.{get_or, Some, refl, sym, ◌∙◌, ap, arith, slice_get, true≢false, length-append}
use Rattle.std.specs.Bool.{Decides}
use Rattle.std.specs.List.{All, AllByRecursion, list_any}
use Rattle.std.proofs.lemmas.Bool.{cases_order}
use Rattle.std.proofs.lemmas.List.{get_or-append-add, get_or_append_left}
use Rattle.std.proofs.lemmas.List.Elements.{All-from_recursion}
use Rattle.std.proofs.lemmas.List.Folds.{list_any_at}
use Rattle.std.proofs.lemmas.List.Sums.{count_by-le-length, length-filter}
use Rattle.std.proofs.lemmas.List.Kept.{AllPairs-filter}
use Rattle.key_tables.specs.Keys.{AreApart, NumberEach, missing}
use Rattle.key_tables.proofs.TableLemmas.{slice_get_kept}

pub number_kept : {K : Type 0} (table more : List K) (ns : List ℕ) (ks : List K) → NumberEach table ns ks
    → NumberEach (table ++ more) ns ks
number_kept table more [] [] h = tt
number_kept table more [] (k ∷ ks) h = absurd h
number_kept table more (n ∷ ns) [] h = absurd h
number_kept table more (n ∷ ns) (k ∷ ks) h = (slice_get_kept table more n k h.0, number_kept table more ns ks h.1)

pub number_push : {K : Type 0} (table : List K) (ns : List ℕ) (ks : List K) (n : ℕ) (k : K) → NumberEach table ns ks
    → slice_get table n ≡ Some k → NumberEach table (ns ++ n ∷ []) (ks ++ k ∷ [])
number_push table [] [] n k h e = (e, tt)
number_push table [] (x ∷ ks) n k h e = absurd h
number_push table (m ∷ ns) [] n k h e = absurd h
number_push table (m ∷ ns) (x ∷ ks) n k h e = (h.0, number_push table ns ks n k h.1 e)

-- Those that aren't there

pub length_missing : {K : Type 0} (same : K → K → Bool) (own others : List K)
    → length (missing same own others) ≤ length others
length_missing {K = K} same own others =
    let p : K → Bool = λ y. not (list_any (same y) own) in
    omega (arith, length-filter p others, count_by-le-length p others)

-- lists that differ in themselves and from one another
apart_behind : {X : Type 0} (xs ys : List X) → AreApart xs → AreApart ys
    → ((i j : ℕ) (d : X) → i < length xs → j < length ys → get_or xs i d ≢ get_or ys j d) → AreApart (xs ++ ys)
apart_behind xs ys apart_x apart_y none = λ i j d less lt same.
    let n : ℕ = length xs in
    let long : j < n + length ys = omega (arith, lt, length-append xs ys) in
    let first = λ (h : j < n).
    apart_x i j d less h
    (sym (get_or_append_left xs ys d i (omega (arith, less, h))) ∙ same ∙ get_or_append_left xs ys d j h) in
    let behind : (k : ℕ) → n ≤ k → get_or (xs ++ ys) k d ≡ get_or ys (k - n) d
    = λ k le.
    let is : n + (k - n) ≡ k = omega (arith, le) in
    ap (λ m. get_or (xs ++ ys) m d) (sym is) ∙ get_or-append-add xs ys (k - n) d in
    let last = λ (h : n ≤ j).
    let rest : (i < n) ⊎ (n ≤ i) → ⊥
    = λ o. ⊎_elim
    (λ (l : i < n). none i (j - n) d l (omega (arith, h, long))
    (sym (get_or_append_left xs ys d i l) ∙ same ∙ behind j h))
    (λ (g : n ≤ i). apart_y (i - n) (j - n) d (omega (arith, g, less)) (omega (arith, h, long))
    (sym (behind i g) ∙ same ∙ behind j h)) o in
    rest (below i n) in
    ⊎_elim first last (below j n)
  where
    below : (a b : ℕ) → (a < b) ⊎ (b ≤ a)
    below a b = ⊎_elim (λ (e : a ≡ b). inr (omega (arith, e)))
        (λ (o : (a < b) ⊎ (b < a)). ⊎_elim (λ (l : a < b). inl l) (λ (g : b < a). inr (omega (arith, g))) o)
        (cases_order a b)

module _ {K : Type 0} {same : K → K → Bool} (decides : (x y : K) → Decides (same x y) (x ≡ y)) where
  passes : (p : K → Bool) (ys : List K) → All (λ y. p y ≡ true) (filter p ys)
  passes p ys = All-from_recursion (λ y. p y ≡ true) (filter p ys) (go ys)
    where
      go : (ys : List K) → AllByRecursion (λ y. p y ≡ true) (filter p ys)
      go [] = tt
      go (y ∷ ys) =
          let here : (b : Bool) → p y ≡ b → AllByRecursion (λ y. p y ≡ true) (cond b (y ∷ filter p ys) (filter p ys))
          = elim [ true ↦ λ e. (e, go ys) | false ↦ λ e. go ys ] in here (p y) refl

  pub missing_apart : (own others : List K) → AreApart own → AreApart others → AreApart (own ++ missing same own others)
  missing_apart own others apart_o apart_n =
      apart_behind own (missing same own others) apart_o
      (AllPairs-filter (λ x y. x ≢ y) (λ y. not (list_any (same y) own)) others apart_n)
      (λ i j d in_i in_j is.
      let y : K = get_or (missing same own others) j d in
      let there : list_any (same y) own ≡ true
      = list_any_at (same y) own i d in_i ((decides y (get_or own i d)).1 (sym is)) in
      let absent : not (list_any (same y) own) ≡ true
      = passes (λ z. not (list_any (same z) own)) others j d in_j in
      true≢false (sym absent ∙ ap not there))
