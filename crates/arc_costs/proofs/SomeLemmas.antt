-- Which rows aren't nothing, and what becomes of that as one of them changes.
use Rattle.std.proofs.Common.{◌≡◌, ◌≤◌, ◌<◌, ◌⊎◌, inl, inr, ◌+◌, ◌==◌, ℕ, zero, suc, Bool, true, false, cond, not, ◌||◌}
use Rattle.std.proofs.Common.{List, [], ◌∷◌, ◌++◌, All, filter, get_or, length, map, slice_get, Some}
use Rattle.std.proofs.Common.{refl, sym, ap, subst, ◌∙◌, arith, true≢false, if◌then◌else◌, IsPermutation}
use Rattle.std.specs.Bool.{beq}
use Rattle.std.specs.List.{AllByRecursion, list_any}
use Rattle.std.specs.Map.{values_of}
use Rattle.indexmap.specs.IndexMap.{set_value_at}
use Rattle.std.proofs.lemmas.Bool.Decides.{Decides-eqb}
use Rattle.std.proofs.lemmas.List.Elements.{All-from_recursion}
use Rattle.std.proofs.lemmas.List.Sorted.{All-permutation, IsPermutation-cons, IsPermutation-map, IsPermutation-middle}
use Rattle.std.proofs.lemmas.List.{append-nil, length-append, length-map}
use Rattle.std.proofs.lemmas.List.Sorted.{IsPermutation-append_left, IsPermutation-refl, IsPermutation-sym}
use Rattle.std.proofs.lemmas.List.Sorted.{IsPermutation-to_front}
use Rattle.std.proofs.lemmas.List.Sorted.{IsPermutation-trans, length_permutation, list_any-IsPermutation}
use Rattle.std.proofs.lemmas.Option.{none-some, same_Some}
use Rattle.arc_costs.specs.Amounts.{clear_amounts}
use Rattle.arc_costs.specs.inner.Shape.{AllWhole}
use Rattle.arc_costs.specs.inner.Somes.{Knows, some_from}

-- two tests that differ, where the first stays true, and two that don't
pub became : (is was : Bool) → not (beq is was) ≡ true → (was ≡ true → is ≡ true) → (was ≡ false) × (is ≡ true)
became true true apart stays = absurd (true≢false (sym apart))
became true false apart stays = (refl, refl)
became false true apart stays = absurd (true≢false (sym (stays refl)))
became false false apart stays = absurd (true≢false (sym apart))

pub stayed : (is was : Bool) → not (beq is was) ≡ false → is ≡ was
stayed true true same = refl
stayed true false same = absurd (true≢false same)
stayed false true same = absurd (true≢false same)
stayed false false same = refl

-- Lists of indexes

-- one index more stands among the others
record OneMore (index : ℕ) (before after : List ℕ) : Type 0 where
  front : List ℕ
  back : List ℕ
  was : before ≡ front ++ back
  now : after ≡ front ++ index ∷ back

one_later : (b : Bool) (start index other : ℕ) (before after : List ℕ) → other ≡ index → OneMore other before after
    → OneMore index (if b then start ∷ before else before) (if b then start ∷ after else after)
one_later true start index other before after same more = record {
  front = start ∷ more.front;
  back = more.back;
  was = ap (λ is. start ∷ is) more.was;
  now = ap (λ is. start ∷ is) (more.now ∙ ap (λ n. more.front ++ n ∷ more.back) same);
}
one_later false start index other before after same more = record {
  front = more.front;
  back = more.back;
  was = more.was;
  now = more.now ∙ ap (λ n. more.front ++ n ∷ more.back) same;
}

front_of : (b : Bool) (start : ℕ) (xs ys : List ℕ)
    → (if b then start ∷ (xs ++ ys) else xs ++ ys) ≡ (if b then start ∷ xs else xs) ++ ys
front_of true start xs ys = refl
front_of false start xs ys = refl

no_items : {X : Type 0} (xs : List X) → length xs ≡ 0 → xs ≡ []
no_items [] none = refl
no_items (x ∷ xs) none = absurd (omega (arith, none))

among_more : (b : Bool) (start j : ℕ) (is : List ℕ) → list_any (λ k. k == j) is ≡ true
    → list_any (λ k. k == j) (if b then start ∷ is else is) ≡ true
among_more true start j is rest = later (start == j)
  where
    later : (b : Bool) → b || list_any (λ k. k == j) is ≡ true
    later true = refl
    later false = rest
among_more false start j is rest = rest

-- Rows

module _ {K A : Type 0} where
  -- the value of a row is whole where all are
  pub whole_at : (is_whole : A → Type 0) (es : List (K × A)) (i : ℕ) (v : A) → AllWhole is_whole es
      → slice_get (values_of es) i ≡ Some v → is_whole v
  whole_at is_whole [] i v whole at = absurd (none-some v at)
  whole_at is_whole (e ∷ es) zero v whole at = subst is_whole (same_Some e.1 v at) whole.0
  whole_at is_whole (e ∷ es) (suc i) v whole at = whole_at is_whole es i v whole.1 at

  pub length-set_value_at : (es : List (K × A)) (i : ℕ) (v : A) → length (set_value_at es i v) ≡ length es
  length-set_value_at [] i v = refl
  length-set_value_at (e ∷ es) zero v = refl
  length-set_value_at (e ∷ es) (suc i) v = ap suc (length-set_value_at es i v)

  -- what was written is there
  pub read_back : (es : List (K × A)) (i : ℕ) (held w v : A) → slice_get (values_of es) i ≡ Some held
      → slice_get (values_of (set_value_at es i w)) i ≡ Some v → w ≡ v
  read_back [] i held w v was at = absurd (none-some held was)
  read_back (e ∷ es) zero held w v was at = same_Some w v at
  read_back (e ∷ es) (suc i) held w v was at = read_back es i held w v was at

  module _ (nothing : A) where
    pub clear_amounts-set : (es : List (K × A)) (i : ℕ) (v : A) → clear_amounts nothing (set_value_at es i v) ≡ clear_amounts nothing es
    clear_amounts-set [] i v = refl
    clear_amounts-set (e ∷ es) zero v = refl
    clear_amounts-set (e ∷ es) (suc i) v = ap (λ rs. (e.0, nothing) ∷ rs) (clear_amounts-set es i v)

    -- each row that isn't nothing is still to be made so
    abbrev pub AreLeft : List (K × A) → List ℕ → Type 0
    AreLeft es left = (i : ℕ) (v : A) → slice_get (values_of es) i ≡ Some v
        → (v ≡ nothing) ⊎ (list_any (λ j. j == i) left ≡ true)

    pub none_left : (es : List (K × A)) → AreLeft es [] → es ≡ clear_amounts nothing es
    none_left [] left = refl
    none_left (e ∷ es) left =
        λ i. (e.0, head (left 0 e.1 refl) i) ∷ none_left es (λ j v at. left (suc j) v at) i
      where
        head : (e.1 ≡ nothing) ⊎ (false ≡ true) → e.1 ≡ nothing
        head (inl is) = is
        head (inr other) = absurd (true≢false (sym other))

    -- a value after a write is the one that was written, or was there before
    written : (es : List (K × A)) (i j : ℕ) (w v : A) → slice_get (values_of (set_value_at es i w)) j ≡ Some v
        → (v ≡ w) ⊎ (((i == j) ≡ false) × (slice_get (values_of es) j ≡ Some v))
    written [] i j w v at = absurd (none-some v at)
    written (e ∷ es) zero zero w v at = inl (sym (same_Some w v at))
    written (e ∷ es) zero (suc j) w v at = inr (grind arith, at)
    written (e ∷ es) (suc i) zero w v at = inr (grind arith, at)
    written (e ∷ es) (suc i) (suc j) w v at = up (written es i j w v at)
      where
        up : (v ≡ w) ⊎ (((i == j) ≡ false) × (slice_get (values_of es) j ≡ Some v))
            → (v ≡ w) ⊎ (((suc i == suc j) ≡ false) × (slice_get (values_of (e ∷ es)) (suc j) ≡ Some v))
        up (inl is) = inl is
        up (inr other) = inr (grind (arith, other.0), other.1)

    pub left_next : (es : List (K × A)) (i : ℕ) (left : List ℕ) → AreLeft es (i ∷ left)
        → AreLeft (set_value_at es i nothing) left
    left_next es i left before j v at = by (written es i j nothing v at)
      where
        behind : ((i == j) ≡ false) → (v ≡ nothing) ⊎ (list_any (λ k. k == j) (i ∷ left) ≡ true)
            → (v ≡ nothing) ⊎ (list_any (λ k. k == j) left ≡ true)
        behind other (inl is) = inl is
        behind other (inr is) = inr (sym (ap (λ b. b || list_any (λ k. k == j) left) other) ∙ is)

        by : (v ≡ nothing) ⊎ (((i == j) ≡ false) × (slice_get (values_of es) j ≡ Some v))
            → (v ≡ nothing) ⊎ (list_any (λ k. k == j) left ≡ true)
        by (inl is) = inl is
        by (inr other) = behind other.0 (before j v other.1)

  module _ (is_some : A → Bool) where
    abbrev somes : ℕ → List (K × A) → List ℕ
    somes = some_from is_some

    few_more : (b : Bool) (start : ℕ) (e : K × A) (es : List (K × A)) → is_some e.1 ≡ b
        → length (somes (suc start) es) ≤ length es → length (somes start (e ∷ es)) ≤ length (e ∷ es)
    few_more b start e es is rest =
        let here = ap (λ c. length (if c then start ∷ somes (suc start) es else somes (suc start) es)) is in by b here
      where
        by : (b : Bool) → length (somes start (e ∷ es))
            ≡ length (if b then start ∷ somes (suc start) es else somes (suc start) es)
            → length (somes start (e ∷ es)) ≤ length (e ∷ es)
        by true here = omega (arith, here, rest)
        by false here = omega (arith, here, rest)

    -- they are no more than the rows
    pub few : (start : ℕ) (es : List (K × A)) → length (somes start es) ≤ length es
    few start [] = omega arith
    few start (e ∷ es) = few_more (is_some e.1) start e es refl (few (suc start) es)

    -- a row that stays as it was
    pub still : (start : ℕ) (es : List (K × A)) (i : ℕ) (v held : A) → slice_get (values_of es) i ≡ Some held
        → is_some v ≡ is_some held → somes start (set_value_at es i v) ≡ somes start es
    still start [] i v held at same = absurd (none-some held at)
    still start (e ∷ es) zero v held at same =
        ap (λ b. if b then start ∷ somes (suc start) es else somes (suc start) es)
        (same ∙ ap is_some (sym (same_Some e.1 held at)))
    still start (e ∷ es) (suc i) v held at same =
        ap (λ is. if is_some e.1 then start ∷ is else is) (still (suc start) es i v held at same)

    begins : (start : ℕ) (es : List (K × A)) (i : ℕ) (v held : A) → slice_get (values_of es) i ≡ Some held
        → is_some held ≡ false → is_some v ≡ true
        → OneMore (start + i) (somes start es) (somes start (set_value_at es i v))
    begins start [] i v held at none some = absurd (none-some held at)
    begins start (e ∷ es) zero v held at none some =
        let here : start ≡ start + 0 = omega arith in
        let rest = somes (suc start) es in
        record {
          front = [];
          back = rest;
          was = ap (λ b. if b then start ∷ rest else rest) (ap is_some (same_Some e.1 held at) ∙ none);
          now = ap (λ b. if b then start ∷ rest else rest) some ∙ ap (λ n. n ∷ rest) here;
        }
    begins start (e ∷ es) (suc i) v held at none some =
        let next : suc start + i ≡ start + suc i = omega arith in
        one_later (is_some e.1) start (start + suc i) (suc start + i) (somes (suc start) es)
        (somes (suc start) (set_value_at es i v)) next (begins (suc start) es i v held at none some)

    -- an index that is put behind the others is one more of them
    pub noted : (es : List (K × A)) (i : ℕ) (v held : A) (some : List ℕ) → slice_get (values_of es) i ≡ Some held
        → is_some held ≡ false → is_some v ≡ true → IsPermutation (somes 0 es) some
        → IsPermutation (somes 0 (set_value_at es i v)) (some ++ i ∷ [])
    noted es i v held some at none is known =
        let more = begins 0 es i v held at none is in
        let here : 0 + i ≡ i = omega arith in
        let front = more.front in
        let back = more.back in
        subst (λ after. IsPermutation after (some ++ i ∷ [])) (sym (more.now ∙ ap (λ n. front ++ n ∷ back) here))
        (IsPermutation-trans (front ++ i ∷ back) (i ∷ (front ++ back)) (some ++ i ∷ [])
        (IsPermutation-middle front i back)
        (IsPermutation-trans (i ∷ (front ++ back)) (i ∷ some) (some ++ i ∷ [])
        (IsPermutation-cons i (front ++ back) some (subst (λ before. IsPermutation before some) more.was known))
        (IsPermutation-sym (some ++ i ∷ []) (i ∷ some) (IsPermutation-to_front some i))))

    behind : (start : ℕ) (es : List (K × A)) (e : K × A)
        → somes start (es ++ e ∷ []) ≡ somes start es ++ (if is_some e.1 then (start + length es) ∷ [] else [])
    behind start [] e =
        let here : start ≡ start + 0 = omega arith in ap (λ n. if is_some e.1 then n ∷ [] else []) here
    behind start (f ∷ es) e =
        let next : suc start + length es ≡ start + length (f ∷ es) = omega arith in
        ap (λ is. if is_some f.1 then start ∷ is else is)
        (behind (suc start) es e ∙ ap (λ n. somes (suc start) es ++ (if is_some e.1 then n ∷ [] else [])) next)
        ∙ front_of (is_some f.1) start (somes (suc start) es)
        (if is_some e.1 then (start + length (f ∷ es)) ∷ [] else [])

    below_more : (b : Bool) (start : ℕ) (e : K × A) (es : List (K × A))
        → AllByRecursion (λ i. i < start + length (e ∷ es)) (somes (suc start) es)
        → AllByRecursion (λ i. i < start + length (e ∷ es))
        (if b then start ∷ somes (suc start) es else somes (suc start) es)
    below_more true start e es rest = (omega arith, rest)
    below_more false start e es rest = rest

    below : (start : ℕ) (es : List (K × A)) → AllByRecursion (λ i. i < start + length es) (somes start es)
    below start [] = tt
    below start (e ∷ es) =
        let next : suc start + length es ≡ start + length (e ∷ es) = omega arith in
        below_more (is_some e.1) start e es
        (subst (λ n. AllByRecursion (λ i. i < n) (somes (suc start) es)) next (below (suc start) es))

    -- each index is one of a row
    pub within : (es : List (K × A)) (some : List ℕ) → IsPermutation (somes 0 es) some → All (λ i. i < length es) some
    within es some known =
        let here : 0 + length es ≡ length es = omega arith in
        All-permutation (λ i. i < length es) (somes 0 es) some known
        (All-from_recursion (λ i. i < length es) (somes 0 es)
        (subst (λ n. AllByRecursion (λ i. i < n) (somes 0 es)) here (below 0 es)))

    pub no_more : (es : List (K × A)) (some : List ℕ) → IsPermutation (somes 0 es) some → length some ≤ length es
    no_more es some known =
        let long = length_permutation (somes 0 es) some known in let less = few 0 es in omega (arith, long, less)

    -- a row that is put behind the others, which is something or isn't
    module _ (es : List (K × A)) (some : List ℕ) (cap : ℕ) (knows : Knows is_some es some cap) (e : K × A)
        (place : length es + 1 ≤ cap) where
      fits_more : length (es ++ e ∷ []) ≤ cap
      fits_more =
          let long : length (es ++ e ∷ []) ≡ length es + 1 = length-append es (e ∷ []) in omega (arith, long, place)

      put : (b : Bool) → is_some e.1 ≡ b
          → somes 0 (es ++ e ∷ []) ≡ somes 0 es ++ (if b then length es ∷ [] else [])
      put b is =
          let here : 0 + length es ≡ length es = omega arith in
          behind 0 es e ∙ (λ i. somes 0 es ++ (if is i then here i ∷ [] else []))

      pub knows_pushed : is_some e.1 ≡ true → Knows is_some (es ++ e ∷ []) (some ++ length es ∷ []) cap
      knows_pushed is = record {
        each = subst (λ now. IsPermutation now (some ++ length es ∷ [])) (sym (put true is))
            (IsPermutation-append_left (length es ∷ []) (somes 0 es) some knows.each);
        fits = fits_more;
      }

      pub knows_pushed_nothing : is_some e.1 ≡ false → Knows is_some (es ++ e ∷ []) some cap
      knows_pushed_nothing is = record {
        each = subst (λ now. IsPermutation now some) (sym (put false is ∙ append-nil (somes 0 es))) knows.each;
        fits = fits_more;
      }

    module _ (es : List (K × A)) (some : List ℕ) (cap : ℕ) (knows : Knows is_some es some cap) (i : ℕ) (v held : A)
        (at : slice_get (values_of es) i ≡ Some held) where
      fits_still : length (set_value_at es i v) ≤ cap
      fits_still = let long = length-set_value_at es i v in let fits = knows.fits in omega (arith, long, fits)

      pub knows_still : is_some v ≡ is_some held → Knows is_some (set_value_at es i v) some cap
      knows_still same = record {
        each = subst (λ is. IsPermutation is some) (sym (still 0 es i v held at same)) knows.each;
        fits = fits_still;
      }

      pub knows_noted : is_some held ≡ false → is_some v ≡ true
          → Knows is_some (set_value_at es i v) (some ++ i ∷ []) cap
      knows_noted none is = record {
        each = noted es i v held some at none is knows.each;
        fits = fits_still;
      }

      -- and there is a place for it
      pub has_place : is_some held ≡ false → is_some v ≡ true → length some < cap
      has_place none is =
          let more = no_more (set_value_at es i v) (some ++ i ∷ []) (noted es i v held some at none is knows.each) in
          let long : length (some ++ i ∷ []) ≡ length some + 1 = length-append some (i ∷ []) in
          let fits = fits_still in
          omega (arith, more, long, fits)

    -- the rows at these indexes are those that aren't nothing
    picked_more : (b : Bool) (f : ℕ → K × A) (start : ℕ) (e : K × A) (es : List (K × A)) → is_some e.1 ≡ b → f start ≡ e
        → map f (somes (suc start) es) ≡ filter (λ r. is_some r.1) es
        → map f (somes start (e ∷ es)) ≡ filter (λ r. is_some r.1) (e ∷ es)
    picked_more b f start e es is here rest =
        ap (λ c. map f (if c then start ∷ somes (suc start) es else somes (suc start) es)) is ∙ by b
        ∙ sym (ap (λ c. cond c (e ∷ filter (λ r. is_some r.1) es) (filter (λ r. is_some r.1) es)) is)
      where
        by : (b : Bool) → map f (if b then start ∷ somes (suc start) es else somes (suc start) es)
            ≡ cond b (e ∷ filter (λ r. is_some r.1) es) (filter (λ r. is_some r.1) es)
        by true = λ i. here i ∷ rest i
        by false = rest

    picked : (f : ℕ → K × A) (d : K × A) (start : ℕ) (es : List (K × A)) → ((j : ℕ) → f (start + j) ≡ get_or es j d)
        → map f (somes start es) ≡ filter (λ r. is_some r.1) es
    picked f d start [] are = refl
    picked f d start (e ∷ es) are =
        let here : start ≡ start + 0 = omega arith in
        picked_more (is_some e.1) f start e es refl (ap f here ∙ are 0)
        (picked f d (suc start) es
        (λ j. let next : suc start + j ≡ start + suc j = omega arith in ap f next ∙ are (suc j)))

    pub all_listed : (es : List (K × A)) (some : List ℕ) (items : List (K × A)) → IsPermutation (somes 0 es) some
        → length items ≡ length some → ((d : K × A) → items ≡ map (λ i. get_or es i d) some)
        → IsPermutation (filter (λ r. is_some r.1) es) items
    all_listed [] some items known long are =
        let none = length_permutation [] some known in
        subst (IsPermutation []) (sym (no_items items (omega (arith, long, none)))) (IsPermutation-refl [])
    all_listed (e ∷ es) some items known long are =
        let rows = e ∷ es in
        let at : ℕ → K × A = λ i. get_or rows i e in
        subst (IsPermutation (filter (λ r. is_some r.1) rows)) (sym (are e))
        (subst (λ xs. IsPermutation xs (map at some))
        (picked at e 0 rows (λ j. let same : 0 + j ≡ j = omega arith in ap at same))
        (IsPermutation-map at (somes 0 rows) some known))

    among : (start : ℕ) (es : List (K × A)) (i : ℕ) (v : A) → slice_get (values_of es) i ≡ Some v → is_some v ≡ true
        → list_any (λ k. k == start + i) (somes start es) ≡ true
    among start [] i v at some = absurd (none-some v at)
    among start (e ∷ es) zero v at some =
        let here : start ≡ start + 0 = omega arith in
        ap (λ b. list_any (λ k. k == start + 0) (if b then start ∷ somes (suc start) es else somes (suc start) es))
        (ap is_some (same_Some e.1 v at) ∙ some)
        ∙ ap (λ b. b || list_any (λ k. k == start + 0) (somes (suc start) es)) ((Decides-eqb start (start + 0)).1 here)
    among start (e ∷ es) (suc i) v at some =
        let next : suc start + i ≡ start + suc i = omega arith in
        among_more (is_some e.1) start (start + suc i) (somes (suc start) es)
        (subst (λ n. list_any (λ k. k == n) (somes (suc start) es) ≡ true) next (among (suc start) es i v at some))

    -- all that aren't nothing are left at first
    module _ (nothing : A) (is_whole : A → Type 0)
        (none_is_nothing : (a : A) → is_whole a → is_some a ≡ false → a ≡ nothing)
      where
        pub all_left : (es : List (K × A)) (some : List ℕ) → AllWhole is_whole es → IsPermutation (somes 0 es) some
            → AreLeft nothing es some
        all_left es some whole known i v at = by (is_some v) refl
          where
            by : (b : Bool) → is_some v ≡ b → (v ≡ nothing) ⊎ (list_any (λ k. k == i) some ≡ true)
            by false is = inl (none_is_nothing v (whole_at is_whole es i v whole at) is)
            by true is =
                let here : 0 + i ≡ i = omega arith in
                inr (sym (list_any-IsPermutation (λ k. k == i) (somes 0 es) some known)
                ∙ subst (λ n. list_any (λ k. k == n) (somes 0 es) ≡ true) here (among 0 es i v at is))

    -- where all are nothing there is none
    none_after : (nothing : A) → is_some nothing ≡ false → (start : ℕ) (es : List (K × A))
        → somes start (clear_amounts nothing es) ≡ []
    none_after nothing none start [] = refl
    none_after nothing none start (e ∷ es) =
        let rest = somes (suc start) (clear_amounts nothing es) in
        ap (λ b. if b then start ∷ rest else rest) none
        ∙ none_after nothing none (suc start) es

    pub knows_none : (nothing : A) → is_some nothing ≡ false → (es : List (K × A)) (cap : ℕ) → length es ≤ cap
        → Knows is_some (clear_amounts nothing es) [] cap
    knows_none nothing none es cap fits = record {
      each = subst (λ is. IsPermutation is []) (sym (none_after nothing none 0 es)) (IsPermutation-refl []);
      fits =
          let long = length-map {B = K × A} es (λ e. (e.0, nothing)) in omega (arith, long, fits);
    }

-- rows in front of others are whole where all are
pub whole_front : {K A : Type 0} (is_whole : A → Type 0) (es rest : List (K × A)) → AllWhole is_whole (es ++ rest)
    → AllWhole is_whole es
whole_front is_whole [] rest whole = tt
whole_front is_whole (e ∷ es) rest whole = (whole.0, whole_front is_whole es rest whole.1)
