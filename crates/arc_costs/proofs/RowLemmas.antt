-- Rows with keys: the sums that they stand for, and the same rows in another form.
use Rattle.std.proofs.Common.{◌≡◌, ◌+◌, ◌<◌, ◌≤◌, ◌==◌, ℕ, zero, suc, Bool, true, false, cond, not, ◌||◌, List, [], ◌∷◌}
use Rattle.std.proofs.Common.{◌++◌, length, map, filter, get_or, replicate, take, refl, sym, ap, ◌∙◌, arith, true≢false}
use Rattle.std.proofs.Common.{if◌then◌else◌}
use Rattle.std.specs.Cmp.{IsEquivalence}
use Rattle.std.specs.List.{AllByRecursion, list_any}
use Rattle.std.proofs.lemmas.List.Sums.{sum_by-append, sum_by-cons, sum_by_more_le}
use Rattle.std.proofs.lemmas.List.{take_more}
use Rattle.event_costs.specs.Costs.{sum_of_costs}
use Rattle.arc_costs.specs.Rows.{add_row, add_rows, has_row, sum_at}
use Rattle.arc_costs.specs.Totals.{is_some_cost}

-- the numbers of a sum of costs
pub number_of_sum : (xs ys : List ℕ) (event : ℕ) → length xs ≡ length ys
    → get_or (sum_of_costs xs ys) event 0 ≡ get_or xs event 0 + get_or ys event 0
number_of_sum [] [] event alike = refl
number_of_sum [] (y ∷ ys) event alike = absurd (omega (arith, alike))
number_of_sum (x ∷ xs) [] event alike = absurd (omega (arith, alike))
number_of_sum (x ∷ xs) (y ∷ ys) zero alike = refl
number_of_sum (x ∷ xs) (y ∷ ys) (suc event) alike = number_of_sum xs ys event (omega (arith, alike))

zero_more : (x : ℕ) (xs : List ℕ) (event : ℕ) (b : Bool) → (x == 0) ≡ b
    → (list_any (λ n. not (n == 0)) xs ≡ false → (e : ℕ) → get_or xs e 0 ≡ 0)
    → list_any (λ n. not (n == 0)) (x ∷ xs) ≡ false → get_or (x ∷ xs) event 0 ≡ 0
zero_more x xs zero true is rest none = grind (arith, is)
zero_more x xs (suc event) true is rest none =
    rest (sym (ap (λ c. not c || list_any (λ n. not (n == 0)) xs) is) ∙ none) event
zero_more x xs event false is rest none =
    absurd (true≢false (sym (ap (λ c. not c || list_any (λ n. not (n == 0)) xs) is) ∙ none))

-- a cost without a number that isn't 0 is 0 everywhere
pub zero_number : (xs : List ℕ) → is_some_cost xs ≡ false → (event : ℕ) → get_or xs event 0 ≡ 0
zero_number [] none event = refl
zero_number (x ∷ xs) none event = zero_more x xs event (x == 0) refl (zero_number xs) none

pub zero_replicate : (n event : ℕ) → ◌≡◌ {A = ℕ} (get_or (replicate n 0) event 0) 0
zero_replicate zero event = refl
zero_replicate (suc n) zero = refl
zero_replicate (suc n) (suc event) = zero_replicate n event

module _ {R K : Type 0} (key : R → K) (same : K → K → Bool) where
  -- what a row counts for a key
  abbrev pub share : (R → ℕ) → K → R → ℕ
  share number k r = if same k (key r) then number r else 0

  pub sum_at-cons : (number : R → ℕ) (k : K) (r : R) (rs : List R)
      → sum_at key same number k (r ∷ rs) ≡ share number k r + sum_at key same number k rs
  sum_at-cons number k r rs = sum_by-cons (share number k) r rs

  pub sum_at-append : (number : R → ℕ) (k : K) (rs qs : List R)
      → sum_at key same number k (rs ++ qs) ≡ sum_at key same number k rs + sum_at key same number k qs
  sum_at-append number k rs qs = sum_by-append (share number k) rs qs

  pub sum_at_one : (number : R → ℕ) (k : K) (r : R) → sum_at key same number k (r ∷ []) ≡ share number k r
  sum_at_one number k r = sum_at-cons number k r [] ∙ omega arith

  -- an addition adds its number at its key
  module _ (laws : IsEquivalence same) (plus : R → R → R) (number : R → ℕ) (new : R) where
    abbrev pub Adds : R → Type 0
    Adds r = (key (plus r new) ≡ key r) × (number (plus r new) ≡ number r + number new)

    joined : (b : Bool) (x y : ℕ) → (if b then x + y else 0) ≡ (if b then x else 0) + (if b then y else 0)
    joined true x y = refl
    joined false x y = refl

    sum_more : (b : Bool) (k : K) (r : R) (rs : List R) → same (key new) (key r) ≡ b → Adds r
        → sum_at key same number k (add_row key same plus rs new) ≡ sum_at key same number k rs + share number k new
        → sum_at key same number k (add_row key same plus (r ∷ rs) new)
        ≡ sum_at key same number k (r ∷ rs) + share number k new
    sum_more true k r rs is adds rest =
        let alike : same k (key r) ≡ same k (key new)
        = laws.symm k (key r) ∙ sym (laws.congr (key new) (key r) k is) ∙ laws.symm (key new) k in
        let here : share number k (plus r new) ≡ share number k r + share number k new
        = (λ i. if same k (adds.0 i) then adds.1 i else 0) ∙ joined (same k (key r)) (number r) (number new)
        ∙ ap (λ c. share number k r + (if c then number new else 0)) alike in
        let list : add_row key same plus (r ∷ rs) new ≡ plus r new ∷ rs
        = ap (λ c. if c then plus r new ∷ rs else r ∷ add_row key same plus rs new) is in
        let old = sum_at-cons number k r rs in
        let now = sum_at-cons number k (plus r new) rs in
        ap (sum_at key same number k) list ∙ omega (arith, here, old, now)
    sum_more false k r rs is adds rest =
        let list : add_row key same plus (r ∷ rs) new ≡ r ∷ add_row key same plus rs new
        = ap (λ c. if c then plus r new ∷ rs else r ∷ add_row key same plus rs new) is in
        let old = sum_at-cons number k r rs in
        let now = sum_at-cons number k r (add_row key same plus rs new) in
        ap (sum_at key same number k) list ∙ omega (arith, rest, old, now)

    pub sum_at-add_row : (k : K) (rs : List R) → AllByRecursion Adds rs
        → sum_at key same number k (add_row key same plus rs new) ≡ sum_at key same number k rs + share number k new
    sum_at-add_row k [] adds = sum_at_one number k new ∙ omega arith
    sum_at-add_row k (r ∷ rs) adds = sum_more (same (key new) (key r)) k r rs refl adds.0 (sum_at-add_row k rs adds.1)

  -- an addition adds its key
  module _ (laws : IsEquivalence same) (plus : R → R → R) (keeps : (r new : R) → key (plus r new) ≡ key r) where
    once_more : (b c : Bool) → b || c ≡ b || (b || c)
    once_more true c = refl
    once_more false c = refl

    later : (b c d : Bool) → b || (c || d) ≡ c || (b || d)
    later true true d = refl
    later true false d = refl
    later false c d = refl

    has_more : (b : Bool) (k : K) (r : R) (rs : List R) (new : R) → same (key new) (key r) ≡ b
        → has_row key same k (add_row key same plus rs new) ≡ same k (key new) || has_row key same k rs
        → has_row key same k (add_row key same plus (r ∷ rs) new) ≡ same k (key new) || has_row key same k (r ∷ rs)
    has_more true k r rs new is rest =
        let alike : same k (key r) ≡ same k (key new)
        = laws.symm k (key r) ∙ sym (laws.congr (key new) (key r) k is) ∙ laws.symm (key new) k in
        ap (has_row key same k) (ap (λ c. if c then plus r new ∷ rs else r ∷ add_row key same plus rs new) is)
        ∙ ap (λ q. same k q || has_row key same k rs) (keeps r new)
        ∙ once_more (same k (key r)) (has_row key same k rs)
        ∙ ap (λ c. c || (same k (key r) || has_row key same k rs)) alike
    has_more false k r rs new is rest =
        ap (has_row key same k) (ap (λ c. if c then plus r new ∷ rs else r ∷ add_row key same plus rs new) is)
        ∙ ap (λ c. same k (key r) || c) rest
        ∙ later (same k (key r)) (same k (key new)) (has_row key same k rs)

    pub has_row-add_row : (k : K) (rs : List R) (new : R)
        → has_row key same k (add_row key same plus rs new) ≡ same k (key new) || has_row key same k rs
    has_row-add_row k [] new = refl
    has_row-add_row k (r ∷ rs) new = has_more (same (key new) (key r)) k r rs new refl (has_row-add_row k rs new)

    apart_more : (b c d : Bool) → (b || c) || d ≡ c || (b || d)
    apart_more true true d = refl
    apart_more true false d = refl
    apart_more false c d = refl

    pub has_row-add_rows : (k : K) (rs news : List R)
        → has_row key same k (add_rows key same plus rs news) ≡ has_row key same k rs || has_row key same k news
    has_row-add_rows k rs [] = no_other (has_row key same k rs)
      where
        no_other : (b : Bool) → b ≡ b || false
        no_other true = refl
        no_other false = refl
    has_row-add_rows k rs (new ∷ news) =
        has_row-add_rows k (add_row key same plus rs new) news
        ∙ ap (λ b. b || has_row key same k news) (has_row-add_row k rs new)
        ∙ apart_more (same k (key new)) (has_row key same k rs) (has_row key same k news)

  -- rows with the same keys
  pub has_row-keys : (form : R → R) → ((r : R) → key (form r) ≡ key r) → (k : K) (rs : List R)
      → has_row key same k (map form rs) ≡ has_row key same k rs
  has_row-keys form keeps k [] = refl
  has_row-keys form keeps k (r ∷ rs) = (λ i. same k (keeps r i) || has_row-keys form keeps k rs i)

  -- the rows that are left out count nothing
  module _ (p : R → Bool) (number : R → ℕ) (nothing : (r : R) → p r ≡ false → number r ≡ 0) (k : K) where
    no_share : (b : Bool) (n : ℕ) → n ≡ 0 → (if b then n else 0) ≡ 0
    no_share true n is = is
    no_share false n is = refl

    filter_more : (b : Bool) (r : R) (rs : List R) → p r ≡ b
        → sum_at key same number k (filter p rs) ≡ sum_at key same number k rs
        → sum_at key same number k (filter p (r ∷ rs)) ≡ sum_at key same number k (r ∷ rs)
    filter_more true r rs is rest =
        let list : filter p (r ∷ rs) ≡ r ∷ filter p rs = ap (λ c. cond c (r ∷ filter p rs) (filter p rs)) is in
        let old = sum_at-cons number k r rs in
        let now = sum_at-cons number k r (filter p rs) in
        ap (sum_at key same number k) list ∙ omega (arith, rest, old, now)
    filter_more false r rs is rest =
        let list : filter p (r ∷ rs) ≡ filter p rs = ap (λ c. cond c (r ∷ filter p rs) (filter p rs)) is in
        let old = sum_at-cons number k r rs in
        let none = no_share (same k (key r)) (number r) (nothing r is) in
        ap (sum_at key same number k) list ∙ omega (arith, rest, old, none)

    pub sum_at-filter : (rs : List R) → sum_at key same number k (filter p rs) ≡ sum_at key same number k rs
    sum_at-filter [] = refl
    sum_at-filter (r ∷ rs) = filter_more (p r) r rs refl (sum_at-filter rs)

  -- rows of which each counts nothing
  pub sum_at_none : (number : R → ℕ) (k : K) (rs : List R) → AllByRecursion (λ r. number r ≡ 0) rs
      → sum_at key same number k rs ≡ 0
  sum_at_none number k [] none = refl
  sum_at_none number k (r ∷ rs) none =
      let old = sum_at-cons number k r rs in
      let here = blank (same k (key r)) (number r) none.0 in
      let rest = sum_at_none number k rs none.1 in
      omega (arith, old, here, rest)
    where
      blank : (b : Bool) (n : ℕ) → n ≡ 0 → (if b then n else 0) ≡ 0
      blank true n is = is
      blank false n is = refl

-- one row more of those that are taken in turn
pub next_taken : {R : Type 0} (rows : List R) (i : ℕ) (row : R) → i < length rows → row ≡ get_or rows i row
    → take (i + 1) rows ≡ take i rows ++ row ∷ []
next_taken rows i row lt is = take_more rows i row lt ∙ ap (λ r. take i rows ++ r ∷ []) (sym is)

-- the next row's number fits beside those before it
pub next_fits : {R K : Type 0} (key : R → K) (same : K → K → Bool) → IsEquivalence same
    → (number : R → ℕ) (rows : List R) (i : ℕ) (row : R) → i < length rows
    → row ≡ get_or rows i row
    → sum_at key same number (key row) (take i rows) + number row ≤ sum_at key same number (key row) rows
next_fits key same laws number rows i row lt is =
    let all = sum_by_more_le (share key same number (key row)) rows i row lt in
    let there : share key same number (key row) (get_or rows i row) ≡ share key same number (key row) row
    = ap (share key same number (key row)) (sym is) in
    let own : share key same number (key row) row ≡ number row
    = ap (λ b. if b then number row else 0) (laws.refl (key row)) in
    omega (arith, all, there, own)

-- the same rows in another form, with the same keys
module _ {E R K : Type 0} (form : E → R) (key : E → K) (key' : R → K) (same : K → K → Bool)
    (keeps : (e : E) → key' (form e) ≡ key e) where
  pub has_row-map : (k : K) (es : List E) → has_row key' same k (map form es) ≡ has_row key same k es
  has_row-map k [] = refl
  has_row-map k (e ∷ es) = (λ i. same k (keeps e i) || has_row-map k es i)

  pub sum_at-map : (number : E → ℕ) (number' : R → ℕ) → ((e : E) → number' (form e) ≡ number e) → (k : K) (es : List E)
      → sum_at key' same number' k (map form es) ≡ sum_at key same number k es
  sum_at-map number number' counts k [] = refl
  sum_at-map number number' counts k (e ∷ es) =
      let mapped = sum_at-cons key' same number' k (form e) (map form es) in
      let plain = sum_at-cons key same number k e es in
      let here : share key' same number' k (form e) ≡ share key same number k e
      = (λ i. if same k (keeps e i) then counts e i else 0) in
      let rest = sum_at-map number number' counts k es in
      omega (arith, mapped, plain, here, rest)

  module _ (plus : E → E → E) (plus' : R → R → R)
      (sums : (e new : E) → plus' (form e) (form new) ≡ form (plus e new)) where
    add_more : (b : Bool) (e : E) (es : List E) (new : E) → same (key new) (key e) ≡ b
        → map form (add_row key same plus es new) ≡ add_row key' same plus' (map form es) (form new)
        → map form (add_row key same plus (e ∷ es) new) ≡ add_row key' same plus' (map form (e ∷ es)) (form new)
    add_more true e es new is rest =
        let is' : same (key' (form new)) (key' (form e)) ≡ true = (λ i. same (keeps new i) (keeps e i)) ∙ is in
        ap (map form) (ap (λ c. if c then plus e new ∷ es else e ∷ add_row key same plus es new) is)
        ∙ sym (ap
        (λ c. if c then plus' (form e) (form new) ∷ map form es
        else form e ∷ add_row key' same plus' (map form es) (form new)) is'
        ∙ ap (λ r. r ∷ map form es) (sums e new))
    add_more false e es new is rest =
        let is' : same (key' (form new)) (key' (form e)) ≡ false = (λ i. same (keeps new i) (keeps e i)) ∙ is in
        ap (map form) (ap (λ c. if c then plus e new ∷ es else e ∷ add_row key same plus es new) is)
        ∙ ap (λ rs. form e ∷ rs) rest
        ∙ sym (ap
        (λ c. if c then plus' (form e) (form new) ∷ map form es
        else form e ∷ add_row key' same plus' (map form es) (form new)) is')

    pub map-add_row : (es : List E) (new : E)
        → map form (add_row key same plus es new) ≡ add_row key' same plus' (map form es) (form new)
    map-add_row [] new = refl
    map-add_row (e ∷ es) new = add_more (same (key new) (key e)) e es new refl (map-add_row es new)

-- those that pass a test, in another form
pub filter-map : {E R : Type 0} (form : E → R) (p : R → Bool) (q : E → Bool) → ((e : E) → p (form e) ≡ q e)
    → (es : List E)
    → filter p (map form es) ≡ map form (filter q es)
filter-map {E} {R} form p q alike [] = refl
filter-map {E} {R} form p q alike (e ∷ es) = more (q e) refl (filter-map form p q alike es)
  where
    more : (b : Bool) → q e ≡ b → filter p (map form es) ≡ map form (filter q es)
        → filter p (map form (e ∷ es)) ≡ map form (filter q (e ∷ es))
    more true is rest =
        ap (λ c. cond c (form e ∷ filter p (map form es)) (filter p (map form es))) (alike e ∙ is)
        ∙ ap (λ rs. form e ∷ rs) rest
        ∙ sym (ap (λ c. map form (cond c (e ∷ filter q es) (filter q es))) is)
    more false is rest =
        ap (λ c. cond c (form e ∷ filter p (map form es)) (filter p (map form es))) (alike e ∙ is) ∙ rest
        ∙ sym (ap (λ c. map form (cond c (e ∷ filter q es) (filter q es))) is)
