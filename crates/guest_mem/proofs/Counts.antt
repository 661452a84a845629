-- How many pages are mapped, and which ranges of pages are.
use Rattle.std.proofs.Common.{◌≡◌, ℕ, zero, suc, ◌+◌, ◌*◌, ◌/◌, ◌<◌, ◌≤◌, ◌^◌, Bool, true, false, not, cond, List, []}
use Rattle.std.proofs.Common.{◌∷◌, length, refl, sym, ◌∙◌, ap, arith, inl, inr}
use Rattle.std.specs.Prelude.{Option, Some, None, ◌==◌, is_some, is_none, slice_set, slice_index_or}
use Rattle.std.specs.Int.{from_bool}
use Rattle.std.specs.Option.{ForSome}
use Rattle.std.proofs.lemmas.Bool.{cases_eq, cond-true, cond-false, eq-eqb, ne_eqb}
use Rattle.std.proofs.lemmas.Grind.{get_or-set_at}
use Rattle.std.proofs.lemmas.List.{get_or-set_other}
use Rattle.std.proofs.lemmas.Bool.Decides.{nat_tests}
use Rattle.guest_mem.specs.Memory.{in_range, count_below, page_count, page_mapped}
use Rattle.guest_mem.specs.inner.Page.{PageValue, IsWhole, AreWhole, cells, memory_of_pages}
use Rattle.guest_mem.specs.inner.Table.{at_place, full_places, Alters, AltersRange}
use Rattle.guest_mem.specs.inner.Directory.{missing_from}
use Rattle.guest_mem.proofs.Memories.{get-memory_of}
use Rattle.guest_mem.proofs.Views.{cells_at, cells_none}

-- ---- how many numbers pass a test

pub count-same : (f g : ℕ → Bool) (n : ℕ) → ((p : ℕ) → p < n → f p ≡ g p) → count_below f n ≡ count_below g n
unfolding count_below
count-same f g zero same = refl
count-same f g (suc n) same =
    let before = count-same f g n (λ p h. same p (omega arith)) in
    let last = same n (omega arith) in
    λ i. before i + cond (last i) 1 0

abbrev one : Bool → ℕ
one b = cond b 1 0

-- the test's answer at i changed
pub count-altered : (f g : ℕ → Bool) (i n : ℕ) (b : Bool) → ((p : ℕ) → g p ≡ cond (p == i) b (f p)) → i < n
    → count_below g n + one (f i) ≡ count_below f n + one b
unfolding count_below
count-altered f g i zero b change h = absurd (omega arith)
count-altered f g i (suc n) b change h =
    elim (cases_eq n i) [
      | inl last ↦
          (let before = count-same g f n (λ p l. change p ∙ cond-false _ _ _ (ne_eqb p i (λ e. omega arith))) in
          let here : one (g n) ≡ one b = ap one (change n ∙ cond-true _ _ _ (eq-eqb n i last)) in
          let there : one (f i) ≡ one (f n) = ap (λ p. one (f p)) (sym last) in
          omega (arith, before, here, there))
      | inr other ↦ (let before : count_below g n + one (f i) ≡ count_below f n + one b
          = count-altered f g i n b change (omega arith) in
          let here : one (g n) ≡ one (f n) = ap one (change n ∙ cond-false _ _ _ (ne_eqb n i other)) in
          omega (arith, before, here))
    ]

-- a count passes no numbers, or all of them
pub count-none : (f : ℕ → Bool) (n : ℕ) → ((p : ℕ) → f p ≡ false) → count_below f n ≡ 0
unfolding count_below
count-none f zero none = refl
count-none f (suc n) none =
    let before = count-none f n none in
    let here : one (f n) ≡ 0 = ap one (none n) in
    omega (arith, before, here)

one_at_most : (b : Bool) → one b ≤ 1
one_at_most true = omega arith
one_at_most false = omega arith

pub count-most : (f : ℕ → Bool) (n : ℕ) → count_below f n ≤ n
unfolding count_below
count-most f zero = omega arith
count-most f (suc n) = omega (arith, count-most f n, one_at_most (f n))

is_false : (b : Bool) → one b ≡ 0 → b ≡ false
is_false true e = absurd (omega arith)
is_false false e = refl

is_true : (b : Bool) → one b ≡ 1 → b ≡ true
is_true true e = refl
is_true false e = absurd (omega arith)

-- what a count tells of each number
pub none-counted : (f : ℕ → Bool) (n q : ℕ) → count_below f n ≡ 0 → q < n → f q ≡ false
unfolding count_below
none-counted f zero q e h = absurd (omega arith)
none-counted f (suc n) q e h =
    elim (cases_eq q n) [
      | inl here ↦ ap f here ∙ is_false (f n) (omega arith)
      | inr other ↦ none-counted f n q (omega arith) (omega arith)
    ]

pub all-counted : (f : ℕ → Bool) (n q : ℕ) → count_below f n ≡ n → q < n → f q ≡ true
unfolding count_below
all-counted f zero q e h = absurd (omega arith)
all-counted f (suc n) q e h =
    elim (cases_eq q n) [
      | inl here ↦ ap f here ∙ is_true (f n) (omega (arith, count-most f n, one_at_most (f n)))
      | inr other ↦ all-counted f n q (omega (arith, count-most f n, one_at_most (f n))) (omega arith)
    ]

-- ---- how many places of a table are full

pub at-set : {X : Type 0} (xs : List (Option X)) (i : ℕ) (x : Option X) (q : ℕ) → i < length xs
    → is_some (at_place (slice_set xs i x) q) ≡ cond (q == i) (is_some x) (is_some (at_place xs q))
at-set xs i x q h =
    elim (cases_eq q i) [
      | inl here ↦ ap is_some (get_or-set_at xs i q x None here h) ∙ sym (cond-true _ _ _ (eq-eqb q i here))
      | inr other ↦ ap is_some (get_or-set_other xs i q x None other) ∙ sym (cond-false _ _ _ (ne_eqb q i other))
    ]

pub full-most : {X : Type 0} (xs : List (Option X)) → full_places xs ≤ 1024
unfolding full_places
full-most xs = count-most (λ q. is_some (at_place xs q)) 1024

pub full-none : {X : Type 0} (xs : List (Option X)) → ((q : ℕ) → at_place xs q ≡ None) → full_places xs ≡ 0
unfolding full_places
full-none xs none = count-none (λ q. is_some (at_place xs q)) 1024 (λ q. ap is_some (none q))

-- what is read at a place that is there
pub read-at : {X : Type 0} (xs : List (Option X)) (i : ℕ) (y : Option X) → i < length xs → y ≡ slice_index_or xs i y
    → y ≡ at_place xs i
read-at [] i y h is = absurd (omega arith)
read-at (x ∷ xs) zero y h is = is
read-at (x ∷ xs) (suc i) y h is = read-at xs i y (omega arith) is

-- a place changed, at which this was read
full-changed : {X : Type 0} (xs : List (Option X)) (i n : ℕ) (x y : Option X) → i < 1024 → i < length xs
    → y ≡ slice_index_or xs i y → full_places xs ≡ n
    → full_places (slice_set xs i x) + one (is_some y) ≡ n + one (is_some x)
unfolding full_places
full-changed xs i n x y low high is e =
    let change : count_below (λ q. is_some (at_place (slice_set xs i x) q)) 1024 + one (is_some (at_place xs i))
    ≡ count_below (λ q. is_some (at_place xs q)) 1024 + one (is_some x) =
    count-altered (λ q. is_some (at_place xs q)) (λ q. is_some (at_place (slice_set xs i x) q)) i 1024 (is_some x)
    (λ q. at-set xs i x q high) low in
    let here : one (is_some y) ≡ one (is_some (at_place xs i)) = ap (λ o. one (is_some o)) (read-at xs i y high is) in
    omega (arith, change, here, e)

-- the same where as much stands there as before
pub full-kept : {X : Type 0} (xs : List (Option X)) (i n : ℕ) (x y : Option X) → i < length xs
    → y ≡ slice_index_or xs i y → is_some x ≡ is_some y → full_places xs ≡ n → full_places (slice_set xs i x) ≡ n
unfolding full_places
full-kept xs i n x y high is same e =
    count-same (λ q. is_some (at_place (slice_set xs i x) q)) (λ q. is_some (at_place xs q)) 1024
    (λ q h. at-set xs i x q high ∙ elim (cases_eq q i) [
      | inl here ↦ cond-true _ _ _ (eq-eqb q i here) ∙ same ∙ ap is_some (read-at xs i y high is)
          ∙ ap (λ k. is_some (at_place xs k)) (sym here)
      | inr other ↦ cond-false _ _ _ (ne_eqb q i other)
    ]) ∙ e

from_bool-one : (b : Bool) → from_bool b ≡ one b
from_bool-one true = refl
from_bool-one false = refl

not-one : (b : Bool) → one b + one (not b) ≡ 1
not-one true = refl
not-one false = refl

-- a page was put where there was none, or another; k says whether there was none
pub full-put : {X : Type 0} (xs : List (Option X)) (i n k : ℕ) (x : X) (y : Option X) (none : Bool) → i < 1024
    → i < length xs → y ≡ slice_index_or xs i y → is_some y ≡ not none → k ≡ from_bool none → full_places xs ≡ n
    → full_places (slice_set xs i (Some x)) ≡ n + k
full-put xs i n k x y none low high is was more e =
    let change = full-changed xs i n (Some x) y low high is e in
    let here : one (is_some y) ≡ one (not none) = ap one was in
    omega (arith, change, here, not-one none, from_bool-one none, more)

-- what was there, if anything, was taken; k says whether there was a page
pub full-taken : {X : Type 0} (xs : List (Option X)) (i n k : ℕ) (x y : Option X) → i < 1024 → i < length xs
    → y ≡ slice_index_or xs i y → x ≡ None → k ≡ from_bool (is_some y) → full_places xs ≡ n
    → full_places (slice_set xs i x) + k ≡ n
full-taken xs i n k x y low high is gone less e =
    let change = full-changed xs i n x y low high is e in
    let here : one (is_some x) ≡ 0 = ap (λ o. one (is_some o)) gone in
    omega (arith, change, here, from_bool-one (is_some y), less)

pub from_bool-most : (b : Bool) → from_bool b ≤ 1
from_bool-most b = omega (arith, from_bool-one b, one_at_most b)

pub full-empty : {X : Type 0} (xs : List (Option X)) (q : ℕ) → full_places xs ≡ 0 → q < 1024
    → is_some (at_place xs q) ≡ false
unfolding full_places
full-empty xs q e h = none-counted (λ k. is_some (at_place xs k)) 1024 q e h

pub full-all : {X : Type 0} (xs : List (Option X)) (q : ℕ) → full_places xs ≡ 1024 → q < 1024
    → is_some (at_place xs q) ≡ true
unfolding full_places
full-all xs q e h = all-counted (λ k. is_some (at_place xs k)) 1024 q e h

-- ---- how many pages are there

pub count_taken : (old new : ℕ → Option PageValue) (i n : ℕ) → Alters old new i None → i < n
    → count_below (λ p. is_some (new p)) n + one (is_some (old i)) ≡ count_below (λ p. is_some (old p)) n
count_taken old new i n change h =
    let e : count_below (λ p. is_some (new p)) n + one (is_some (old i)) ≡ count_below (λ p. is_some (old p)) n + 0 =
    count-altered (λ p. is_some (old p)) (λ p. is_some (new p)) i n false
    (λ p. ap is_some (change p) ∙ pushed (p == i) (old p)) h in
    omega (arith, e)
  where
    pushed : (b : Bool) (o : Option PageValue) → is_some (cond b None o) ≡ cond b false (is_some o)
    pushed true o = refl
    pushed false o = refl

-- one page was there or none
pub total_taken : (old new : ℕ → Option PageValue) (i : ℕ) (b : Bool) → Alters old new i None → i < 2 ^ 20
    → is_some (old i) ≡ b → cond b 1 0 + count_below (λ p. is_some (new p)) (2 ^ 20)
    ≡ count_below (λ p. is_some (old p)) (2 ^ 20)
total_taken old new i b change h is =
    let e = count_taken old new i (2 ^ 20) change h in
    let here : one (is_some (old i)) ≡ one b = ap one is in
    omega (arith, e, here)

some_or_none : (o : Option PageValue) → one (is_some o) + one (is_none o) ≡ 1
some_or_none None = refl
some_or_none (Some page) = refl

one_more : (first n p : ℕ) (page : PageValue) (o : Option PageValue)
    → is_some (cond (in_range first (suc n) p) (Some page) o)
    ≡ cond (p == first + n) true (is_some (cond (in_range first n p) (Some page) o))
one_more first n p page o = grind (arith, nat_tests)

count-filled : (pages : ℕ → Option PageValue) (first n limit : ℕ) (page : PageValue) → first + n ≤ limit
    → count_below (λ p. is_some (cond (in_range first n p) (Some page) (pages p))) limit
    ≡ count_below (λ p. is_some (pages p)) limit + missing_from pages first n
count-filled pages first zero limit page h =
    count-same _ _ limit (λ p l. let outside : in_range first 0 p ≡ false = grind (arith, nat_tests) in
    ap is_some (cond-false _ _ _ outside)) ∙ (omega arith)
count-filled pages first (suc n) limit page h =
    let e : count_below (λ p. is_some (cond (in_range first (suc n) p) (Some page) (pages p))) limit
    + one (is_some (cond (in_range first n (first + n)) (Some page) (pages (first + n))))
    ≡ count_below (λ p. is_some (cond (in_range first n p) (Some page) (pages p))) limit + 1 =
    count-altered (λ p. is_some (cond (in_range first n p) (Some page) (pages p)))
    (λ p. is_some (cond (in_range first (suc n) p) (Some page) (pages p))) (first + n) limit true
    (λ p. one_more first n p page (pages p)) (omega arith) in
    let outside : in_range first n (first + n) ≡ false = grind (arith, nat_tests) in
    let here : one (is_some (cond (in_range first n (first + n)) (Some page) (pages (first + n))))
    ≡ one (is_some (pages (first + n))) = ap (λ o. one (is_some o)) (cond-false _ _ _ outside) in
    let before = count-filled pages first n limit page (omega arith) in
    omega (arith, e, here, before, some_or_none (pages (first + n)))

pub count_filled : (old new : ℕ → Option PageValue) (first n limit : ℕ) (page : PageValue)
    → AltersRange old new first n (λ _. Some page) → first + n ≤ limit
    → count_below (λ p. is_some (new p)) limit ≡ count_below (λ p. is_some (old p)) limit + missing_from old first n
count_filled old new first n limit page change h = count-same _ _ limit (λ p l. ap is_some (change p))
    ∙ count-filled old first n limit page h

-- ---- the count of the memory's pages

page_mapped-page : (pages : ℕ → Option PageValue) (p : ℕ) (o : Option PageValue) → pages (p * 4096 / 4096) ≡ o
    → ForSome o IsWhole → is_some (cells pages (p * 4096)) ≡ is_some o
page_mapped-page pages p None is whole = ap is_some (cells_none pages (p * 4096) is)
page_mapped-page pages p (Some page) is whole = ap is_some (cells_at pages (p * 4096) page is (whole page refl))

pub page_mapped-is : (pages : ℕ → Option PageValue) (p : ℕ) → AreWhole pages → p < 2 ^ 20
    → page_mapped (memory_of_pages pages) (p * 4096) ≡ is_some (pages p)
unfolding memory_of_pages
page_mapped-is pages p whole h =
    let number : p * 4096 / 4096 ≡ p = omega arith in
    ap is_some (get-memory_of (cells pages) (p * 4096) (omega arith))
    ∙ page_mapped-page pages p (pages p) (ap pages number) (whole p)

pub page_count-is : (pages : ℕ → Option PageValue) → AreWhole pages
    → page_count (memory_of_pages pages) ≡ count_below (λ p. is_some (pages p)) (2 ^ 20)
unfolding page_count
page_count-is pages whole = count-same _ _ (2 ^ 20) (λ p h. page_mapped-is pages p whole h)
