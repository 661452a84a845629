-- Segments apart: no address lies in two of them.
use Rattle.std.proofs.Common.{◌≡◌, ℕ, zero, suc, ◌+◌, ◌-◌, ◌≤◌, ◌<◌, Bool, true, false, not, cond, ltb, min, max, List}
use Rattle.std.proofs.Common.{[], ◌∷◌, length, take, get_or, Option, Some, None, refl, sym, ap, subst, ◌∙◌, add-one}
use Rattle.std.proofs.Common.{arith, ◌⊎◌, inl, inr, length-take, get_or-take}
use Rattle.std.specs.Option.{option_map, option_and_then}
use Rattle.std.specs.List.{All, count_by, position, position_or_len}
use Rattle.std.specs.List.Sorted.{IsNonDecreasingBy, IsPermutation}
use Rattle.std.proofs.lemmas.List.Sorted.{sum_by-IsPermutation}
use Rattle.std.proofs.lemmas.Bool.{cases_lt, ltb-false, ltb-true, lt-ltb}
use Rattle.std.proofs.lemmas.Bool.Decides.{nat_tests}
use Rattle.std.proofs.lemmas.List.{take-take}
use Rattle.std.proofs.lemmas.List.Quantifiers.{position-Some}
use Rattle.std.proofs.lemmas.Option.{slice_get-get_or}
use Rattle.std.proofs.lemmas.List.Sums.{count_by_more_yes, count_by_more_no, sum_by-cons, sum_by-take-le}
use Rattle.std.proofs.lemmas.List.Sums.{get_or-le-sum_by}
use Rattle.elf_read.specs.declared.program.Segment.{Segment}
use Rattle.elf_read.specs.Programs.{covers}
use Rattle.elf_read.specs.declared.error.ElfError.TheVariants.{Overlap}
use Rattle.elf_read.specs.Checks.{table, first_fault}
use Rattle.elf_read.specs.Overlaps.{overlaps, overlap_of, overlap_at, apart_fault, IsApart}
use Rattle.elf_read.proofs.CheckLemmas.{table_goes_on, table_ends}

-- what `covers` tells
covers_tells : (a : ℕ) (s : Segment) → ((covers a s ≡ true) × (s.addr ≤ a) × (a < s.addr + s.mem_len))
    ⊎ ((covers a s ≡ false) × ((a < s.addr) ⊎ (s.addr + s.mem_len ≤ a)))
covers_tells a s = grind (arith, nat_tests)

covers_yes : (a : ℕ) (s : Segment) → s.addr ≤ a → a < s.addr + s.mem_len → covers a s ≡ true
covers_yes a s low high = grind (arith, nat_tests)

-- a front of segments that are apart is apart
pub IsApart-take : (xs : List Segment) (n : ℕ) → IsApart xs → IsApart (take n xs)
IsApart-take xs n apart a =
    let less = sum_by-take-le (λ s. cond (covers a s) 1 0) xs n in
    let all = apart a in
    omega arith

-- what reading past the end of a list gives
abbrev pub no_segment : Segment
no_segment = record { offset = 0; addr = 0; file_len = 0; mem_len = 0; flags = 0 }

-- how far a loop over sorted segments has come: the first k of them are apart and end at `reach`, and where the last of
-- them begins some segment covers each address up to there
pub record Spread (xs : List Segment) (k reach : ℕ) (d : Segment) : Type 0 where
  pub apart : IsApart (take k xs)
  pub beyond : (a : ℕ) → reach ≤ a → count_by (covers a) (take k xs) ≡ 0
  pub last : (a : ℕ) → 0 < k → (get_or xs (k - 1) d).addr ≤ a → a < reach → 1 ≤ count_by (covers a) (take k xs)
  pub start : k ≡ 0 → reach ≡ 0

pub Spread-none : (xs : List Segment) (d : Segment) → Spread xs 0 0 d
Spread-none xs d = record {
  apart = λ a. omega arith;
  beyond = λ a h. refl;
  last = λ a h low high. omega arith;
  start = λ h. refl;
}

module _ (xs : List Segment) (k reach : ℕ) (d : Segment) (lt : k < length xs) (before : Spread xs k reach d) where
  one : (a : ℕ) → reach ≤ (get_or xs k d).addr
      → ((covers a (get_or xs k d) ≡ true) × ((get_or xs k d).addr ≤ a)
      × (a < (get_or xs k d).addr + (get_or xs k d).mem_len))
      ⊎ ((covers a (get_or xs k d) ≡ false)
      × ((a < (get_or xs k d).addr) ⊎ ((get_or xs k d).addr + (get_or xs k d).mem_len ≤ a)))
      → count_by (covers a) (take (k + 1) xs) ≤ 1
  one a behind (inl h) = let z = before.beyond a (omega arith) in
      omega (arith, count_by_more_yes (covers a) xs k d lt h.0)
  one a behind (inr h) = let z = before.apart a in omega (arith, count_by_more_no (covers a) xs k d lt h.0)

  none : (a : ℕ) → reach ≤ (get_or xs k d).addr → (get_or xs k d).addr + (get_or xs k d).mem_len ≤ a
      → ((covers a (get_or xs k d) ≡ true) × ((get_or xs k d).addr ≤ a)
      × (a < (get_or xs k d).addr + (get_or xs k d).mem_len))
      ⊎ ((covers a (get_or xs k d) ≡ false)
      × ((a < (get_or xs k d).addr) ⊎ ((get_or xs k d).addr + (get_or xs k d).mem_len ≤ a)))
      → count_by (covers a) (take (k + 1) xs) ≡ 0
  none a behind past (inl h) = absurd (omega arith)
  none a behind past (inr h) = let z = before.beyond a (omega arith) in
      omega (arith, count_by_more_no (covers a) xs k d lt h.0)

  some : (a : ℕ) → (get_or xs k d).addr ≤ a → a < (get_or xs k d).addr + (get_or xs k d).mem_len
      → 1 ≤ count_by (covers a) (take (k + 1) xs)
  some a low high = omega (arith, count_by_more_yes (covers a) xs k d lt (covers_yes a (get_or xs k d) low high))

  at_last : (a : ℕ) → (get_or xs (k + 1 - 1) d).addr ≤ a → (get_or xs k d).addr ≤ a
  at_last a h = let e : k + 1 - 1 ≡ k = omega arith in rw e at h

  -- one more segment, which begins where the others have ended
  pub Spread-more : reach ≤ (get_or xs k d).addr → Spread xs (k + 1) ((get_or xs k d).addr + (get_or xs k d).mem_len) d
  Spread-more behind = record {
    apart = λ a. one a behind (covers_tells a (get_or xs k d));
    beyond = λ a h. none a behind h (covers_tells a (get_or xs k d));
    last = λ a h low high. some a (at_last a low) high;
    start = λ h. absurd (omega arith);
  }

  -- a segment that begins before the one in front of it ends shares its first address with it
  pub Spread-shared : (get_or xs k d).addr < reach → IsNonDecreasingBy (λ s. s.addr) xs → All (λ s. 0 < s.mem_len) xs
      → IsApart xs → ⊥
  Spread-shared before_end sorted loaded apart =
      let a = (get_or xs k d).addr in
      let later : 0 < k = positive (cases_lt 0 k) in
      let ordered : (get_or xs (k - 1) d).addr ≤ a = sorted (k - 1) k d (omega arith) lt in
      let had : 1 ≤ count_by (covers a) (take k xs) = before.last a later ordered before_end in
      let here : 0 < (get_or xs k d).mem_len = loaded k d lt in
      let more = count_by_more_yes (covers a) xs k d lt (covers_yes a (get_or xs k d) (omega arith) (omega arith)) in
      let total = IsApart-take xs (k + 1) apart a in
      omega arith
    where
      positive : (0 < k) ⊎ (k ≤ 0) → 0 < k
      positive (inl h) = h
      positive (inr h) = let z = before.start (omega arith) in absurd (omega arith)

-- a segment that overlaps one of the first j shares an address with it
module _ (xs : List Segment) (j : ℕ) (d : Segment) (lt : j < length xs) where
  pub overlap-shared : (i : ℕ) → i < j → overlaps (get_or xs j d) (get_or xs i d) ≡ true → IsApart (take (j + 1) xs) → ⊥
  overlap-shared i below both apart =
      let s = get_or xs j d in
      let t = get_or xs i d in
      let a = max s.addr t.addr in
      let inside : a < min (s.addr + s.mem_len) (t.addr + t.mem_len) = ltb-true _ _ both in
      let in_s : covers a s ≡ true = covers_yes a s (omega arith) (omega arith) in
      let in_t : covers a t ≡ true = covers_yes a t (omega arith) (omega arith) in
      let at_i : cond {A = ℕ} (covers a (get_or (take j xs) i d)) 1 0 ≡ 1 =
      ap (λ (x : Segment). cond {A = ℕ} (covers a x) 1 0) (get_or-take j xs i d below)
      ∙ ap (λ (b : Bool). cond {A = ℕ} b 1 0) in_t in
      let short = length-take j xs in
      let had = get_or-le-sum_by (λ x. cond {A = ℕ} (covers a x) 1 0) (take j xs) i d (omega arith) in
      let more = count_by_more_yes (covers a) xs j d lt in_s in
      let total = apart a in
      omega arith

-- no element passes q where none passes p, which q implies
count_none : {X : Type 0} (p q : X → Bool) (xs : List X) → length xs ≤ position_or_len p xs
    → ((x : X) → q x ≡ true → p x ≡ true) → count_by q xs ≡ 0
count_none p q [] h implies = refl
count_none {X = X} p q (x ∷ xs) h implies = sum_by-cons (λ y. cond (q y) 1 0) x xs
    ∙ go (p x) (q x) (implies x) h (count_none p q xs)
  where
    go : (b c : Bool) → (c ≡ true → b ≡ true) → suc (length xs) ≤ cond (not b) (1 + position_or_len p xs) 0
        → (length xs ≤ position_or_len p xs → ((y : X) → q y ≡ true → p y ≡ true) → count_by q xs ≡ 0)
        → cond c 1 0 + count_by q xs ≡ 0
    go true c implied h rest = absurd (omega arith)
    go false true implied h rest = absurd (let bad = implied refl in cc)
    go false false implied h rest = let z = rest (omega arith) implies in omega arith

position-none : {X : Type 0} (p : X → Bool) (xs : List X) → position p xs ≡ None → length xs ≤ position_or_len p xs
position-none p xs h = go (ltb (position_or_len p xs) (length xs)) refl h
  where
    go : (b : Bool) → ltb (position_or_len p xs) (length xs) ≡ b
        → ◌≡◌ {A = Option ℕ} (cond b (Some (position_or_len p xs)) None) None → length xs ≤ position_or_len p xs
    go true e h = absurd cc
    go false e h = ltb-false _ _ e

-- what lies in a segment and in another lies in both
covers-overlaps : (a : ℕ) (s t : Segment) → covers a s ≡ true → covers a t ≡ true → overlaps s t ≡ true
covers-overlaps a s t in_s in_t = go (covers_tells a s) (covers_tells a t)
  where
    go : ((covers a s ≡ true) × (s.addr ≤ a) × (a < s.addr + s.mem_len))
        ⊎ ((covers a s ≡ false) × ((a < s.addr) ⊎ (s.addr + s.mem_len ≤ a)))
        → ((covers a t ≡ true) × (t.addr ≤ a) × (a < t.addr + t.mem_len))
        ⊎ ((covers a t ≡ false) × ((a < t.addr) ⊎ (t.addr + t.mem_len ≤ a)))
        → overlaps s t ≡ true
    go (inl h) (inl g) = lt-ltb _ _ (omega arith)
    go (inl h) (inr g) = absurd (let z = sym in_t ∙ g.0 in cc)
    go (inr h) g = absurd (let z = sym in_s ∙ h.0 in cc)

-- a segment that overlaps none of the first j is apart from them
pub apart_goes_on : (xs : List Segment) (j : ℕ) (d : Segment) → j < length xs → IsApart (take j xs)
    → position (overlaps (get_or xs j d)) (take j xs) ≡ None → IsApart (take (j + 1) xs)
apart_goes_on xs j d lt apart none a = go (covers a (get_or xs j d)) refl
  where
    go : (b : Bool) → covers a (get_or xs j d) ≡ b → count_by (covers a) (take (j + 1) xs) ≤ 1
    go true e =
        let fails =
        count_none (overlaps (get_or xs j d)) (covers a) (take j xs)
        (position-none (overlaps (get_or xs j d)) (take j xs) none)
        (λ t in_t. covers-overlaps a (get_or xs j d) t e in_t) in
        omega (arith, count_by_more_yes (covers a) xs j d lt e)
    go false e = let z = apart a in omega (arith, count_by_more_no (covers a) xs j d lt e)

-- segments in another order are apart too
pub IsApart-permutation : (xs ys : List Segment) → IsPermutation xs ys → IsApart xs → IsApart ys
IsApart-permutation xs ys moved apart a =
    let same = sum_by-IsPermutation (λ s. cond {A = ℕ} (covers a s) 1 0) xs ys moved in
    let few = apart a in
    omega arith

pub moved_between : (start xs ys end : List Segment) → xs ≡ start → end ≡ ys → IsPermutation xs ys
    → IsPermutation start end
moved_between start xs ys end at_start at_end moved = rw at_end (rw (← at_start) moved)

-- what segment j overlaps, by the segment
overlap_at-is : (xs : List Segment) (j : ℕ) (d : Segment) → j < length xs
    → overlap_at xs j ≡ overlap_of j (take j xs) (get_or xs j d)
unfolding overlap_at
overlap_at-is xs j d lt = ap (option_and_then (overlap_of j (take j xs))) (slice_get-get_or xs j d lt)

-- a segment that overlaps one before it
pub overlap_at-some : (xs : List Segment) (j i : ℕ) (d : Segment) → j < length xs
    → position (overlaps (get_or xs j d)) (take j xs) ≡ Some i → overlap_at xs j ≡ Some (Overlap i j)
overlap_at-some xs j i d lt first = overlap_at-is xs j d lt ∙ ap (option_map (λ k. Overlap k j)) first

-- segments that are apart don't overlap
overlap_at-none : (xs : List Segment) (j : ℕ) → j < length xs → IsApart (take (j + 1) xs) → overlap_at xs j ≡ None
overlap_at-none xs j lt apart = overlap_at-is xs j no_segment lt
    ∙ go (position (overlaps (get_or xs j no_segment)) (take j xs)) refl
  where
    go : (o : Option ℕ) → position (overlaps (get_or xs j no_segment)) (take j xs) ≡ o
        → option_map (λ k. Overlap k j) o ≡ None
    go None e = refl
    go (Some i) e =
        let found = position-Some (overlaps (get_or xs j no_segment)) (take j xs) i no_segment e in
        let below : i < j = omega (arith, length-take j xs) in
        let both = ap (overlaps (get_or xs j no_segment)) (sym (get_or-take j xs i no_segment below)) ∙ found.1 in
        absurd (overlap-shared xs j no_segment lt i below both apart)

-- no fault among the first n segments, if they are apart
pub apart-no_fault : (xs : List Segment) (n : ℕ) → n ≤ length xs → IsApart (take n xs)
    → first_fault (table (overlap_at xs) n) ≡ None
apart-no_fault xs zero fits apart = refl
apart-no_fault xs (suc n) fits apart =
    let shorter : IsApart (take n xs)
    = subst IsApart (take-take n (suc n) xs (omega arith)) (IsApart-take (take (suc n) xs) n apart) in
    let here = overlap_at-none xs n (omega arith) (rw (add-one) apart) in
    let more = table_goes_on (overlap_at xs) n (apart-no_fault xs n (omega arith) shorter) here in
    rw add-one at more

-- the first segment that isn't apart from those before it makes the fault
pub apart-first_fault : (xs : List Segment) (i j : ℕ) (d : Segment) → j < length xs → IsApart (take j xs)
    → position (overlaps (get_or xs j d)) (take j xs) ≡ Some i → apart_fault xs ≡ Some (Overlap i j)
apart-first_fault xs i j d lt apart first =
    table_ends (overlap_at xs) (length xs) j (Overlap i j) lt (apart-no_fault xs j (omega arith) apart)
    (overlap_at-some xs j i d lt first)

-- there are segments, if they aren't apart
pub some_segment : (xs : List Segment) → (IsApart xs → ⊥) → 0 < length xs
some_segment [] shared = absurd (shared (λ a. omega arith))
some_segment (x ∷ xs) shared = omega arith
