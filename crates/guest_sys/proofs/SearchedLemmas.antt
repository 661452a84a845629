-- The place of a thread among others that stand by rising number, as a binary search finds it.
use Rattle.std.proofs.Common.{◌≡◌, ℕ, zero, suc, ◌+◌, ◌<◌, ◌≤◌, ◌==◌, Bool, true, false, not, cond, List, [], ◌∷◌}
use Rattle.std.proofs.Common.{length, map, Result, Ok, Err, Some, None, refl, sym, ◌∙◌, ap, inl, inr, arith, add-one}
use Rattle.std.specs.Prelude.{nat_lt, slice_index, slice_index_or}
use Rattle.std.specs.List.{position, position_or_len}
use Rattle.std.specs.List.Sorted.{IsBinarySearchResult, IsNonDecreasingBy, IsSearchInRange, IsStrictlyIncreasing}
use Rattle.std.specs.Ordering.{nat_cmp, ordering_index}
use Rattle.std.specs.Cmp.{nat_cmp_is}
use Rattle.std.specs.Result.{result_ok}
use Rattle.std.specs.declared.cmp.Ordering.{Ordering}
use Rattle.std.specs.declared.cmp.Ordering.TheVariants.{Less, Equal, Greater}
use Rattle.std.proofs.lemmas.Bool.{cases_lt, lt-ltb, eq-eqb, ne_eqb}
use Rattle.std.proofs.lemmas.Bool.Decides.{nat_tests}
use Rattle.guest_load.specs.declared.thread.Thread.{Thread}

-- ---- the first place at which a test holds

place_at : {X : Type 0} (p : X → Bool) (xs : List X) (i : ℕ) (d : X) → i < length xs → p (slice_index_or xs i d) ≡ true
    → ((k : ℕ) → k < i → p (slice_index_or xs k d) ≡ false) → position_or_len p xs ≡ i
place_at p [] i d h holds fails = absurd (omega arith)
place_at p (x ∷ xs) zero d h holds fails = ap (λ b. cond (not b) (1 + position_or_len p xs) 0) holds
place_at p (x ∷ xs) (suc i) d h holds fails =
    let rest = place_at p xs i d (omega arith) holds (λ k l. fails (suc k) (omega arith)) in
    ap (λ b. cond (not b) (1 + position_or_len p xs) 0) (fails 0 (omega arith)) ∙ (omega (arith, rest))

place_nowhere : {X : Type 0} (p : X → Bool) (xs : List X) (d : X)
    → ((k : ℕ) → k < length xs → p (slice_index_or xs k d) ≡ false) → position_or_len p xs ≡ length xs
place_nowhere p [] d fails = refl
place_nowhere p (x ∷ xs) d fails =
    let rest = place_nowhere p xs d (λ k l. fails (suc k) (omega arith)) in
    ap (λ b. cond (not b) (1 + position_or_len p xs) 0) (fails 0 (omega arith)) ∙ (omega (arith, rest))

position_at : {X : Type 0} (p : X → Bool) (xs : List X) (i : ℕ) (d : X) → i < length xs
    → p (slice_index_or xs i d) ≡ true → ((k : ℕ) → k < i → p (slice_index_or xs k d) ≡ false) → position p xs ≡ Some i
position_at p xs i d h holds fails =
    let place : position_or_len p xs ≡ i = place_at p xs i d h holds fails in
    ap (λ k. cond (nat_lt k (length xs)) (Some k) None) place ∙ ap (λ b. cond b (Some i) None) (lt-ltb i (length xs) h)

not_below : (a b : ℕ) → a ≡ b → nat_lt a b ≡ false
not_below a b e = grind (arith, nat_tests)

position_nowhere : {X : Type 0} (p : X → Bool) (xs : List X) (d : X)
    → ((k : ℕ) → k < length xs → p (slice_index_or xs k d) ≡ false) → position p xs ≡ None
position_nowhere p xs d fails =
    ap (λ b. cond b (Some (position_or_len p xs)) None)
    (not_below (position_or_len p xs) (length xs) (place_nowhere p xs d fails))

-- ---- numbers that rise

abbrev number_of : Thread → ℕ
number_of t = t.no.0

number_at : (ts : List Thread) (i : ℕ) (d : Thread) → i < length ts
    → slice_index (map number_of ts) i ≡ (slice_index_or ts i d).no.0
number_at [] i d h = absurd (omega arith)
number_at (t ∷ ts) zero d h = refl
number_at (t ∷ ts) (suc i) d h = number_at ts i d (omega arith)

length_numbers : (ts : List Thread) → length (map number_of ts) ≡ length ts
length_numbers [] = refl
length_numbers (t ∷ ts) = ap suc (length_numbers ts)

rises_to : (xs : List ℕ) (i j : ℕ) → IsStrictlyIncreasing xs → i < j → j < length xs
    → slice_index xs i < slice_index xs j
rises_to xs i zero rise h within = absurd (omega arith)
rises_to xs i (suc j) rise h within =
    let next : slice_index xs j < slice_index xs (j + 1) = rise j (omega arith) in
    let same : slice_index xs (j + 1) ≡ slice_index xs (suc j) = ap (slice_index xs) (add-one j) in
    elim (cases_lt i j) [
      | inl before ↦ omega (arith, rises_to xs i j rise before (omega arith), next, same)
      | inr at_it ↦ (let here : slice_index xs i ≡ slice_index xs j = ap (slice_index xs) (omega arith) in
          omega (arith, here, next, same))
    ]

numbers_rise : (ts : List Thread) (i j : ℕ) (d : Thread) → IsStrictlyIncreasing (map number_of ts) → i < j
    → j < length ts → (slice_index_or ts i d).no.0 < (slice_index_or ts j d).no.0
numbers_rise ts i j d rise h within =
    let rises = rises_to (map number_of ts) i j rise h (omega (arith, length_numbers ts)) in
    omega (arith, rises, number_at ts i d (omega arith), number_at ts j d within)

-- ---- how numbers compare

less : (a n : ℕ) → a < n → nat_cmp a n ≡ Less
less a n h = sym (nat_cmp_is a n Less h)

equal : (a n : ℕ) → a ≡ n → nat_cmp a n ≡ Equal
equal a n h = sym (nat_cmp_is a n Equal h)

greater : (a n : ℕ) → n < a → nat_cmp a n ≡ Greater
greater a n h = sym (nat_cmp_is a n Greater h)

is_equal : (a n : ℕ) → nat_cmp a n ≡ Equal → a ≡ n
is_equal a n e = elim (cases_lt a n) [
  | inl below ↦ (let wrong = sym (less a n below) ∙ e in cc)
  | inr from ↦ elim (cases_lt n a) [
    | inl above ↦ (let wrong = sym (greater a n above) ∙ e in cc)
    | inr upto ↦ omega arith
  ]
]

is_other : (a n : ℕ) (o : Ordering) → nat_cmp a n ≡ o → (o ≡ Equal → ⊥) → (a == n) ≡ false
is_other a n o e other = ne_eqb a n (λ same. other (sym e ∙ equal a n same))

index_rises : (a b n : ℕ) → a ≤ b → ordering_index (nat_cmp a n) ≤ ordering_index (nat_cmp b n)
index_rises a b n h = elim (cases_lt a n) [
  | inl below ↦ (let e : ordering_index (nat_cmp a n) ≡ 0 = ap ordering_index (less a n below) in omega (arith, e))
  | inr from ↦ elim (cases_lt n b) [
    | inl above ↦ (
        let e : ordering_index (nat_cmp b n) ≡ 2 = ap ordering_index (greater b n above) in
        let most : ordering_index (nat_cmp a n) ≤ 2 = index_most (nat_cmp a n) in
        omega (arith, e, most))
    | inr upto ↦ (
        let first : ordering_index (nat_cmp a n) ≡ 1 = ap ordering_index (equal a n (omega arith)) in
        let second : ordering_index (nat_cmp b n) ≡ 1 = ap ordering_index (equal b n (omega arith)) in
        omega (arith, first, second))
  ]
]
  where
    index_most : (o : Ordering) → ordering_index o ≤ 2
    index_most Less = omega arith
    index_most Equal = omega arith
    index_most Greater = omega arith

-- ---- what a binary search by number finds

no_thread : Thread
no_thread = record { no = record { 0 = 0 }; regs = record { pc = 0; x = [] }; clear = 0 }

pub searched_place : (ts : List Thread) (n : ℕ) (r : Result ℕ ℕ) → IsStrictlyIncreasing (map number_of ts)
    → IsSearchInRange r (length ts) → IsBinarySearchResult (λ (t : Thread). nat_cmp t.no.0 n) ts r
    → result_ok r ≡ position (λ (t : Thread). t.no.0 == n) ts
searched_place ts n (Ok i) rise bound here =
    let found : (slice_index_or ts i no_thread).no.0 ≡ n = is_equal _ n (here no_thread) in
    sym (position_at (λ (t : Thread). t.no.0 == n) ts i no_thread bound (eq-eqb _ n found)
    (λ k l. ne_eqb _ n (λ same. (let rises = numbers_rise ts k i no_thread rise l bound in omega arith))))
searched_place ts n (Err i) rise bound parts =
    let risen : IsNonDecreasingBy (λ (t : Thread). ordering_index (nat_cmp t.no.0 n)) ts =
    λ a b d order within. elim (cases_lt a b) [
      | inl before ↦ (let rises = numbers_rise ts a b d rise before within in index_rises _ _ n (omega arith))
      | inr same ↦
          (let e : a ≡ b = omega arith in
          index_rises _ _ n (let f : (slice_index_or ts a d).no.0 ≡ (slice_index_or ts b d).no.0
          = ap (λ k. (slice_index_or ts k d).no.0) e in omega (arith, f)))
    ] in
    let split = parts risen in
    sym (position_nowhere (λ (t : Thread). t.no.0 == n) ts no_thread (λ k l. elim (cases_lt k i) [
      | inl before ↦ is_other _ n Less (split.0 k no_thread (omega arith) before) (λ e. cc)
      | inr after ↦ is_other _ n Greater (split.1 k no_thread after l) (λ e. cc)
    ]))
