-- The places of threads whose numbers rise.
use Rattle.std.proofs.Common.{◌≡◌, ◌≢◌, ℕ, zero, suc, ◌+◌, ◌-◌, ◌<◌, ◌≤◌, ◌==◌, false, List, [], ◌∷◌, length, map}
use Rattle.std.proofs.Common.{get_or, Some, Result, Ok, Err, refl, sym, ◌∙◌, ap, subst, inl, inr, arith}
use Rattle.std.proofs.lemmas.Bool.{cases_lt, ne_eqb, cond-false}
use Rattle.std.proofs.lemmas.Bool.Decides.{nat_tests}
use Rattle.std.proofs.lemmas.Cmp.{ranked}
use Rattle.std.proofs.lemmas.List.Sorted.{IsNonDecreasingBy-from_default}
use Rattle.std.specs.Ordering.{nat_cmp, ordering_index}
use Rattle.std.proofs.lemmas.List.{length-map}
use Rattle.std.specs.List.Sorted.{IsBinarySearchResult, IsNonDecreasingBy, IsSearchInRange, IsStrictlyIncreasing}
use Rattle.event_costs.specs.declared.numbers.ThreadNo.{ThreadNo}
use Rattle.guest_load.specs.declared.thread.Thread.{Thread}
use Rattle.guest_sys.specs.Kernel.{times_live}
use Rattle.guest_sys.proofs.BalanceLemmas.{times_live-cons}
use Rattle.guest_sys.proofs.LiveLemmas.{nobody}
use Rattle.guest_sched.specs.inner.Sound.{number_at}

abbrev pub thread_number : Thread → ℕ
thread_number t = t.no.0

-- a number at a place
pub number_at_is : (ts : List Thread) (i : ℕ) → i < length ts
    → number_at ts i ≡ Some (get_or (map thread_number ts) i 0)
number_at_is [] i h = absurd (omega arith)
number_at_is (t ∷ ts) zero h = refl
number_at_is (t ∷ ts) (suc i) h = number_at_is ts i (omega arith)

-- who stands at no place isn't live
pub nowhere : (thread : ThreadNo) (ts : List Thread)
    → ((k : ℕ) → k < length ts → get_or (map thread_number ts) k 0 ≢ thread.0) → times_live thread ts ≡ 0
nowhere thread [] h = refl
nowhere thread (t ∷ ts) h =
    let rest : times_live thread ts ≡ 0 = nowhere thread ts (λ k l. h (suc k) (omega arith)) in
    let not_here : (t.no.0 == thread.0) ≡ false = ne_eqb t.no.0 thread.0 (h 0 (omega arith)) in
    omega (arith, times_live-cons thread t ts, rest, cond-false {A = ℕ} (t.no.0 == thread.0) 1 0 not_here)

-- ---- a search among rising numbers

rising_far : (xs : List ℕ) → IsStrictlyIncreasing xs → (i n : ℕ) → i + suc n < length xs
    → get_or xs i 0 < get_or xs (i + suc n) 0
rising_far xs rise i zero h = subst (λ j. get_or xs i 0 < get_or xs j 0) (one_more i) (rise i (omega arith))
  where
    one_more : (j : ℕ) → j + 1 ≡ j + suc zero
    one_more j = omega arith
rising_far xs rise i (suc n) h =
    let before : get_or xs i 0 < get_or xs (i + suc n) 0 = rising_far xs rise i n (omega arith) in
    let last : get_or xs (i + suc n) 0 < get_or xs (i + suc n + 1) 0 = rise (i + suc n) (omega arith) in
    let same : get_or xs (i + suc n + 1) 0 ≡ get_or xs (i + suc (suc n)) 0 = ap (λ j. get_or xs j 0) (shifted i n) in
    omega (arith, before, last, same)
  where
    shifted : (j m : ℕ) → j + suc m + 1 ≡ j + suc (suc m)
    shifted j m = omega arith

pub rising_between : (xs : List ℕ) → IsStrictlyIncreasing xs → (i j : ℕ) → i < j → j < length xs
    → get_or xs i 0 < get_or xs j 0
rising_between xs rise i j order within =
    let gap : i + suc (j - i - 1) ≡ j = omega arith in
    subst (λ k. get_or xs i 0 < get_or xs k 0) gap (rising_far xs rise i (j - i - 1) (omega (arith, gap)))

-- the number of the thread at a place
abbrev pub key_at : List Thread → ℕ → ℕ
key_at ts i = (get_or ts i nobody).no.0

key_is : (ts : List Thread) (i : ℕ) → i < length ts → key_at ts i ≡ get_or (map thread_number ts) i 0
key_is [] i h = absurd (omega arith)
key_is (t ∷ ts) zero h = refl
key_is (t ∷ ts) (suc i) h = key_is ts i (omega arith)

pub keys_rise : (ts : List Thread) → IsStrictlyIncreasing (map thread_number ts) → (i j : ℕ) → i < j → j < length ts
    → key_at ts i < key_at ts j
keys_rise ts rise i j order within =
    let step : get_or (map thread_number ts) i 0 < get_or (map thread_number ts) j 0
    = rising_between (map thread_number ts) rise i j order (omega (arith, length-map ts thread_number)) in
    omega (arith, step, key_is ts i (omega arith), key_is ts j within)

comparisons_rise : (ts : List Thread) → IsStrictlyIncreasing (map thread_number ts) → (k : ℕ)
    → IsNonDecreasingBy (λ (t : Thread). ordering_index (nat_cmp t.no.0 k)) ts
comparisons_rise ts rise k =
    IsNonDecreasingBy-from_default (λ (t : Thread). ordering_index (nat_cmp t.no.0 k)) ts nobody (λ i j le in_range.
    let rises : i < j → key_at ts i < key_at ts j = λ l. keys_rise ts rise i j l in_range in
    grind (arith, nat_tests, rises, λ (same : i ≡ j). ap (key_at ts) same))

-- what a binary search of a live thread's number answers
abbrev pub IsFoundBy : List Thread → ThreadNo → Result ℕ ℕ → Type 0
IsFoundBy ts thread (Ok place) = number_at ts place ≡ Some thread.0
IsFoundBy ts thread (Err place) = ⊥

pub searched : (ts : List Thread) (thread : ThreadNo) (r : Result ℕ ℕ) → IsStrictlyIncreasing (map thread_number ts)
    → 1 ≤ times_live thread ts
    → IsSearchInRange r (length ts) → IsBinarySearchResult (λ (t : Thread). nat_cmp t.no.0 thread.0) ts r
    → IsFoundBy ts thread r
searched ts thread (Ok place) rise live in_range equal =
    let key : key_at ts place ≡ thread.0 = ranked _ thread.0 _ (sym (equal nobody)) in
    number_at_is ts place in_range ∙ ap (λ n. Some n) (sym (key_is ts place in_range) ∙ key)
searched ts thread (Err place) rise live in_range parted =
    let absent : (k : ℕ) → k < length ts → get_or (map thread_number ts) k 0 ≢ thread.0
    = λ k l same. elim (cases_lt k place) [
      | inl below ↦
          let smaller : key_at ts k < thread.0
          = ranked _ thread.0 _
          (sym ((parted (comparisons_rise ts rise thread.0)).0 k nobody (omega arith) below)) in
          omega (arith, smaller, key_is ts k l, same)
      | inr above ↦
          let greater : thread.0 < key_at ts k
          = ranked _ thread.0 _ (sym ((parted (comparisons_rise ts rise thread.0)).1 k nobody above l)) in
          omega (arith, greater, key_is ts k l, same)
    ] in
    omega (arith, live, nowhere thread ts absent)
