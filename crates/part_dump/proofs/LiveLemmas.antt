-- The live frames of all threads, one step after another.
use Rattle.std.proofs.Common.{◌≡◌, ◌≢◌, ℕ, zero, suc, ◌+◌, ◌-◌, ◌<◌, ◌≤◌, max, Bool, true, false, List, [], ◌∷◌}
use Rattle.std.proofs.Common.{◌++◌}
use Rattle.std.proofs.Common.{map, sum_by, refl, ap, sym, ◌∙◌, arith, ◌⊎◌, inl, inr, if◌then◌else◌}
use Rattle.std.specs.Prelude.{fold, nat_le}
use Rattle.std.proofs.lemmas.Bool.Decides.{eqb_tells, nat_tests}
use Rattle.std.proofs.lemmas.List.Sums.{fold-append, sum_by-append, sum_by-cons}
use Rattle.sym_map.specs.SymbolMap.{SymbolMap}
use Rattle.shadow_stack.specs.Changes.{after}
use Rattle.shadow_stack.specs.Traces.{stack_of}
use Rattle.cg_format.specs.Rows.{below}
use Rattle.part_dump.specs.Steps.{Step, event_of, frames_in, greatest, live, steps_of_thread, events_of_thread, stack_at, thread_of}
use Rattle.part_dump.proofs.StepLemmas.{events-push, own-other, stack-push}

-- ---- sums over the numbers below a bound

sum-below : (f : ℕ → ℕ) (n : ℕ) → sum_by f (below (suc n)) ≡ sum_by f (below n) + f n
sum-below f n =
    let all = sum_by-append f (below n) (n ∷ []) in
    let one = sum_by-cons f n [] in
    omega (arith, all, one)

-- numbers at which there is nothing add nothing
sum-more : (f : ℕ → ℕ) (m k : ℕ) → ((n : ℕ) → m ≤ n → f n ≡ 0) → sum_by f (below (m + k)) ≡ sum_by f (below m)
sum-more f m zero none = ap (λ n. sum_by f (below n)) (none_more m)
  where
    none_more : (m : ℕ) → m + 0 ≡ m
    none_more m = omega arith
sum-more f m (suc k) none =
    let next = ap (λ n. sum_by f (below n)) (more m k) in
    let all = sum-below f (m + k) in
    let rest = sum-more f m k none in
    let zero_ = none (m + k) (omega arith) in
    omega (arith, next, all, rest, zero_)
  where
    more : (m k : ℕ) → m + suc k ≡ suc (m + k)
    more m k = omega arith

-- two that differ at one number alone
sum-same : (f g : ℕ → ℕ) (t n : ℕ) → ((k : ℕ) → k ≢ t → f k ≡ g k) → n ≤ t → sum_by f (below n) ≡ sum_by g (below n)
sum-same f g t zero same le = refl
sum-same f g t (suc n) same le =
    let left = sum-below f n in
    let right = sum-below g n in
    let here = same n (λ e. less n t e le) in
    let rest = sum-same f g t n same (omega (arith, le)) in
    omega (arith, left, right, here, rest)
  where
    less : (n t : ℕ) → n ≡ t → suc n ≤ t → ⊥
    less n t e h = omega (arith, e, h)

sum-one : (f g : ℕ → ℕ) (t n : ℕ) → ((k : ℕ) → k ≢ t → f k ≡ g k) → t < n
    → sum_by f (below n) + g t ≡ sum_by g (below n) + f t
sum-one f g t zero same lt = absurd (omega (arith, lt))
sum-one f g t (suc n) same lt =
    let left = sum-below f n in
    let right = sum-below g n in
    elim (eqb_tells n t) as (λ _. sum_by f (below (suc n)) + g t ≡ sum_by g (below (suc n)) + f t) [
      | inl is ↦
          (let rest = sum-same f g t n same (omega (arith, is.1)) in
          let fn = ap f is.1 in
          let gn = ap g is.1 in
          omega (arith, left, right, rest, fn, gn))
      | inr differs ↦
          (let here = same n differs.1 in
          let rest = sum-one f g t n same (small n t differs.1 lt) in
          omega (arith, left, right, here, rest))
    ]
  where
    small : (n t : ℕ) → n ≢ t → t < suc n → t < n
    small n t other h = omega (arith, other, h)

-- ---- the greatest thread

greatest-from : (m : ℕ) (xs : List Step) (x : Step)
    → fold (λ most y. max most (thread_of y)) m (xs ++ x ∷ [])
    ≡ max (fold (λ most y. max most (thread_of y)) m xs) (thread_of x)
greatest-from m xs x = fold-append (λ most y. max most (thread_of y)) m xs (x ∷ [])

least-from : (m : ℕ) (xs : List Step) → m ≤ fold (λ most y. max most (thread_of y)) m xs
least-from m [] = omega arith
least-from m (x ∷ xs) = let rest = least-from (max m (thread_of x)) xs in omega (arith, rest)

-- a thread above the greatest has no step
above-from : (t m : ℕ) (xs : List Step) → fold (λ most y. max most (thread_of y)) m xs < t → steps_of_thread t xs ≡ []
above-from t m [] lt = refl
above-from t m (x ∷ xs) lt =
    elim (eqb_tells (thread_of x) t) as (λ _. steps_of_thread t (x ∷ xs) ≡ []) [
      | inl is ↦ (let least = least-from (max m (thread_of x)) xs in absurd (omega (arith, lt, least, is.1)))
      | inr differs ↦
          ap (λ b. if b then x ∷ steps_of_thread t xs else steps_of_thread t xs) differs.0 ∙ above-from t (max m (thread_of x)) xs lt
    ]

pub above_greatest : (t : ℕ) (xs : List Step) → greatest xs < t → steps_of_thread t xs ≡ []
above_greatest t xs lt = above-from t 0 xs lt

-- ---- frames

-- the frames that are no roots, of a thread that has made no step: none
no_frames : (syms : SymbolMap) (xs : List Step) (t p : ℕ) → steps_of_thread t xs ≡ [] → frames_in (stack_at syms xs t p) ≡ 0
no_frames syms xs t p none = ap (λ ys. frames_in (stack_of syms (map event_of ys) p)) none

-- wherever a thread is said to begin
same_frames : (syms : SymbolMap) (ys : List Step) (p q : ℕ)
    → frames_in (stack_of syms (map event_of ys) p) ≡ frames_in (stack_of syms (map event_of ys) q)
same_frames syms [] p q = refl
same_frames syms (y ∷ ys) p q = refl

module _ (syms : SymbolMap) (xs : List Step) (x : Step) where
  abbrev all : List Step
  all = xs ++ x ∷ []

  abbrev frames_now : ℕ → ℕ
  frames_now n = frames_in (stack_at syms all n 0)

  abbrev frames_before : ℕ → ℕ
  frames_before n = frames_in (stack_at syms xs n 0)

  others : (k : ℕ) → k ≢ thread_of x → frames_now k ≡ frames_before k
  others k other =
      ap (λ ys. frames_in (stack_of syms (map event_of ys) 0)) (own-other k xs x (λ e. other (sym e)))

  within : thread_of x < suc (greatest all)
  within = let is = greatest-from 0 xs x in omega (arith, is)

  grown : (greatest xs + 1) + (greatest all - greatest xs) ≡ suc (greatest all)
  grown = let is = greatest-from 0 xs x in omega (arith, is)

  before_all : sum_by frames_before (below (suc (greatest all))) ≡ live syms xs
  before_all =
      ap (λ n. sum_by frames_before (below n)) (sym grown)
      ∙ sum-more frames_before (greatest xs + 1) (greatest all - greatest xs)
      (λ n le. no_frames syms xs n 0 (above_greatest n xs (omega (arith, le))))
      ∙ ap (λ n. sum_by frames_before (below n)) one
    where
      one : greatest xs + 1 ≡ suc (greatest xs)
      one = omega arith

  -- the live frames change by those of the step's thread
  pub live_push : live syms all + frames_in (stack_at syms xs (thread_of x) (event_of x).done.pc)
      ≡ live syms xs + frames_in (after syms (stack_at syms xs (thread_of x) (event_of x).done.pc) (event_of x))
  live_push =
      let sums = sum-one frames_now frames_before (thread_of x) (suc (greatest all)) others within in
      let old = same_frames syms (steps_of_thread (thread_of x) xs) (event_of x).done.pc 0 in
      let new =
      ap (λ es. frames_in (stack_of syms es 0)) (events-push (thread_of x) xs x refl)
      ∙ ap frames_in (stack-push syms (events_of_thread (thread_of x) xs) (event_of x) 0) in
      omega (arith, sums, old, new, before_all)

-- the frames of a thread are among those of all threads
le-below : (f : ℕ → ℕ) (t n : ℕ) → t < n → f t ≤ sum_by f (below n)
le-below f t zero lt = absurd (omega (arith, lt))
le-below f t (suc n) lt =
    let all = sum-below f n in
    elim (eqb_tells n t) as (λ _. f t ≤ sum_by f (below (suc n))) [
      | inl is ↦ (let here = ap f is.1 in omega (arith, all, here))
      | inr differs ↦ (let rest = le-below f t n (small n t differs.1 lt) in omega (arith, all, rest))
    ]
  where
    small : (n t : ℕ) → n ≢ t → t < suc n → t < n
    small n t other h = omega (arith, other, h)

pub frames_within : (syms : SymbolMap) (xs : List Step) (t p : ℕ) → frames_in (stack_at syms xs t p) ≤ live syms xs
frames_within syms xs t p =
    let same = same_frames syms (steps_of_thread t xs) p 0 in
    elim (by (nat_le t (greatest xs)) refl) as (λ _. frames_in (stack_at syms xs t p) ≤ live syms xs) [
      | inl le ↦
          (let share = le-below (λ n. frames_in (stack_at syms xs n 0)) t (suc (greatest xs)) (omega (arith, le)) in
          omega (arith, same, share))
      | inr more ↦ (let none = no_frames syms xs t p (above_greatest t xs more) in omega (arith, none))
    ]
  where
    by : (b : Bool) → nat_le t (greatest xs) ≡ b → (t ≤ greatest xs) ⊎ (greatest xs < t)
    by true e = inl (grind (arith, nat_tests))
    by false e = inr (grind (arith, nat_tests))
