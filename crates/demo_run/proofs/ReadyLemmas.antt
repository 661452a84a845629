-- Who is ready after a step, and who waits.
use Rattle.std.proofs.Common.{◌≡◌, ◌≢◌, ℕ, ◌+◌, ◌<◌, ◌≤◌, ◌==◌, cond, List, [], ◌∷◌, ◌++◌, drop, Some}
use Rattle.std.specs.List.{slice_get}
use Rattle.std.proofs.Common.{refl, ap, ◌∙◌, arith}
use Rattle.std.proofs.lemmas.Bool.{cond-true, cond-false, eq-eqb, ne_eqb}
use Rattle.event_costs.specs.declared.numbers.ThreadNo.{ThreadNo}
use Rattle.guest_futex.specs.Waits.{enqueue, with_waiters, without_woken, woken_at}
use Rattle.demo_run.proofs.Others.{ran_times, times_in-append, times_in-cons}
use Rattle.guest_sys.specs.Laws.{times_in}
use Rattle.guest_sched.specs.declared.turns.Fate.TheVariants as fate
use Rattle.guest_sched.specs.RunQueue.{RunQueue, after_step, with_threads}
use Rattle.demo_run.proofs.Places.{word_of}
use Rattle.demo_run.proofs.WayLemmas.{each}
use Rattle.demo_run.proofs.Lives.{Main, main_no, queue_of}

-- ---- how often one stands alone in a list

pub times_same : (t : ThreadNo) → times_in t (t ∷ []) ≡ 1
times_same t =
    let one : ◌≡◌ {A = ℕ} (cond {A = ℕ} (t.0 == t.0) 1 0) 1 = cond-true {A = ℕ} (t.0 == t.0) 1 0 (eq-eqb t.0 t.0 refl)
    in
    omega (arith, times_in-cons t t [], one)

pub times_other : (t u : ThreadNo) → u.0 ≢ t.0 → times_in t (u ∷ []) ≡ 0
times_other t u other =
    let none : ◌≡◌ {A = ℕ} (cond {A = ℕ} (u.0 == t.0) 1 0) 0 = cond-false {A = ℕ} (u.0 == t.0) 1 0
    (ne_eqb u.0 t.0 other) in
    omega (arith, times_in-cons t u [], none)

-- ---- who is first

pub someone : (t : ThreadNo) (us : List ThreadNo) → 1 ≤ times_in t us → (u : ThreadNo) × (slice_get us 0 ≡ Some u)
someone t [] some = absurd (omega arith)
someone t (u ∷ us) some = (u, refl)

pub first_there : (u : ThreadNo) (us : List ThreadNo) → slice_get us 0 ≡ Some u → 1 ≤ times_in u us
first_there u [] is = cc
first_there u (v ∷ us) is =
    let one : ◌≡◌ {A = ℕ} (cond {A = ℕ} (v.0 == u.0) 1 0) 1 = cond-true {A = ℕ} (v.0 == u.0) 1 0 (eq-eqb v.0 u.0 same)
    in
    omega (arith, times_in-cons u v us, one)
  where
    same : v.0 ≡ u.0
    same = cc

-- ---- a step

-- the running thread goes on
pub times_runs : (t : ThreadNo) (ts : List ThreadNo) (line : RunQueue)
    → times_in t (after_step fate.Runs ts line).ready ≡ times_in t line.ready + times_in t ts
times_runs t ts line = ran_times t (with_threads ts line) ∙ times_in-append t line.ready ts

-- it goes on no more
pub times_leaves : (t u : ThreadNo) (ts : List ThreadNo) (line : RunQueue) → slice_get line.ready 0 ≡ Some u
    → times_in t (after_step fate.Leaves ts line).ready + times_in t (u ∷ []) ≡ times_in t line.ready + times_in t ts
times_leaves t u ts line is = without line.ready is
  where
    without : (us : List ThreadNo) → slice_get us 0 ≡ Some u
        → times_in t (drop 1 (us ++ ts)) + times_in t (u ∷ []) ≡ times_in t us + times_in t ts
    without [] is = cc
    without (v ∷ us) is =
        let same : v ≡ u = cc in
        omega (
          arith,
          times_in-append t us ts,
          times_in-cons t v us,
          times_in-cons t u [],
          ap {B = ℕ} (λ (v : ThreadNo). cond (v.0 == t.0) 1 0) same,
        )

-- ---- who waits

pub nobody_woken : (t : ℕ) → without_woken (word_of (t + 1)) 1 [] ≡ []
unfolding without_woken with_waiters
nobody_woken t = refl

pub main_waits : (t : ℕ) → enqueue main_no (word_of (t + 1)) [] ≡ queue_of (Main.sleeps t)
unfolding enqueue with_waiters
main_waits t = refl

abbrev Wakes : ℕ → Type 0
Wakes t = (woken_at (word_of (t + 1)) 1 (queue_of (Main.sleeps t)) ≡ main_no ∷ [])
    × (without_woken (word_of (t + 1)) 1 (queue_of (Main.sleeps t)) ≡ [])

-- the end of the thread at whose word main waits
pub wakes_main : (t : ℕ) → t < 3 → Wakes t
unfolding without_woken with_waiters
wakes_main t lt = each Wakes (refl, refl) (refl, refl) (refl, refl) t lt

abbrev Leaves : ℕ → ℕ → Type 0
Leaves t u = u ≢ t → (woken_at (word_of (u + 1)) 1 (queue_of (Main.sleeps t)) ≡ [])
    × (without_woken (word_of (u + 1)) 1 (queue_of (Main.sleeps t)) ≡ queue_of (Main.sleeps t))

-- the end of another
pub leaves_main : (t u : ℕ) → t < 3 → u < 3 → Leaves t u
unfolding without_woken with_waiters
leaves_main t u lt below =
    each (λ t. Leaves t u)
    (each (λ u. Leaves 0 u) (λ other. absurd (other refl)) (λ other. (refl, refl)) (λ other. (refl, refl)) u below)
    (each (λ u. Leaves 1 u) (λ other. (refl, refl)) (λ other. absurd (other refl)) (λ other. (refl, refl)) u below)
    (each (λ u. Leaves 2 u) (λ other. (refl, refl)) (λ other. (refl, refl)) (λ other. absurd (other refl)) u below)
    t lt
