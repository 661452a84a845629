-- A system call of the running thread: who is ready after it, and that it is the step of its row.
use Rattle.std.proofs.Common.{◌≡◌, ◌≢◌, ℕ, suc, ◌+◌, ◌-◌, ◌<◌, ◌≤◌, ◌==◌, Bool, true, false, cond, List, [], ◌∷◌, ◌++◌}
use Rattle.std.specs.List.{slice_get}
use Rattle.std.proofs.Common.{length, map, drop, get_or, Some, None, Ok, Err, refl, sym, ◌∙◌, ap, subst, inl, inr}
use Rattle.std.proofs.Common.{arith}
use Rattle.std.proofs.lemmas.Bool.{cases_eq, cond-true, cond-false, eq-eqb, ne_eqb}
use Rattle.std.proofs.lemmas.List.{length-map}
use Rattle.std.proofs.lemmas.Option.{get_or_from_slice_get}
use Rattle.std.specs.List.Sorted.{IsStrictlyIncreasing}
use Rattle.std.specs.Option.{option_and_then}
use Rattle.event_costs.specs.declared.numbers.ThreadNo.{ThreadNo}
use Rattle.event_costs.specs.declared.outcome.End.TheVariants.{UnsupportedCall}
use Rattle.guest_load.specs.declared.thread.Thread.{Thread}
use Rattle.guest_futex.specs.Waits.{times_waiting}
use Rattle.guest_sys.specs.Kernel.{Kernel, times_live}
use Rattle.guest_sys.specs.Laws.{times_in, waiters_by, spawned_by, gone_by, IsBalanced, ChangesNothing}
use Rattle.guest_sys.specs.CallRow.{call_row, caller_of}
use Rattle.guest_sys.specs.declared.caller.Caller.{Caller}
use Rattle.guest_sys.specs.declared.effect.Act.{Act}
use Rattle.guest_sys.specs.declared.effect.Act.TheVariants as act
use Rattle.guest_sys.specs.declared.effect.Effect.{Effect}
use Rattle.guest_sys.proofs.BalanceLemmas.{times_live-cons}
use Rattle.guest_sched.specs.declared.engine.Engine.{Engine as EngineFields}
use Rattle.guest_sched.specs.declared.turns.Fate.{Fate}
use Rattle.guest_sched.specs.declared.turns.Fate.TheVariants as fate
use Rattle.guest_sched.specs.RunQueue.{RunQueue, with_threads, after_step}
use Rattle.guest_sched.specs.Engine.{Engine, runner}
use Rattle.guest_sched.specs.Step.{by_row, call_step, fate_of, signal_of, unless_killed}
use Rattle.guest_sched.specs.inner.Sound.{IsLively, engine_of}
use Rattle.guest_sched.proofs.PlaceLemmas.{nowhere, rising_between, thread_number}
use Rattle.guest_sched.proofs.TurnLemmas.{ran_times, times_in-rotated}
use Rattle.guest_sched.proofs.EngineLemmas.{IsRunner}
use Rattle.guest_futex.proofs.WaitLaws.{times_in-cons, times_in-append}

-- ---- no more are ready than live

abbrev times : ℕ → List ℕ → ℕ
times n [] = 0
times n (m ∷ ms) = cond (m == n) 1 0 + times n ms

abbrev without : ℕ → List ℕ → List ℕ
without n [] = []
without n (m ∷ ms) = cond (m == n) ms (m ∷ without n ms)

times_one : (n m : ℕ) → n ≡ m → ◌≡◌ {A = ℕ} (cond {A = ℕ} (m == n) 1 0) 1
times_one n m same = cond-true {A = ℕ} (m == n) 1 0 (eq-eqb m n (sym same))

times_none : (n m : ℕ) → n ≢ m → ◌≡◌ {A = ℕ} (cond {A = ℕ} (m == n) 1 0) 0
times_none n m differs = cond-false {A = ℕ} (m == n) 1 0 (ne_eqb m n (λ e. differs (sym e)))

without_none : (n : ℕ) (ms : List ℕ) → times n (without n ms) ≡ times n ms - 1
without_none n [] = refl
without_none n (m ∷ ms) = elim (cases_eq m n) [
  | inl same ↦ ap (times n) (cond-true (m == n) ms (m ∷ without n ms) (eq-eqb m n same))
      ∙ omega (arith, times_one n m (sym same))
  | inr other ↦ ap (times n) (cond-false (m == n) ms (m ∷ without n ms) (ne_eqb m n other))
      ∙ omega (arith, times_none n m (λ e. other (sym e)), without_none n ms)
]

without_fewer : (n k : ℕ) (ms : List ℕ) → times k (without n ms) ≤ times k ms
without_fewer n k [] = omega arith
without_fewer n k (m ∷ ms) = by (m == n) (without_fewer n k ms)
  where
    by : (b : Bool) → times k (without n ms) ≤ times k ms
        → times k (cond b ms (m ∷ without n ms)) ≤ cond (m == k) 1 0 + times k ms
    by true rest = omega arith
    by false rest = omega (arith, rest)

length_without : (n : ℕ) (ms : List ℕ) → length ms ≤ length (without n ms) + 1
length_without n [] = omega arith
length_without n (m ∷ ms) = by (m == n) (length_without n ms)
  where
    by : (b : Bool) → length ms ≤ length (without n ms) + 1
        → length (m ∷ ms) ≤ length (cond b ms (m ∷ without n ms)) + 1
    by true rest = omega arith
    by false rest = omega (arith, rest)

-- a list in which each number stands no more often than in another is no longer than it
pigeons : (ns ms : List ℕ) → ((k : ℕ) → times k ms ≤ times k ns) → length ms ≤ length ns
pigeons [] [] h = omega arith
pigeons [] (m ∷ ms) h = absurd (omega (arith, h m, times_one m m refl))
pigeons (n ∷ ns) ms h = omega (arith, pigeons ns (without n ms) fewer, length_without n ms)
  where
    fewer : (k : ℕ) → times k (without n ms) ≤ times k ns
    fewer k = elim (cases_eq k n) [
      | inl same ↦
          let gone : times k (without n ms) ≡ times k ms - 1
          = subst (λ j. times j (without n ms) ≡ times j ms - 1) (sym same) (without_none n ms) in
          omega (arith, gone, h k, times_one k n same)
      | inr differs ↦ omega (arith, without_fewer n k ms, h k, times_none k n differs)
    ]

times-numbers : (t : ThreadNo) (ts : List ThreadNo) → times t.0 (map (λ (u : ThreadNo). u.0) ts) ≡ times_in t ts
times-numbers t [] = refl
times-numbers t (u ∷ ts) = omega (arith, times_in-cons t u ts, times-numbers t ts)

times-live : (t : ThreadNo) (ts : List Thread) → times t.0 (map thread_number ts) ≡ times_live t ts
times-live t [] = refl
times-live t (u ∷ ts) = omega (arith, times_live-cons t u ts, times-live t ts)

pub few_ready : (ready : List ThreadNo) (s : Kernel) → IsLively ready s → length ready ≤ length s.guest.threads
few_ready ready s lively =
    let all : length (map (λ (u : ThreadNo). u.0) ready) ≤ length (map thread_number s.guest.threads)
    = pigeons _ _ each in
    omega (arith, all, length-map ready (λ (u : ThreadNo). u.0), length-map s.guest.threads thread_number)
  where
    each : (k : ℕ) → times k (map (λ (u : ThreadNo). u.0) ready) ≤ times k (map thread_number s.guest.threads)
    each k =
        let t : ThreadNo = record { 0 = k } in
        omega (arith, lively t, times-numbers t ready, times-live t s.guest.threads)

-- ---- who runs doesn't wait

tail_rises : (x : ℕ) (xs : List ℕ) → IsStrictlyIncreasing (x ∷ xs) → IsStrictlyIncreasing xs
tail_rises x xs rise k below = subst (λ j. get_or xs k 0 < get_or (x ∷ xs) j 0) (next k) (rise (suc k) (omega arith))
  where
    next : (n : ℕ) → suc n + 1 ≡ suc (n + 1)
    next n = omega arith

above_first : (x : ℕ) (xs : List ℕ) → IsStrictlyIncreasing (x ∷ xs) → (k : ℕ) → k < length xs → x < get_or xs k 0
above_first x xs rise k below = rising_between (x ∷ xs) rise 0 (suc k) (omega arith) (omega arith)

pub live_once : (t : ThreadNo) (ts : List Thread) → IsStrictlyIncreasing (map thread_number ts) → times_live t ts ≤ 1
live_once t [] rise = omega arith
live_once t (u ∷ ts) rise = elim (cases_eq t.0 u.no.0) [
  | inl same ↦
      let none : times_live t ts ≡ 0 = nowhere t ts (λ k h e.
      omega (
        arith,
        above_first u.no.0 (map thread_number ts) rise k (omega (arith, h, length-map ts thread_number)),
        e,
        same,
      )) in
      omega (arith, none, times_live-cons t u ts, times_one t.0 u.no.0 same)
  | inr differs ↦ omega (
    arith,
    live_once t ts (tail_rises u.no.0 (map thread_number ts) rise),
    times_live-cons t u ts,
    times_none t.0 u.no.0 differs,
  )
]

pub first_idle : (ready : List ThreadNo) (s : Kernel) (t : ThreadNo) → IsLively ready s
    → IsStrictlyIncreasing (map thread_number s.guest.threads) → slice_get ready 0 ≡ Some t → times_waiting t s.waits ≡ 0
first_idle [] s t lively rise is = cc
first_idle (u ∷ us) s t lively rise is =
    let same : t.0 ≡ u.0 = ap (λ (v : ThreadNo). v.0) (sym (same_some u t is)) in
    omega (arith, lively t, times_in-cons t u us, times_one t.0 u.0 same, live_once t s.guest.threads rise)
  where
    same_some : (x y : ThreadNo) → Some x ≡ Some y → x ≡ y
    same_some x y e = cc

-- the runner is the first ready thread
pub runner_first : (w : Engine) (t : ThreadNo) → slice_get w.run_queue.ready 0 ≡ Some t
    → runner w ≡ caller_of t w.kernel.guest.threads
unfolding runner
runner_first w t first = ap (option_and_then (λ u. caller_of u w.kernel.guest.threads)) first

-- ---- who is ready after a call

without_first : (t first : ThreadNo) (ready more : List ThreadNo) → slice_get ready 0 ≡ Some first
    → times_in t (drop 1 (ready ++ more)) + times_in t (first ∷ []) ≡ times_in t ready + times_in t more
without_first t first [] more is = cc
without_first t first (u ∷ us) more is =
    let same : u ≡ first = same_some u first is in
    let equal : times_in t (first ∷ []) ≡ times_in t (u ∷ []) = ap (λ (v : ThreadNo). times_in t (v ∷ [])) (sym same) in
    omega (arith, times_in-cons t u us, times_in-cons t u [], times_in-append t us more, equal)
  where
    same_some : (x y : ThreadNo) → Some x ≡ Some y → x ≡ y
    same_some x y e = cc

-- who leaves begins to wait or has ended
leaving : Fate → ThreadNo → List ThreadNo
leaving fate.Runs caller = []
leaving fate.Yields caller = []
leaving fate.Leaves caller = caller ∷ []

leaves_by : (t caller : ThreadNo) (a : Act) → signal_of a ≡ None
    → times_in t (waiters_by caller a) + times_in t (gone_by caller a) ≡ times_in t (leaving (fate_of a) caller)
unfolding leaving
leaves_by t caller act.Answer none = refl
leaves_by t caller (act.Wait addr) none = omega arith
leaves_by t caller act.Yield none = refl
leaves_by t caller (act.Spawn other) none = refl
leaves_by t caller (act.Output fd bytes) none = refl
leaves_by t caller act.ThreadEnd none = omega arith
leaves_by t caller (act.ProcessEnd code) none = omega arith
leaves_by t caller (act.Killed signal) none = cc

passed_times : (t caller : ThreadNo) (f : Fate) (ts : List ThreadNo) (line : RunQueue) → slice_get line.ready 0 ≡ Some caller
    → times_in t (after_step f ts line).ready + times_in t (leaving f caller) ≡ times_in t line.ready + times_in t ts
unfolding leaving
passed_times t caller fate.Runs ts line is =
    omega (arith, ran_times t (with_threads ts line), times_in-append t line.ready ts)
passed_times t caller fate.Yields ts line is =
    omega (arith, times_in-rotated t (line.ready ++ ts), times_in-append t line.ready ts)
passed_times t caller fate.Leaves ts line is = without_first t caller line.ready ts is

pub lively_called : (caller : ThreadNo) (line : RunQueue) (old : Kernel) (effect : Effect) (new : Kernel)
    → signal_of effect.act ≡ None → slice_get line.ready 0 ≡ Some caller → IsLively line.ready old
    → IsBalanced caller old effect new
    → IsLively (after_step (fate_of effect.act) (effect.woken ++ spawned_by effect.act) line).ready new
lively_called caller line old effect new none is lively balanced t =
    omega (
      arith,
      lively t,
      balanced.waits t,
      balanced.lives t,
      passed_times t caller (fate_of effect.act) (effect.woken ++ spawned_by effect.act) line is,
      times_in-append t effect.woken (spawned_by effect.act),
      leaves_by t caller effect.act none,
    )

-- ---- a call is the step of its row

pub called_ok : (e : EngineFields) (c : Caller) (effect : Effect) (s : Kernel) → call_row e.kernel c.thread.no ≡ Ok (effect, s)
    → call_step (engine_of e) c ≡ unless_killed (signal_of effect.act) (engine_of e) c effect s
unfolding call_step
called_ok e c effect s is = ap (by_row (engine_of e) c) is

pub called_unsupported : (e : EngineFields) (c : Caller) (number : ℕ) → call_row e.kernel c.thread.no ≡ Err number
    → call_step (engine_of e) c ≡ Err (UnsupportedCall c.thread.regs.pc number)
unfolding call_step
called_unsupported e c number is = ap (by_row (engine_of e) c) is

kills : (a : Act) (signal : ℕ) (old new : Kernel) → signal_of a ≡ Some signal → ChangesNothing a old new → new ≡ old
kills (act.Killed other) signal old new is same = same
kills act.Answer signal old new is same = cc
kills (act.Wait addr) signal old new is same = cc
kills act.Yield signal old new is same = cc
kills (act.Spawn other) signal old new is same = cc
kills (act.Output fd bytes) signal old new is same = cc
kills act.ThreadEnd signal old new is same = cc
kills (act.ProcessEnd code) signal old new is same = cc

pub killed_same : (e : Effect) (signal : ℕ) (old new : Kernel) → signal_of e.act ≡ Some signal
    → ChangesNothing e.act old new → new ≡ old
killed_same e signal old new is same = kills e.act signal old new is same

-- the thread at the place of the running one
pub thread_there : (e : EngineFields) (c : Caller) (d : Thread) → IsRunner e c
    → get_or e.kernel.guest.threads e.place d ≡ c.thread
thread_there e c d runs = ap (λ i. get_or e.kernel.guest.threads i d) (sym runs.place)
    ∙ get_or_from_slice_get e.kernel.guest.threads c.place c.thread d runs.caller
