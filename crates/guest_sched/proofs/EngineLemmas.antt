-- The stages of a step keep a machine sound.
use Rattle.std.proofs.Common.{◌≡◌, ℕ, zero, suc, ◌-◌, ◌<◌, ◌≤◌, ◌==◌, true, false, cond, List, [], ◌∷◌, length, map}
use Rattle.std.proofs.Common.{Option, Some, None, refl, sym, ◌∙◌, ap, subst, inl, inr, arith}
use Rattle.std.specs.Prelude.{IsSome}
use Rattle.std.proofs.lemmas.Bool.{cases_lt}
use Rattle.std.proofs.lemmas.Bool.Decides.{nat_tests}
use Rattle.std.specs.List.{slice_get}
use Rattle.std.specs.List.Sorted.{IsStrictlyIncreasing}
use Rattle.std.specs.Option.{option_map, option_and_then}
use Rattle.event_costs.specs.declared.event.Done.{Done}
use Rattle.event_costs.specs.declared.numbers.ThreadNo.{ThreadNo}
use Rattle.rv_step.specs.declared.stepped.Stepped.{Stepped}
use Rattle.rv_step.specs.declared.stepped.Stepped.TheVariants as stepped
use Rattle.rv_step.specs.Effects.{step_of}
use Rattle.rv_step.specs.Forms as forms
use Rattle.guest_load.specs.declared.thread.Thread.{Thread}
use Rattle.guest_futex.specs.Waits.{times_waiting}
use Rattle.guest_sys.specs.Kernel.{Kernel, kernel_of, times_live}
use Rattle.guest_sys.specs.Common.{IsCaller}
use Rattle.guest_sys.specs.CallRow.{caller_of}
use Rattle.guest_sys.specs.declared.caller.Caller.{Caller}
use Rattle.guest_sys.proofs.LiveLemmas.{caller_is, nobody}
use Rattle.guest_sched.specs.declared.engine.Engine.{Engine as EngineFields}
use Rattle.guest_sched.specs.declared.turns.Fate.{Fate}
use Rattle.guest_sched.specs.declared.turns.Fate.TheVariants as fate
use Rattle.guest_sched.specs.RunQueue.{RunQueue, ends_turn, with_threads, goes_on, without_turn, after_step, after_own_step}
use Rattle.guest_sched.specs.Engine.{Engine, begins, next_turn, runner, engine_after_step}
use Rattle.guest_sched.specs.Step.{hart_of, with_instruction}
use Rattle.guest_sched.specs.inner.Sound.{IsLively, IsSound, number_at, on_turn, engine_of}
use Rattle.guest_sched.specs.inner.Stages.{IsAdvanced, IsExecuted, Leaves, LeavesTurned}
use Rattle.guest_sched.proofs.PlaceLemmas.{key_at, keys_rise, thread_number}
use Rattle.guest_sched.proofs.TurnLemmas.{begins_left, begins_quantum, lively_begins, live_first, on_turn_first}
use Rattle.guest_sched.proofs.TurnLemmas.{number_at-numbers, place_within, times_live-numbers}

-- ---- a turn begins

abbrev pub with_line : EngineFields → RunQueue → ℕ → EngineFields
with_line e line place = record e { run_queue = line; place = place }

pub sound_begun : (e : EngineFields) (place : ℕ) → IsLively e.run_queue.ready e.kernel → 1 ≤ e.run_queue.quantum
    → ((t : ThreadNo) → on_turn e.exit (begins e.exit e.run_queue.ready e.run_queue).ready ≡ Some t
    → number_at e.kernel.guest.threads place ≡ Some t.0)
    → IsSound (with_line e (begins e.exit e.run_queue.ready e.run_queue) place)
sound_begun e place lively quantum placed = record {
  lively = lively_begins e.exit e.run_queue.ready e.run_queue e.kernel lively;
  quantum = subst (λ n. 1 ≤ n) (sym (begins_quantum e.exit e.run_queue.ready e.run_queue)) quantum;
  steps_left = begins_left e.exit e.run_queue.ready e.run_queue refl quantum;
  placed = placed;
}

-- what is sound is so whatever is reserved
any_held : (e : EngineFields) (h : Option ℕ) → IsSound e → IsSound (record e { held = h })
any_held e h sound = record { lively = sound.lively; quantum = sound.quantum; steps_left = sound.steps_left; placed = sound.placed }

pub sound_same : (e f : EngineFields) → f.kernel ≡ e.kernel → f.run_queue ≡ e.run_queue → f.place ≡ e.place → f.exit ≡ e.exit
    → IsSound e → IsSound f
sound_same e f kernel run_queue place exit sound =
    let P : EngineFields → Type 0 = IsSound in
    subst P
    (λ i. record {
      kernel = sym kernel i;
      run_queue = sym run_queue i;
      place = sym place i;
      held = f.held;
      exit = sym exit i;
    }) (any_held e f.held sound)

same_some : {X : Type 0} (x y : X) → Some x ≡ Some y → x ≡ y
same_some x y e = cc

-- the place of the first thread is that of the thread whose turn it is
pub placed_first : (exit : Option ℕ) (ready : List ThreadNo) (first : ThreadNo) (found : Option ℕ)
    → slice_get ready 0 ≡ Some first → found ≡ Some first.0
    → (t : ThreadNo) → on_turn exit ready ≡ Some t → found ≡ Some t.0
placed_first exit ready first found is there t on =
    let same : first ≡ t = same_some first t (sym is ∙ on_turn_first exit ready t on) in
    there ∙ ap (λ (u : ThreadNo). Some u.0) same

pub placed_none : (exit : Option ℕ) (ready : List ThreadNo) (found : Option ℕ) → slice_get ready 0 ≡ None → (t : ThreadNo)
    → on_turn exit ready ≡ Some t → found ≡ Some t.0
placed_none exit ready found is t on = absurd (differ (sym is ∙ on_turn_first exit ready t on))
  where
    differ : None ≡ Some t → ⊥
    differ e = cc

-- ---- a step passes

pub turned_ends : (f : Fate) (ts : List ThreadNo) (w : Engine) → ends_turn f w.run_queue ≡ true
    → engine_after_step f ts w ≡ next_turn (record w { run_queue = after_step f ts w.run_queue; held = None })
unfolding engine_after_step
turned_ends f ts w is =
    ap (λ b. cond b (next_turn (record w { run_queue = after_step f ts w.run_queue; held = None }))
    (record w { run_queue = after_step f ts w.run_queue })) is

pub turned_goes_on : (f : Fate) (ts : List ThreadNo) (w : Engine) → ends_turn f w.run_queue ≡ false
    → engine_after_step f ts w ≡ record w { run_queue = after_step f ts w.run_queue }
unfolding engine_after_step
turned_goes_on f ts w is =
    ap (λ b. cond b (next_turn (record w { run_queue = after_step f ts w.run_queue; held = None }))
    (record w { run_queue = after_step f ts w.run_queue })) is

pub ran_goes_on : (line : RunQueue) → (line.steps_left == 1) ≡ false → after_own_step fate.Runs line ≡ goes_on line
ran_goes_on line is = ap (λ b. cond b (without_turn fate.Runs line) (goes_on line)) is

left_below : (n : ℕ) → 1 ≤ n → (n == 1) ≡ false → 1 ≤ n - 1
left_below n h differs = grind (arith, nat_tests)

pub sound_goes_on : (e : EngineFields) → IsSound e → (e.run_queue.steps_left == 1) ≡ false
    → IsSound (record e { run_queue = goes_on e.run_queue })
sound_goes_on e sound more = record {
  lively = sound.lively;
  quantum = sound.quantum;
  steps_left = λ t on. left_below e.run_queue.steps_left (sound.steps_left t on) more;
  placed = sound.placed;
}

-- ---- an instruction

abbrev pub with_kernel : EngineFields → Kernel → Option ℕ → EngineFields
with_kernel e s h = record e { kernel = s; held = h }

pub sound_executed : (e : EngineFields) (s : Kernel) (h : Option ℕ) → IsSound e
    → map thread_number s.guest.threads ≡ map thread_number e.kernel.guest.threads → s.waits ≡ e.kernel.waits
    → IsSound (with_kernel e s h)
sound_executed e s h sound numbers waits = record {
  lively =
      λ t. omega (
        arith,
        sound.lively t,
        times_live-numbers t s.guest.threads e.kernel.guest.threads numbers,
        ap (times_waiting t) waits,
      );
  quantum = sound.quantum;
  steps_left = sound.steps_left;
  placed = λ t on. number_at-numbers e.place s.guest.threads e.kernel.guest.threads numbers ∙ sound.placed t on;
}

-- ---- the running thread

-- a number stands at one place alone
pub place_unique : (ts : List Thread) (i j n : ℕ) → IsStrictlyIncreasing (map thread_number ts)
    → number_at ts i ≡ Some n → number_at ts j ≡ Some n → i ≡ j
place_unique ts i j n rise at_i at_j =
    let in_i : i < length ts = place_within ts i n at_i in
    let in_j : j < length ts = place_within ts j n at_j in
    let key_i : key_at ts i ≡ n = key_there ts i n in_i at_i in
    let key_j : key_at ts j ≡ n = key_there ts j n in_j at_j in
    elim (cases_lt i j) [
      | inl below ↦ absurd (omega (arith, keys_rise ts rise i j below in_j, key_i, key_j))
      | inr above ↦ elim (cases_lt j i) [
        | inl without_turn ↦ absurd (omega (arith, keys_rise ts rise j i without_turn in_i, key_i, key_j))
        | inr same ↦ omega arith
      ]
    ]
  where
    key_there : (us : List Thread) (k m : ℕ) → k < length us → number_at us k ≡ Some m → key_at us k ≡ m
    key_there [] k m h is = absurd (omega arith)
    key_there (u ∷ us) zero m h is = same_some _ _ is
    key_there (u ∷ us) (suc k) m h is = key_there us k m (omega arith) is

pub number_there : (ts : List Thread) (i : ℕ) (t : Thread) → slice_get ts i ≡ Some t → number_at ts i ≡ Some t.no.0
number_there ts i t is = ap (option_map (λ (u : Thread). u.no.0)) is

-- what is known of the running thread
pub record IsRunner (e : EngineFields) (c : Caller) : Type 0 where
  pub caller : IsCaller e.kernel.guest c
  pub place : c.place ≡ e.place
  pub first : slice_get e.run_queue.ready 0 ≡ Some c.thread.no
  pub live : 1 ≤ times_live c.thread.no e.kernel.guest.threads

runner_by : (e : EngineFields) (c : Caller) (o : Option ThreadNo) → IsSound e
    → IsStrictlyIncreasing (map thread_number e.kernel.guest.threads)
    → on_turn e.exit e.run_queue.ready ≡ o → slice_get e.run_queue.ready 0 ≡ o → IsSome o
    → option_and_then (λ t. caller_of t e.kernel.guest.threads) o ≡ Some c → IsRunner e c
runner_by e c None sound rise on first some is = cc
runner_by e c (Some t) sound rise on first some is =
    let live : 1 ≤ times_live t e.kernel.guest.threads = live_first e.run_queue.ready e.kernel t sound.lively first in
    let found = caller_is t e.kernel.guest.threads nobody c live is in
    let same : c.thread.no ≡ t = ap (λ n. let u : ThreadNo = record { 0 = n } in u) found.1 in
    let here : number_at e.kernel.guest.threads c.place ≡ Some t.0
    = number_there e.kernel.guest.threads c.place c.thread found.0 ∙ ap (λ n. Some n) found.1 in
    record {
      caller = found.0;
      place = place_unique e.kernel.guest.threads c.place e.place t.0 rise here (sound.placed t on);
      first = first ∙ ap (λ u. Some u) (sym same);
      live = subst (λ (u : ThreadNo). 1 ≤ times_live u e.kernel.guest.threads) (sym same) live;
    }

pub on_first : (exit : Option ℕ) (ready : List ThreadNo) → IsSome (on_turn exit ready)
    → slice_get ready 0 ≡ on_turn exit ready
on_first None ready some = refl
on_first (Some code) ready some = cc

pub runner_is : (e : EngineFields) (c : Caller) → IsSound e → IsStrictlyIncreasing (map thread_number e.kernel.guest.threads)
    → IsSome (on_turn e.exit e.run_queue.ready) → runner (engine_of e) ≡ Some c → IsRunner e c
unfolding runner
runner_is e c sound rise some is =
    let first = on_first e.exit e.run_queue.ready some in
    runner_by e c (on_turn e.exit e.run_queue.ready) sound rise refl first some
    (ap (option_and_then (λ t. caller_of t e.kernel.guest.threads)) (sym first) ∙ is)

-- ---- a step of an instruction

pub advanced_retired : (e : EngineFields) (c : Caller) (answer : Stepped) (done : Done) (s : Kernel) (h : Option ℕ) (w' : Engine)
    → answer ≡ stepped.Retired done
    → IsExecuted c e.kernel.guest e.held answer s.guest h → s.waits ≡ e.kernel.waits
    → w' ≡ engine_after_step fate.Runs [] (engine_of (with_kernel e s h))
    → IsAdvanced c (engine_of e) answer w'
advanced_retired e c answer done s h w' is ran_it waits turn =
    let after = (step_of (hart_of (engine_of e) c)).after in
    let left : Leaves c e.kernel.guest e.held (stepped.Retired done) after s.guest h
    = subst (λ (a : Stepped). Leaves c e.kernel.guest e.held a after s.guest h) is ran_it.leaves in
    let same : engine_of (with_kernel e s h) ≡ with_instruction (engine_of e) c after =
    λ i. record { kernel = kernel_of (left.0 i) (waits i); held = left.1 i; run_queue = e.run_queue; exit = e.exit } in
    record {
      answer_is = ran_it.answer_is;
      leaves = subst (λ (a : Stepped). LeavesTurned c (engine_of e) a after w') (sym is)
          (turn ∙ ap (engine_after_step fate.Runs []) same);
    }

stays_whole : (e : EngineFields) (c : Caller) (answer : Stepped) (s : Kernel) (h : Option ℕ) (after : forms.HartState)
    → ((done : Done) → answer ≡ stepped.Retired done → ⊥) → s.waits ≡ e.kernel.waits
    → Leaves c e.kernel.guest e.held answer after s.guest h
    → LeavesTurned c (engine_of e) answer after (engine_of (with_kernel e s h))
stays_whole e c (stepped.Retired done) s h after differs waits left = absurd (differs done refl)
stays_whole e c stepped.Call s h after differs waits left = λ i. record {
  kernel = kernel_of (left.0 i) (waits i);
  held = left.1 i;
  run_queue = e.run_queue;
  exit = e.exit;
}
stays_whole e c (stepped.Trap signal) s h after differs waits left = λ i. record {
  kernel = kernel_of (left.0 i) (waits i);
  held = left.1 i;
  run_queue = e.run_queue;
  exit = e.exit;
}
stays_whole e c (stepped.Unknown word) s h after differs waits left = λ i. record {
  kernel = kernel_of (left.0 i) (waits i);
  held = left.1 i;
  run_queue = e.run_queue;
  exit = e.exit;
}

pub advanced_otherwise : (e : EngineFields) (c : Caller) (answer : Stepped) (s : Kernel) (h : Option ℕ)
    → ((done : Done) → answer ≡ stepped.Retired done → ⊥)
    → IsExecuted c e.kernel.guest e.held answer s.guest h → s.waits ≡ e.kernel.waits
    → IsAdvanced c (engine_of e) answer (engine_of (with_kernel e s h))
advanced_otherwise e c answer s h differs ran_it waits = record {
  answer_is = ran_it.answer_is;
  leaves = stays_whole e c answer s h _ differs waits ran_it.leaves;
}

-- ---- a call that leaves its turn going

goes_on_runs : (f : Fate) (line : RunQueue) → ends_turn f line ≡ false → (f ≡ fate.Runs) × ((line.steps_left == 1) ≡ false)
goes_on_runs fate.Runs line is = (refl, is)
goes_on_runs fate.Yields line is = cc
goes_on_runs fate.Leaves line is = cc

pub passed_goes_on : (f : Fate) (ts : List ThreadNo) (line : RunQueue) → ends_turn f line ≡ false
    → after_step f ts line ≡ goes_on (with_threads ts line)
passed_goes_on f ts line more =
    let runs = goes_on_runs f line more in
    ap (λ (g : Fate). after_step g ts line) runs.0 ∙ ran_goes_on (with_threads ts line) runs.1

pub sound_passed : (e : EngineFields) (f : Fate) (ts : List ThreadNo) (place : ℕ) → ends_turn f e.run_queue ≡ false
    → IsLively (after_step f ts e.run_queue).ready e.kernel
    → 1 ≤ e.run_queue.quantum → 1 ≤ e.run_queue.steps_left
    → ((t : ThreadNo) → on_turn e.exit (after_step f ts e.run_queue).ready ≡ Some t
    → number_at e.kernel.guest.threads place ≡ Some t.0)
    → IsSound (with_line e (after_step f ts e.run_queue) place)
sound_passed e f ts place more lively quantum left placed =
    let line : after_step f ts e.run_queue ≡ goes_on (with_threads ts e.run_queue) = passed_goes_on f ts e.run_queue more in
    record {
      lively = lively;
      quantum = subst (λ (l : RunQueue). 1 ≤ l.quantum) (sym line) quantum;
      steps_left =
          λ t on. subst (λ (l : RunQueue). 1 ≤ l.steps_left) (sym line)
          (left_below e.run_queue.steps_left left (goes_on_runs f e.run_queue more).1);
      placed = placed;
    }
