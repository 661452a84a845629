-- The machine's step, from what its stages answer.
use Rattle.std.proofs.Common.{◌≡◌, ℕ, ◌≤◌, true, false, List, [], ◌∷◌, Option, Some, None, Result, Ok, Err, refl, sym, ◌∙◌, ap}
use Rattle.std.specs.List.{slice_get}
use Rattle.std.proofs.Common.{subst}
use Rattle.std.specs.Prelude.{IsSome}
use Rattle.std.specs.Option.{is_none, is_some, option_and_then, option_map}
use Rattle.event_costs.specs.declared.event.Done.{Done}
use Rattle.event_costs.specs.declared.event.Event.{Event}
use Rattle.event_costs.specs.declared.numbers.ThreadNo.{ThreadNo}
use Rattle.event_costs.specs.declared.outcome.End.{End}
use Rattle.event_costs.specs.declared.outcome.End.TheVariants.{Exited, Killed, UnsupportedInstr, AllWaiting}
use Rattle.rv_step.specs.declared.stepped.Stepped.{Stepped}
use Rattle.rv_step.specs.declared.stepped.Stepped.TheVariants as stepped
use Rattle.rv_step.specs.Effects.{step_of}
use Rattle.guest_load.specs.declared.thread.Thread.{Thread}
use Rattle.guest_sys.specs.Kernel.{times_live}
use Rattle.guest_sys.specs.CallRow.{caller_of}
use Rattle.guest_sys.specs.declared.caller.Caller.{Caller}
use Rattle.guest_sys.proofs.LiveLemmas.{caller_found, nobody}
use Rattle.guest_sched.specs.declared.engine.Engine.{Engine as EngineFields}
use Rattle.guest_sched.specs.Engine.{Engine, runner}
use Rattle.guest_sched.specs.Step.{MachineStep, by_answer, call_step, event_of, hart_of, step, tells, step_at}
use Rattle.guest_sched.specs.declared.turns.Halt.{Halt}
use Rattle.guest_sched.specs.declared.turns.Halt.TheVariants as halt
use Rattle.guest_sched.specs.Machine.{halt_by, halt_of}
use Rattle.guest_sched.specs.Machine.{Machine, ended, with_machine, next, or_known_end, known_end, running, running_unless, machine_step, unless_given}
use Rattle.guest_sched.specs.inner.Sound.{IsSound, on_turn, engine_of}
use Rattle.guest_sched.specs.inner.Stages.{IsAdvanced, LeavesTurned}
use Rattle.guest_sched.proofs.EngineLemmas.{on_first}
use Rattle.guest_sched.proofs.TurnLemmas.{live_first}

-- ---- ends

pub first_none : (ready : List ThreadNo) → is_none (slice_get ready 0) ≡ true → slice_get ready 0 ≡ None
first_none [] is = refl
first_none (t ∷ ts) is = cc

pub first_some : (ready : List ThreadNo) → is_none (slice_get ready 0) ≡ false → (t : ThreadNo) × (slice_get ready 0 ≡ Some t)
first_some [] is = absurd (differ is)
  where
    differ : true ≡ false → ⊥
    differ e = cc
first_some (t ∷ ts) is = (t, refl)

pub ended_given : (m : Machine) (end : End) → m.given ≡ Some end → ended m ≡ Some end
unfolding ended
ended_given m end is = ap (λ (o : Option End). or_known_end o m.engine) is

pub ended_over : (m : Machine) → m.given ≡ None → ended m ≡ known_end m.engine.exit (slice_get m.engine.run_queue.ready 0)
unfolding ended
ended_over m is = ap (λ (o : Option End). or_known_end o m.engine) is

over_step : (w : Engine) (end : End) (exit : Option ℕ) (first : Option ThreadNo) → w.exit ≡ exit
    → slice_get w.run_queue.ready 0 ≡ first → known_end exit first ≡ Some end → step w ≡ Err end
unfolding step runner
over_step w end (Some code) first exits is e =
    ap (λ (o : Option ℕ). step_at w o (runner w)) exits ∙ (λ i. Err (same i))
  where
    same : Exited code ≡ end
    same = cc
over_step w end None None exits is e =
    ap (λ (o : Option ℕ). step_at w o (runner w)) exits
    ∙ ap (λ (o : Option ThreadNo). step_at w None (option_and_then (λ t. caller_of t w.kernel.guest.threads) o)) is
    ∙ (λ i. Err (same i))
  where
    same : AllWaiting ≡ end
    same = cc
over_step w end None (Some t) exits is e = cc

next_by : (m : Machine) (end : End) (given : Option End) → m.given ≡ given → or_known_end given m.engine ≡ Some end
    → next m ≡ Err end
unfolding next
next_by m end (Some other) is e = ap (λ (o : Option End). unless_given o (with_machine (step m.engine))) is ∙ (λ i. Err (same i))
  where
    same : other ≡ end
    same = cc
next_by m end None is e =
    ap (λ (o : Option End). unless_given o (with_machine (step m.engine))) is
    ∙ ap with_machine (over_step m.engine end m.engine.exit (slice_get m.engine.run_queue.ready 0) refl refl e)

-- an end that is known is given
pub next_ended : (m : Machine) (end : End) → ended m ≡ Some end → next m ≡ Err end
unfolding ended
next_ended m end is = next_by m end m.given refl is

-- ---- a machine that runs

pub record Runs (m : Machine) : Type 0 where
  pub given : m.given ≡ None
  pub exit : m.engine.exit ≡ None
  pub turn : IsSome (on_turn m.engine.exit m.engine.run_queue.ready)

runs_over : (exit : Option ℕ) (ready : List ThreadNo) → known_end exit (slice_get ready 0) ≡ None
    → (exit ≡ None) × (IsSome (on_turn exit ready))
runs_over (Some code) ready is = cc
runs_over None [] is = cc
runs_over None (t ∷ ts) is = (refl, refl)

runs_by : (m : Machine) (given : Option End) → m.given ≡ given → or_known_end given m.engine ≡ None → Runs m
runs_by m (Some end) is e = cc
runs_by m None is e =
    let all = runs_over m.engine.exit m.engine.run_queue.ready e in
    record { given = is; exit = all.0; turn = all.1 }

pub runs_is : (m : Machine) → ended m ≡ None → Runs m
unfolding ended
runs_is m is = runs_by m m.given refl is

some_is : (o : Option ThreadNo) → IsSome o → (t : ThreadNo) × (o ≡ Some t)
some_is None some = cc
some_is (Some t) some = (t, refl)

-- there is a running thread
pub runner_found : (e : EngineFields) → IsSound e → IsSome (on_turn e.exit e.run_queue.ready)
    → (c : Caller) × (runner (engine_of e) ≡ Some c)
unfolding runner
runner_found e sound some =
    let on = some_is (on_turn e.exit e.run_queue.ready) some in
    let first = on_first e.exit e.run_queue.ready some ∙ on.1 in
    let live : 1 ≤ times_live on.0 e.kernel.guest.threads
    = live_first e.run_queue.ready e.kernel on.0 sound.lively first in
    let found = caller_found on.0 e.kernel.guest.threads nobody live in
    (found.0, ap (option_and_then (λ t. caller_of t e.kernel.guest.threads)) first ∙ found.1)

-- the step of a thread
abbrev thread_step : Engine → Caller → Result (MachineStep × Engine) End
thread_step w c = by_answer w c (step_of (hart_of w c)).stepped (step_of (hart_of w c)).after

pub next_runs : (m : Machine) (c : Caller) → Runs m → runner m.engine ≡ Some c → next m ≡ with_machine (thread_step m.engine c)
unfolding next step
next_runs m c runs is =
    ap (λ (o : Option End). unless_given o (with_machine (step m.engine))) runs.given
    ∙ ap (λ (o : Option ℕ). with_machine (step_at m.engine o (runner m.engine))) runs.exit
    ∙ ap (λ (o : Option Caller). with_machine (step_at m.engine None o)) is

-- what the step is, by the answer of its instruction
pub step_by : (w : Engine) (c : Caller) (answer given : Stepped) (w' : Engine) → IsAdvanced c w answer w' → answer ≡ given
    → thread_step w c ≡ by_answer w c given (step_of (hart_of w c)).after
step_by w c answer given w' advanced is =
    ap (λ (a : Stepped). by_answer w c a (step_of (hart_of w c)).after) (sym advanced.answer_is ∙ is)

pub left_by : (w : Engine) (c : Caller) (answer given : Stepped) (w' : Engine) → IsAdvanced c w answer w' → answer ≡ given
    → LeavesTurned c w given (step_of (hart_of w c)).after w'
left_by w c answer given w' advanced is =
    subst (λ (a : Stepped). LeavesTurned c w a (step_of (hart_of w c)).after w') is advanced.leaves

-- ---- what the code answers

abbrev pub seen_with : Engine → Option End → Option ℕ → List ThreadNo → Machine
seen_with w given wait woken = record { engine = w; given = given; wait = wait; woken = woken }

pub turn_retired : (m : Machine) (c : Caller) (answer : Stepped) (done : Done) (w' : Engine) (new : Machine)
    (thread : ThreadNo) → Runs m → runner m.engine ≡ Some c
    → IsAdvanced c m.engine answer w' → answer ≡ stepped.Retired done → thread ≡ c.thread.no
    → new ≡ seen_with w' m.given None []
    → next m ≡ Ok (machine_step (event_of thread done false) None new, new)
turn_retired m c answer done w' new thread runs is advanced retired same left =
    next_runs m c runs is
    ∙ ap with_machine (step_by m.engine c answer (stepped.Retired done) w' advanced retired)
    ∙ (λ i. Ok (
      machine_step (event_of (sym same i) done false) None
          (seen_with (sym (left_by m.engine c answer (stepped.Retired done) w' advanced retired) i)
          (sym runs.given i) None []),
      seen_with (sym (left_by m.engine c answer (stepped.Retired done) w' advanced retired) i)
          (sym runs.given i) None [],
    ))
    ∙ ap (λ (n : Machine). Ok (machine_step (event_of thread done false) None n, n)) (sym left)

pub turn_trap : (m : Machine) (c : Caller) (answer : Stepped) (signal : ℕ) (w' : Engine) (pc : ℕ) → Runs m
    → runner m.engine ≡ Some c
    → IsAdvanced c m.engine answer w' → answer ≡ stepped.Trap signal → pc ≡ c.thread.regs.pc
    → next m ≡ Err (Killed signal pc)
turn_trap m c answer signal w' pc runs is advanced trap at =
    next_runs m c runs is ∙ ap with_machine (step_by m.engine c answer (stepped.Trap signal) w' advanced trap)
    ∙ (λ i. Err (Killed signal (sym at i)))

pub turn_unknown : (m : Machine) (c : Caller) (answer : Stepped) (word : ℕ) (w' : Engine) (pc : ℕ) → Runs m
    → runner m.engine ≡ Some c
    → IsAdvanced c m.engine answer w' → answer ≡ stepped.Unknown word → pc ≡ c.thread.regs.pc
    → next m ≡ Err (UnsupportedInstr pc word)
turn_unknown m c answer word w' pc runs is advanced unknown at =
    next_runs m c runs is ∙ ap with_machine (step_by m.engine c answer (stepped.Unknown word) w' advanced unknown)
    ∙ (λ i. Err (UnsupportedInstr (sym at i) word))

pub turn_call : (m : Machine) (c : Caller) (answer : Stepped) (w' : Engine) → Runs m → runner m.engine ≡ Some c
    → IsAdvanced c m.engine answer w' → answer ≡ stepped.Call → next m ≡ with_machine (call_step m.engine c)
turn_call m c answer w' runs is advanced call = next_runs m c runs is
    ∙ ap with_machine (step_by m.engine c answer stepped.Call w' advanced call)

-- ---- an instruction that doesn't retire

pub halts : (m : Machine) (c : Caller) (answer given : Stepped) (w' : Engine) → runner m.engine ≡ Some c
    → IsAdvanced c m.engine answer w' → answer ≡ given → halt_of m ≡ halt_by given
unfolding halt_of
halts m c answer given w' is advanced same =
    ap (option_and_then (λ (d : Caller). halt_by (step_of (hart_of m.engine d)).stepped)) is
    ∙ ap halt_by (sym advanced.answer_is ∙ same)

halt_at : (m : Machine) (c : Caller) (h : Halt) → runner m.engine ≡ Some c → halt_of m ≡ Some h
    → halt_by (step_of (hart_of m.engine c)).stepped ≡ Some h
unfolding halt_of
halt_at m c h is halted =
    sym (ap (option_and_then (λ (d : Caller). halt_by (step_of (hart_of m.engine d)).stepped)) is) ∙ halted

abbrev pub answer_of : Halt → Stepped
answer_of halt.Ecall = stepped.Call
answer_of (halt.Trap signal) = stepped.Trap signal
answer_of (halt.Unknown word) = stepped.Unknown word

same_halt : (h k : Halt) → Some h ≡ Some k → h ≡ k
same_halt h k e = cc

by_halt : (s : Stepped) (h : Halt) → halt_by s ≡ Some h → answer_of h ≡ s
by_halt (stepped.Retired done) h e = absurd (differ e)
  where
    differ : None ≡ Some h → ⊥
    differ f = cc
by_halt stepped.Call h e = ap answer_of (sym (same_halt halt.Ecall h e))
by_halt (stepped.Trap signal) h e = ap answer_of (sym (same_halt (halt.Trap signal) h e))
by_halt (stepped.Unknown word) h e = ap answer_of (sym (same_halt (halt.Unknown word) h e))

left_same : (w : Engine) (c : Caller) (h : Halt) → LeavesTurned c w (answer_of h) (step_of (hart_of w c)).after w
left_same w c halt.Ecall = refl
left_same w c (halt.Trap signal) = refl
left_same w c (halt.Unknown word) = refl

-- it leaves the machine as it was
pub stays : (m : Machine) (c : Caller) (h : Halt) → runner m.engine ≡ Some c → halt_of m ≡ Some h
    → IsAdvanced c m.engine (answer_of h) m.engine
stays m c h is halted = record {
  answer_is = by_halt (step_of (hart_of m.engine c)).stepped h (halt_at m c h is halted);
  leaves = left_same m.engine c h;
}

-- what a system call leaves, as the machine keeps it
pub turn_called : (event : Event) (o p : Option (ℕ × List ℕ)) (wait now : Option ℕ) (woken : List ThreadNo) (w : Engine)
    (given : Option End) → o ≡ p → wait ≡ now → given ≡ None
    → with_machine (tells event o wait woken w) ≡ Ok (machine_step event p (seen_with w given now woken), seen_with w given now woken)
turn_called event o p wait now woken w given output waits none =
    λ i. Ok (machine_step event (output i) (seen_with w (sym none i) (waits i) woken), seen_with w (sym none i) (waits i) woken)

-- ---- the running thread

pub running_over : (m : Machine) (o : Option End) → ended m ≡ o → is_some o ≡ true → None ≡ running m
unfolding running
running_over m None is some = cc
running_over m (Some end) is some = sym (ap (λ (e : Option End). running_unless e m.engine) is)

pub none_is : (o : Option End) → is_some o ≡ false → o ≡ None
none_is None is = refl
none_is (Some end) is = cc

pub running_is : (m : Machine) (c : Caller) (t : Thread) → ended m ≡ None → runner m.engine ≡ Some c → t ≡ c.thread
    → Some (t.no, t.regs.pc) ≡ running m
unfolding running
running_is m c t known_end is same =
    ap (λ (u : Thread). Some (u.no, u.regs.pc)) same
    ∙ sym (ap (λ (e : Option End). running_unless e m.engine) known_end
    ∙ ap (option_map (λ (d : Caller). (d.thread.no, d.thread.regs.pc))) is)
