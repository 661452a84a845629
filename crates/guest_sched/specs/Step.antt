-- One step of the machine: a function from a machine to what the step tells and a machine, or to the end of the run.
use Rattle.std.specs.Prelude.{ℕ, ◌+◌, Bool, true, false, List, [], ◌++◌, slice_index, slice_set, Option, Some, None}
use Rattle.std.specs.Prelude.{Result, Ok, Err}
use Rattle.event_costs.specs.declared.numbers.ThreadNo.{ThreadNo}
use Rattle.event_costs.specs.declared.event.Regs.{Regs}
use Rattle.event_costs.specs.declared.event.Done.{Done}
use Rattle.event_costs.specs.declared.event.Event.{Event}
use Rattle.event_costs.specs.declared.event.Flow.TheVariants.{Plain}
use Rattle.event_costs.specs.declared.event.Touch.TheVariants as touch
use Rattle.event_costs.specs.declared.event.Branch.TheVariants as branch
use Rattle.event_costs.specs.declared.outcome.End.{End}
use Rattle.event_costs.specs.declared.outcome.End.TheVariants.{Exited, Killed, UnsupportedInstr, UnsupportedCall}
use Rattle.event_costs.specs.declared.outcome.End.TheVariants.{AllWaiting}
use Rattle.rv_step.specs.declared.stepped.Stepped.{Stepped}
use Rattle.rv_step.specs.declared.stepped.Stepped.TheVariants as stepped
use Rattle.rv_step.specs.Effects.{step_of}
use Rattle.rv_step.specs.Forms as forms
use Rattle.guest_load.specs.declared.thread.Thread.{Thread}
use Rattle.guest_load.specs.Guest.{Guest}
use Rattle.guest_sys.specs.Kernel.{Kernel, kernel_of}
use Rattle.guest_sys.specs.Laws.{spawned_by}
use Rattle.guest_sys.specs.CallRow.{call_row}
use Rattle.guest_sys.specs.declared.caller.Caller.{Caller}
use Rattle.guest_sys.specs.declared.effect.Act.{Act}
use Rattle.guest_sys.specs.declared.effect.Act.TheVariants as act
use Rattle.guest_sys.specs.declared.effect.Effect.{Effect}
use Rattle.guest_sched.specs.declared.turns.Fate.{Fate}
use Rattle.guest_sched.specs.declared.turns.Fate.TheVariants as fate
use Rattle.guest_sched.specs.Engine.{Engine, runner, engine_after_step}

-- what a step tells
pub record MachineStep : Type 0 where
  pub event : Event
  -- a descriptor, and the bytes that are output to it
  pub output : Option (ℕ × List ℕ)
  -- the address at which the event's thread began to wait
  pub wait : Option ℕ
  -- the threads that were woken, in order of waking
  pub woken : List ThreadNo
  -- how many threads have been made so far
  pub threads : ℕ

abbrev pub event_of : ThreadNo → Done → Bool → Event
event_of thread done ends = record { thread = thread; done = done; ends = ends }

-- the event's machine, and what the step tells beside it
abbrev pub tells : Event → Option (ℕ × List ℕ) → Option ℕ → List ThreadNo → Engine → Result (MachineStep × Engine) End
tells event output wait woken w =
    Ok (record { event = event; output = output; wait = wait; woken = woken; threads = w.kernel.guest.made }, w)

-- ---- an instruction

-- the guest with one step more
abbrev pub with_step_more : Guest → Guest
with_step_more g = record g { steps = g.steps + 1 }

abbrev pub with_regs : Thread → Regs → Thread
with_regs t regs = record t { regs = regs }

-- the guest after an instruction of a thread
abbrev pub guest_after : Guest → Caller → forms.HartState → Guest
guest_after g c after =
    with_step_more (record g { mem = after.memory; threads = slice_set g.threads c.place (with_regs c.thread after.regs) })

abbrev pub with_instruction : Engine → Caller → forms.HartState → Engine
with_instruction w c after = record w { kernel = kernel_of (guest_after w.kernel.guest c after) w.kernel.waits; held = after.held }

-- ---- a system call

-- its event: it goes on at the next instruction
abbrev pub call_done : Regs → Done
call_done regs = record {
  pc = regs.pc;
  next = forms.following regs;
  sp = slice_index regs.x 2;
  flow = Plain;
  touch = touch.Nothing;
  branch = branch.Nothing;
}

-- what becomes of the caller
abbrev pub fate_of : Act → Fate
fate_of act.Yield = fate.Yields
fate_of (act.Wait addr) = fate.Leaves
fate_of act.ThreadEnd = fate.Leaves
fate_of (act.ProcessEnd code) = fate.Leaves
fate_of _ = fate.Runs

abbrev pub ends_thread : Act → Bool
ends_thread act.ThreadEnd = true
ends_thread (act.ProcessEnd code) = true
ends_thread _ = false

abbrev pub exit_of : Act → Option ℕ
exit_of (act.ProcessEnd code) = Some code
exit_of _ = None

abbrev pub wait_of : Act → Option ℕ
wait_of (act.Wait addr) = Some addr
wait_of _ = None

abbrev pub output_of : Act → Option (ℕ × List ℕ)
output_of (act.Output descriptor bytes) = Some (descriptor, bytes)
output_of _ = None

abbrev pub signal_of : Act → Option ℕ
signal_of (act.Killed signal) = Some signal
signal_of _ = None

-- the machine after a call, before its turn
abbrev pub with_call : Engine → Act → Kernel → Engine
with_call w a s = record w { kernel = kernel_of (with_step_more s.guest) s.waits; exit = exit_of a }

-- a call retires unless it kills; the threads that it woke or made become ready
abbrev pub unless_killed : Option ℕ → Engine → Caller → Effect → Kernel → Result (MachineStep × Engine) End
unless_killed (Some signal) w c effect s = Err (Killed signal c.thread.regs.pc)
unless_killed None w c effect s =
    tells (event_of c.thread.no (call_done c.thread.regs) (ends_thread effect.act))
    (output_of effect.act) (wait_of effect.act) effect.woken
    (engine_after_step (fate_of effect.act) (effect.woken ++ spawned_by effect.act) (with_call w effect.act s))

abbrev pub by_row : Engine → Caller → Result (Effect × Kernel) ℕ → Result (MachineStep × Engine) End
by_row w c (Ok p) = unless_killed (signal_of p.0.act) w c p.0 p.1
by_row w c (Err number) = Err (UnsupportedCall c.thread.regs.pc number)

unfoldable pub call_step : Engine → Caller → Result (MachineStep × Engine) End
call_step w c = by_row w c (call_row w.kernel c.thread.no)

-- ---- a step

-- what follows from the answer of an instruction and the state that it leaves
abbrev pub by_answer : Engine → Caller → Stepped → forms.HartState → Result (MachineStep × Engine) End
by_answer w c (stepped.Retired done) after =
    tells (event_of c.thread.no done false) None None [] (engine_after_step fate.Runs [] (with_instruction w c after))
by_answer w c stepped.Call after = call_step w c
by_answer w c (stepped.Trap signal) after = Err (Killed signal c.thread.regs.pc)
by_answer w c (stepped.Unknown word) after = Err (UnsupportedInstr c.thread.regs.pc word)

-- the state in which a thread executes an instruction
abbrev pub hart_of : Engine → Caller → forms.HartState
hart_of w c = forms.hart_state c.thread.regs w.kernel.guest.mem w.held

-- where the guest has exited, or no thread is ready, the run is over
abbrev pub step_at : Engine → Option ℕ → Option Caller → Result (MachineStep × Engine) End
step_at w (Some code) c = Err (Exited code)
step_at w None None = Err AllWaiting
step_at w None (Some c) = by_answer w c (step_of (hart_of w c)).stepped (step_of (hart_of w c)).after

unfoldable pub step : Engine → Result (MachineStep × Engine) End
step w = step_at w w.exit (runner w)
