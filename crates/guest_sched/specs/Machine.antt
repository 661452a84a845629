-- A machine as contracts see it: the machine, the end that was given, and what the last step did to those that wait.
use Rattle.std.specs.Prelude.{◌≡◌, ℕ, List, [], slice_get, Option, Some, None, Result, Ok, Err}
use Rattle.std.specs.Option.{option_and_then, option_map}
use Rattle.byte_text.specs.declared.memory.OutOfMemory.{OutOfMemory}
use Rattle.event_costs.specs.declared.numbers.ThreadNo.{ThreadNo}
use Rattle.event_costs.specs.declared.event.Event.{Event}
use Rattle.event_costs.specs.declared.outcome.End.{End}
use Rattle.event_costs.specs.declared.outcome.End.TheVariants.{Exited, AllWaiting}
use Rattle.rv_step.specs.declared.stepped.Stepped.{Stepped}
use Rattle.rv_step.specs.declared.stepped.Stepped.TheVariants as stepped
use Rattle.rv_step.specs.Effects.{step_of}
use Rattle.guest_load.specs.Guest.{Guest}
use Rattle.guest_sys.specs.Taking.{CallTakes}
use Rattle.guest_sched.specs.declared.turns.Halt.{Halt}
use Rattle.guest_sched.specs.declared.turns.Halt.TheVariants as halt
use Rattle.guest_sched.specs.declared.turns.Turn.{Turn}
use Rattle.guest_sched.specs.declared.turns.Turn.TheVariants.{Retired, RetiredOutput, Ended}
use Rattle.guest_sched.specs.Engine.{Engine, first_engine, runner}
use Rattle.guest_sched.specs.Step.{MachineStep, hart_of, step}

pub record Machine : Type 0 where
  pub engine : Engine
  -- the end that the last step gave
  pub given : Option End
  -- where the thread of the last retired step began to wait in it
  pub wait : Option ℕ
  -- the threads that it woke, in order of waking
  pub woken : List ThreadNo

abbrev pub machine_on : Engine → Machine
machine_on w = record { engine = w; given = None; wait = None; woken = [] }

-- the first machine of a guest
abbrev pub new_machine : Guest → ℕ → Option ℕ → Machine
new_machine guest quantum seed = machine_on (first_engine guest quantum seed)

-- ---- ends that are known before an instruction is tried

abbrev pub known_end : Option ℕ → Option ThreadNo → Option End
known_end (Some code) first = Some (Exited code)
known_end None None = Some AllWaiting
known_end None (Some thread) = None

abbrev pub or_known_end : Option End → Engine → Option End
or_known_end (Some end) w = Some end
or_known_end None w = known_end w.exit (slice_get w.run_queue.ready 0)

-- the end that was given; else that of an exit, or where no thread is ready
unfoldable pub ended : Machine → Option End
ended m = or_known_end m.given m.engine

abbrev pub running_unless : Option End → Engine → Option (ThreadNo × ℕ)
running_unless (Some end) w = None
running_unless None w = option_map (λ c. (c.thread.no, c.thread.regs.pc)) (runner w)

-- the running thread and its pc, where the run isn't over
unfoldable pub running : Machine → Option (ThreadNo × ℕ)
running m = running_unless (ended m) m.engine

-- ---- the next step

abbrev pub with_machine : Result (MachineStep × Engine) End → Result (MachineStep × Machine) End
with_machine (Ok p) = Ok (p.0, record { engine = p.1; given = None; wait = p.0.wait; woken = p.0.woken })
with_machine (Err end) = Err end

abbrev pub unless_given : Option End → Result (MachineStep × Machine) End → Result (MachineStep × Machine) End
unless_given None r = r
unless_given (Some end) r = Err end

-- a step, or the end that was given before
unfoldable pub next : Machine → Result (MachineStep × Machine) End
next m = unless_given m.given (with_machine (step m.engine))

-- why an instruction with this answer doesn't retire, if it doesn't
abbrev pub halt_by : Stepped → Option Halt
halt_by (stepped.Retired done) = None
halt_by stepped.Call = Some halt.Ecall
halt_by (stepped.Trap signal) = Some (halt.Trap signal)
halt_by (stepped.Unknown word) = Some (halt.Unknown word)

-- why that of the running thread doesn't
unfoldable pub halt_of : Machine → Option Halt
halt_of m = option_and_then (λ c. halt_by (step_of (hart_of m.engine c)).stepped) (runner m.engine)

-- ---- what the code answers

-- what a machine tells of its last step, whose event and output these are
abbrev pub machine_step : Event → Option (ℕ × List ℕ) → Machine → MachineStep
machine_step event output m =
    record { event = event; output = output; wait = m.wait; woken = m.woken; threads = m.engine.kernel.guest.made }

abbrev pub with_given : End → Machine → Machine
with_given end m = record m { given = Some end }

-- its running thread stands at a system call that takes memory
abbrev pub TakesMemory : Machine → Type 0
TakesMemory m = (halt_of m ≡ Some halt.Ecall) × CallTakes m.engine.kernel (runner m.engine)

-- The answer is the machine's next step, and the machine is the one after it. At an end it is as it was, beside the end
-- that was given. Where memory was refused it is as it was, and the step takes some.
abbrev pub IsTurn : Result (MachineStep × Machine) End → Machine → Result Turn OutOfMemory → Machine → Type 0
IsTurn step old (Ok (Retired event)) new = step ≡ Ok (machine_step event None new, new)
IsTurn step old (Ok (RetiredOutput event descriptor bytes)) new =
    step ≡ Ok (machine_step event (Some (descriptor, bytes)) new, new)
IsTurn step old (Ok (Ended end)) new = (step ≡ Err end) × (new ≡ with_given end old)
IsTurn step old (Err error) new = (new ≡ old) × TakesMemory old
