-- What the stages of a step answer and leave.
use Rattle.std.specs.Prelude.{◌≡◌, ℕ, [], Option, Result, Ok, Err}
use Rattle.byte_text.specs.declared.memory.OutOfMemory.{OutOfMemory}
use Rattle.event_costs.specs.declared.outcome.End.{End}
use Rattle.rv_step.specs.declared.stepped.Stepped.{Stepped}
use Rattle.rv_step.specs.declared.stepped.Stepped.TheVariants as stepped
use Rattle.rv_step.specs.Effects.{step_of}
use Rattle.rv_step.specs.Forms as forms
use Rattle.guest_load.specs.Guest.{Guest}
use Rattle.guest_sys.specs.Taking.{CallTakes}
use Rattle.guest_sys.specs.declared.caller.Caller.{Caller}
use Rattle.guest_sched.specs.declared.turns.Fate.TheVariants as fate
use Rattle.guest_sched.specs.declared.engine.CallOutcome.{CallOutcome}
use Rattle.guest_sched.specs.declared.engine.CallOutcome.TheVariants as called
use Rattle.guest_sched.specs.Engine.{Engine, runner, engine_after_step}
use Rattle.guest_sched.specs.Step.{MachineStep, guest_after, with_instruction, hart_of, tells, output_of, wait_of}

-- what an instruction leaves of the guest and the reservation
abbrev pub Leaves : Caller → Guest → Option ℕ → Stepped → forms.HartState → Guest → Option ℕ → Type 0
Leaves c g h (stepped.Retired done) after g' h' = (g' ≡ guest_after g c after) × (h' ≡ after.held)
Leaves c g h stepped.Call after g' h' = (g' ≡ g) × (h' ≡ h)
Leaves c g h (stepped.Trap signal) after g' h' = (g' ≡ g) × (h' ≡ h)
Leaves c g h (stepped.Unknown word) after g' h' = (g' ≡ g) × (h' ≡ h)

-- a caller's instruction: its answer, and what it leaves
pub record IsExecuted (c : Caller) (g : Guest) (h : Option ℕ) (answer : Stepped) (g' : Guest)
    (h' : Option ℕ) : Type 0 where
  pub answer_is : answer ≡ (step_of (forms.hart_state c.thread.regs g.mem h)).stepped
  pub leaves : Leaves c g h answer (step_of (forms.hart_state c.thread.regs g.mem h)).after g' h'

-- the same over the machine, with the turn
abbrev pub LeavesTurned : Caller → Engine → Stepped → forms.HartState → Engine → Type 0
LeavesTurned c w (stepped.Retired done) after w' = w' ≡ engine_after_step fate.Runs [] (with_instruction w c after)
LeavesTurned c w stepped.Call after w' = w' ≡ w
LeavesTurned c w (stepped.Trap signal) after w' = w' ≡ w
LeavesTurned c w (stepped.Unknown word) after w' = w' ≡ w

pub record IsAdvanced (c : Caller) (w : Engine) (answer : Stepped) (w' : Engine) : Type 0 where
  pub answer_is : answer ≡ (step_of (hart_of w c)).stepped
  pub leaves : LeavesTurned c w answer (step_of (hart_of w c)).after w'

-- a system call's step, its answer and the machine that it leaves
abbrev pub IsCallOutcome : Result (MachineStep × Engine) End → Engine → Result CallOutcome OutOfMemory → Engine → Type 0
IsCallOutcome step old (Ok (called.Retired event effect)) new =
    step ≡ tells event (output_of effect.act) (wait_of effect.act) effect.woken new
IsCallOutcome step old (Ok (called.Refused end)) new = (step ≡ Err end) × (new ≡ old)
IsCallOutcome step old (Err error) new = (new ≡ old) × CallTakes old.kernel (runner old)
