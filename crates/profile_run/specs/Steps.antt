-- The steps of a run, as its machine makes them.
use Rattle.std.specs.Prelude.{◌≡◌, ◌<◌, List, [], ◌∷◌, ◌++◌, length}
use Rattle.event_costs.specs.Runs.{Run}
use Rattle.guest_sched.specs.Machine.{Machine, machine_on, next}
use Rattle.guest_sched.specs.Step.{MachineStep}
use Rattle.part_dump.specs.Steps.{live}
use Rattle.shadow_stack.specs.Stacks.{most_frames}
use Rattle.profile_run.specs.Program.{Program}
use Rattle.profile_run.specs.Trace.{RunStep, run_step, start, steps_of}

-- the machine before the first step
abbrev pub first_machine : Program → Machine
first_machine guest = machine_on (start guest).0

-- A step is what the machine told, after these steps, and there was room for it: the budget wasn't spent, and a frame
-- more could be live.
pub record IsTold (guest : Program) (before : List RunStep) (outcome : MachineStep) (x : RunStep) : Type 0 where
  pub is : x ≡ run_step guest before outcome
  pub spare : length before < guest.options.budget
  pub room : live guest.syms (steps_of before) < most_frames

-- each of the steps that follow these is
abbrev pub AreTold : Program → List RunStep → List MachineStep → List RunStep → Type 0
AreTold guest before [] [] = Unit {0}
AreTold guest before [] (x ∷ xs) = ⊥
AreTold guest before (outcome ∷ more) [] = ⊥
AreTold guest before (outcome ∷ more) (x ∷ xs) = IsTold guest before outcome x × AreTold guest (before ++ x ∷ []) more xs

-- The steps are those that the machine tells of, from its first state on.
pub record AreOfMachine (guest : Program) (past : List RunStep) : Type 0 where
  pub tolds : List MachineStep
  pub last : Machine
  pub run : Run next (first_machine guest) tolds last
  pub are : AreTold guest [] tolds past
