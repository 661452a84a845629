-- That the machine of the demonstration exits.
use Rattle.std.specs.Prelude.{◌≡◌, ℕ, ◌≤◌, List, length}
use Rattle.event_costs.specs.Runs.{IsTrace}
use Rattle.event_costs.specs.declared.outcome.End.TheVariants.{Exited}
use Rattle.guest_sched.specs.Machine.{Machine, next}
use Rattle.guest_sched.specs.Step.{MachineStep}
use Rattle.demo_run.specs.Steps.{demo_steps}

-- The machine's longest run has so many steps, and then it has exited with the status 0. (It has 9 steps more for each
-- of the three further threads that main finds still alive, and waits for.)
pub record ExitsInTime (size : ℕ) (m : Machine) : Type 0 where
  pub waits : ℕ
  pub few : waits ≤ 3
  pub trace : List MachineStep
  pub is : IsTrace next m trace (Exited 0)
  pub long : length trace ≡ demo_steps size waits
