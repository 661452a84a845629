-- How a profiled run of the demonstration ends.
use Rattle.std.specs.Prelude.{◌≡◌, ℕ, ◌≤◌, ◌⊎◌, List, length, None}
use Rattle.event_costs.specs.declared.outcome.End.TheVariants.{Exited, Frames}
use Rattle.profile_run.specs.Trace.{RunStep, Stop}
use Rattle.demo_run.specs.Steps.{demo_steps}

-- it has exited with the status 0 after so many steps, or as many frames are open as may be
abbrev pub ExitsOrNests : ℕ → List RunStep → Stop → Type 0
ExitsOrNests steps trace stop = ((stop ≡ record { end = Exited 0; tried = None }) × (length trace ≡ steps))
    ⊎ (stop ≡ record { end = Frames; tried = None })

-- The machine makes so many steps; and so the run ends, where it may make as many.
pub record EndsInTime (size budget : ℕ) (trace : List RunStep) (stop : Stop) : Type 0 where
  pub waits : ℕ
  pub few : waits ≤ 3
  pub ends : demo_steps size waits ≤ budget → ExitsOrNests (demo_steps size waits) trace stop
