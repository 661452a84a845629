-- A command's work as a list of gates in their order. A gate is where the work may stop: the status with which it
-- stops, if it does, and what is put out there in either case.
use Rattle.std.specs.Prelude.{List, [], ◌∷◌, Option, Some, None}
use Rattle.outside.specs.Outside.{Output, and_then, nothing}
use Rattle.command_status.specs.declared.status.Status.{Status}

pub record Gate : Type 0 where
  pub stops : Option Status
  pub output : Output

-- a gate at which nothing is put out
abbrev pub check : Option Status → Gate
check stops = record { stops = stops; output = nothing }

-- the gates, and the status where none of them stops the work
pub record Work : Type 0 where
  pub gates : List Gate
  pub last : Status

-- a status, and all that was put out before it
pub record Outcome : Type 0 where
  pub status : Status
  pub output : Output

abbrev pub at_gate : Option Status → Output → Outcome → Outcome
at_gate (Some status) output after = record { status = status; output = output }
at_gate None output after = record { status = after.status; output = and_then output after.output }

-- The first gate that stops gives the status. What all gates up to it put out is put out, and nothing after it.
abbrev pub gates_outcome : List Gate → Status → Outcome
gates_outcome [] last = record { status = last; output = nothing }
gates_outcome (gate ∷ gates) last = at_gate gate.stops gate.output (gates_outcome gates last)

abbrev pub outcome : Work → Outcome
outcome work = gates_outcome work.gates work.last

-- the status of the first gate that stops
abbrev pub or_next : Option Status → Option Status → Option Status
or_next (Some status) next = Some status
or_next None next = next

abbrev pub first_stop : List Gate → Option Status
first_stop [] = None
first_stop (gate ∷ gates) = or_next gate.stops (first_stop gates)
