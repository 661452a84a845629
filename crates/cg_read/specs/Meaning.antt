-- What a line means after the lines before it. A history is a list of lines, the newest first, and what a line looks
-- back to is the last line of some kind in the history before it.
use Rattle.std.specs.Prelude.{ℕ, ◌-◌, not, ◌&&◌, nat_le, if◌then◌else◌, List, [], ◌∷◌, ◌++◌, length, map}
use Rattle.std.specs.Prelude.{replicate, Option, None, Some, is_some, option_map, unwrap_or}
use Rattle.std.specs.List.{list_all}
use Rattle.std.specs.Str.{bytes_eq}
use Rattle.cg_lines.specs.Lines.{words}
use Rattle.cg_lines.specs.Names.{is_distinct, same_names}
use Rattle.cg_lines.specs.Numbers.{number_of, value_of}
use Rattle.cg_lines.specs.Positions.{position_at, positions_fault}
pub use Rattle.cg_positions.specs.Positions.{position}
use Rattle.cg_lines.specs.Shapes.{follows_call}
use Rattle.cg_read.specs.Profiles.{most_events, unknown, unknown_function, NamedSelf, NamedCall}
use Rattle.cg_read.specs.declared.rows.FuncKey.{FuncKey}
use Rattle.cg_lines.specs.declared.number.Number.{Number}
use Rattle.cg_lines.specs.declared.number.Number.TheVariants.{Fits, TooLarge}
use Rattle.cg_lines.specs.declared.sub_position.SubPosition.{SubPosition}
use Rattle.cg_lines.specs.declared.name.Name.{Name}
use Rattle.cg_lines.specs.declared.name.Name.TheVariants.{Plain, Id, Named}
use Rattle.cg_lines.specs.declared.line.Line.{Line}
use Rattle.cg_lines.specs.declared.line.Line.TheVariants.{Blank, Header, Command, Events, Positions, Object, File}
use Rattle.cg_lines.specs.declared.line.Line.TheVariants.{Function, CalleeObject, CalleeFile, Callee, Calls, BadCalls}
use Rattle.cg_lines.specs.declared.line.Line.TheVariants.{Cost, BadCost, Jump, Bad}
use Rattle.cg_lines.specs.declared.fault.Fault.{Fault}
use Rattle.cg_lines.specs.declared.fault.Fault.TheVariants.{BadLine, NoEvents, Jumps, UnknownId, BadNumber}

-- Names

-- the text that a name stands for, where the ids stand for these texts
abbrev pub text_of : (List ℕ → Option (List ℕ)) → Name → Option (List ℕ)
text_of ids (Plain text) = Some text
text_of ids (Id id) = ids id
text_of ids (Named id text) = Some text

-- what the ids stand for after a line with this name
abbrev pub ids_after : (List ℕ → Option (List ℕ)) → Name → List ℕ → Option (List ℕ)
ids_after ids (Plain text) q = ids q
ids_after ids (Id id) q = ids q
ids_after ids (Named id text) q = if bytes_eq id q then Some text else ids q

-- an id stands for its last definition; objects, files and functions have ids of their own
abbrev pub object_ids : List Line → List ℕ → Option (List ℕ)
object_ids [] q = None
object_ids (Object name ∷ before) q = ids_after (object_ids before) name q
object_ids (CalleeObject name ∷ before) q = ids_after (object_ids before) name q
object_ids (_ ∷ before) q = object_ids before q

abbrev pub file_ids : List Line → List ℕ → Option (List ℕ)
file_ids [] q = None
file_ids (File name ∷ before) q = ids_after (file_ids before) name q
file_ids (CalleeFile name ∷ before) q = ids_after (file_ids before) name q
file_ids (_ ∷ before) q = file_ids before q

abbrev pub function_ids : List Line → List ℕ → Option (List ℕ)
function_ids [] q = None
function_ids (Function name ∷ before) q = ids_after (function_ids before) name q
function_ids (Callee name ∷ before) q = ids_after (function_ids before) name q
function_ids (_ ∷ before) q = function_ids before q

-- The lines that a line looks back to

-- the names of the events
abbrev pub events : List Line → Option (List (List ℕ))
events [] = None
events (Events text ∷ before) = Some (words text)
events (_ ∷ before) = events before

-- the first command
abbrev pub command : List Line → Option (List ℕ)
command [] = None
command (Command text ∷ before) = Some (unwrap_or (command before) text)
command (_ ∷ before) = command before

-- the object of the last object line
abbrev pub current_object : List Line → List ℕ
current_object [] = []
current_object (Object name ∷ before) = unwrap_or (text_of (object_ids before) name) []
current_object (_ ∷ before) = current_object before

-- the file of the last file line
abbrev pub current_file : List Line → List ℕ
current_file [] = unknown
current_file (File name ∷ before) = unwrap_or (text_of (file_ids before) name) unknown
current_file (_ ∷ before) = current_file before

-- the function of the last function line, with the object and the file that were current there
abbrev pub current_function : List Line → FuncKey
current_function [] = unknown_function
current_function (Function name ∷ before) = record {
  object = current_object before;
  file = current_file before;
  name = unwrap_or (text_of (function_ids before) name) unknown;
}
current_function (_ ∷ before) = current_function before

-- the callee's object, file and name, where they were given since the last call
abbrev pub callee_object : List Line → Option (List ℕ)
callee_object [] = None
callee_object (CalleeObject name ∷ before) = text_of (object_ids before) name
callee_object (Calls n place ∷ before) = None
callee_object (_ ∷ before) = callee_object before

abbrev pub callee_file : List Line → Option (List ℕ)
callee_file [] = None
callee_file (CalleeFile name ∷ before) = text_of (file_ids before) name
callee_file (Calls n place ∷ before) = None
callee_file (_ ∷ before) = callee_file before

abbrev pub callee_name : List Line → Option (List ℕ)
callee_name [] = None
callee_name (Callee name ∷ before) = text_of (function_ids before) name
callee_name (Calls n place ∷ before) = None
callee_name (_ ∷ before) = callee_name before

-- the callee, by default of the current object and file
abbrev pub callee : List Line → FuncKey
callee before = record {
  object = unwrap_or (callee_object before) (current_object before);
  file = unwrap_or (callee_file before) (current_file before);
  name = unwrap_or (callee_name before) unknown;
}

-- a call, and how often it was made
pub record Call : Type 0 where
  pub callee : FuncKey
  pub calls : ℕ

-- the call whose cost line has to come next: the last line that carries something is that call
abbrev pub open_call : List Line → Option Call
open_call [] = None
open_call (Blank ∷ before) = open_call before
open_call (Calls n place ∷ before) = Some (record { callee = callee before; calls = unwrap_or (value_of n) 0 })
open_call (_ ∷ before) = None

-- the values of numbers, where all are numbers and in range
abbrev pub values : List (Option Number) → Option (List ℕ)
values [] = Some []
values (Some (Fits n) ∷ numbers) = option_map (λ ns. n ∷ ns) (values numbers)
values (Some TooLarge ∷ numbers) = None
values (None ∷ numbers) = None

-- the numbers of a cost line
abbrev pub numbers : List ℕ → List (Option Number)
numbers costs = map number_of (words costs)

-- missing costs are 0
abbrev pub padded : ℕ → List ℕ → List ℕ
padded n xs = xs ++ replicate (n - length xs) 0

abbrev pub event_count : List Line → ℕ
event_count before = length (unwrap_or (events before) [])

abbrev pub cost_of : List Line → List ℕ → List ℕ
cost_of before costs = padded (event_count before) (unwrap_or (values (numbers costs)) [])

-- Faults: the shape first, then ids, then values

-- 1 to 64 names that differ, and later ones are the first ones
abbrev pub events_fault : Option (List (List ℕ)) → List (List ℕ) → Option Fault
events_fault None names =
    if nat_le 1 (length names) && nat_le (length names) most_events && is_distinct names then None else Some BadLine
events_fault (Some first) names = if same_names first names then None else Some BadLine

abbrev pub id_fault : Option (List ℕ) → Option Fault
id_fault None = Some UnknownId
id_fault (Some text) = None

-- without events, whatever else is wrong in the line
abbrev pub shape_fault : Option (List (List ℕ)) → Option Fault
shape_fault None = Some NoEvents
shape_fault (Some names) = Some BadLine

abbrev pub number_fault : {X : Type 0} → Option X → Option Fault
number_fault None = Some BadNumber
number_fault (Some n) = None

abbrev pub or_else : {X : Type 0} → Option X → Option X → Option X
or_else (Some f) g = Some f
or_else None g = g

-- a callee has to stand since the last call
abbrev pub calls_fault : Option (List (List ℕ)) → Option (List ℕ) → Number → Option ℕ → Option Fault
calls_fault None name n place = Some NoEvents
calls_fault (Some names) None n place = Some BadLine
calls_fault (Some names) (Some name) n place = or_else (number_fault (value_of n)) (number_fault place)

-- at most n costs
abbrev pub numbers_fault : ℕ → List (Option Number) → Option Fault
numbers_fault n costs =
    if list_all is_some costs && nat_le (length costs) n then number_fault (values costs) else Some BadLine

-- at most as many costs as events
abbrev pub cost_fault : Option (List (List ℕ)) → Option ℕ → List (Option Number) → Option Fault
cost_fault None place costs = Some NoEvents
cost_fault (Some names) place costs = or_else (numbers_fault (length names) costs) (number_fault place)

abbrev pub fault_alone : List Line → Line → Option Fault
fault_alone before Blank = None
fault_alone before Header = None
fault_alone before (Command text) = None
fault_alone before (Events text) = events_fault (events before) (words text)
fault_alone before (Positions text) = positions_fault (words text)
fault_alone before (Object name) = id_fault (text_of (object_ids before) name)
fault_alone before (File name) = id_fault (text_of (file_ids before) name)
fault_alone before (Function name) = id_fault (text_of (function_ids before) name)
fault_alone before (CalleeObject name) = id_fault (text_of (object_ids before) name)
fault_alone before (CalleeFile name) = id_fault (text_of (file_ids before) name)
fault_alone before (Callee name) = id_fault (text_of (function_ids before) name)
fault_alone before (Calls n place) =
    calls_fault (events before) (callee_name before) n (position_at (position before) place)
fault_alone before BadCalls = shape_fault (events before)
fault_alone before (Cost place costs) = cost_fault (events before) (position_at (position before) place) (numbers costs)
fault_alone before BadCost = shape_fault (events before)
fault_alone before Jump = Some Jumps
fault_alone before Bad = Some BadLine

-- the fault of a line: a call's cost line comes next, but for lines that carry nothing
abbrev pub fault : List Line → Line → Option Fault
fault before line = if is_some (open_call before) && not (follows_call line) then Some BadLine
    else fault_alone before line

-- Rows

abbrev pub line_at : List Line → SubPosition → ℕ
line_at before place = unwrap_or (position_at (position before) place) 0

abbrev pub self_row : List Line → SubPosition → List ℕ → NamedSelf
self_row before place costs = record {
  function = current_function before;
  file = current_file before;
  line = line_at before place;
  cost = cost_of before costs;
}

abbrev pub call_row : List Line → SubPosition → List ℕ → Call → NamedCall
call_row before place costs call = record {
  caller = current_function before;
  file = current_file before;
  line = line_at before place;
  callee = call.callee;
  calls = call.calls;
  cost = cost_of before costs;
}

-- a cost line alone is a self row
abbrev pub self_if : Option Call → NamedSelf → List NamedSelf
self_if None row = row ∷ []
self_if (Some call) row = []

-- after a call it is a call row
abbrev pub call_if : Option Call → (Call → NamedCall) → List NamedCall
call_if None row = []
call_if (Some call) row = row call ∷ []

abbrev pub self_rows : List Line → List NamedSelf
self_rows [] = []
self_rows (Cost place costs ∷ before) = self_rows before ++ self_if (open_call before) (self_row before place costs)
self_rows (_ ∷ before) = self_rows before

abbrev pub call_rows : List Line → List NamedCall
call_rows [] = []
call_rows (Cost place costs ∷ before) = call_rows before ++ call_if (open_call before) (call_row before place costs)
call_rows (_ ∷ before) = call_rows before
