-- Frames of a stack by the numbers of their contexts.
use Rattle.std.specs.Prelude.{◌≡◌, Bool, false, true, List, [], ◌∷◌, Option, None, Some, is_some}
use Rattle.std.specs.Option.{option_map, option_map_or}
use Rattle.event_costs.specs.Arcs.{Telling, Pushed, Closed}
use Rattle.event_costs.specs.Keys.{ArcKey}
use Rattle.event_costs.specs.declared.numbers.FuncId.{FuncId}
use Rattle.shadow_stack.specs.Stacks.{Activation}
use Rattle.shadow_stack.specs.declared.frame.Frame.{Frame}
use Rattle.shadow_stack.specs.declared.frame.Kind.{Kind}
use Rattle.shadow_stack.specs.declared.frame.Kind.TheVariants.{Jump, Root}
use Rattle.ctx_costs.specs.declared.closing.Entry.{Entry}

-- the number at the top
abbrev pub first_number : List FuncId → FuncId
first_number [] = record { 0 = 0 }
first_number (n ∷ ns) = n

abbrev pub is_any : List FuncId → Bool
is_any [] = false
is_any (n ∷ ns) = true

-- an arc between functions as one between these contexts
abbrev pub arc_between : ArcKey → FuncId → FuncId → ArcKey
arc_between arc caller callee = record { caller = caller; file = arc.file; line = arc.line; callee = callee }

abbrev pub kind_by : Option ArcKey → Kind
kind_by None = Root
kind_by (Some arc) = Jump

-- a frame by the number of its context, on top of frames of these numbers
abbrev pub numbered_frame : Frame → FuncId → List FuncId → Frame
numbered_frame f n ns = record {
  func = n;
  from = option_map (λ arc. arc_between arc (first_number ns) n) f.from;
  kind = kind_by f.from;
  start = f.start;
}

abbrev pub numbered_frames : List Frame → List FuncId → List Frame
numbered_frames [] ns = []
numbered_frames (f ∷ fs) [] = []
numbered_frames (f ∷ fs) (n ∷ ns) = numbered_frame f n ns ∷ numbered_frames fs ns

-- Each frame has a number, and an arc entered it if it isn't the lowest.
abbrev pub AreOpen : List Frame → List FuncId → Type 0
AreOpen [] [] = Unit {0}
AreOpen [] (n ∷ ns) = ⊥
AreOpen (f ∷ fs) [] = ⊥
AreOpen (f ∷ fs) (n ∷ ns) = (is_some f.from ≡ is_any ns) × AreOpen fs ns

-- where a frame is entered by an arc, and its function
abbrev pub entry_of : ArcKey → Entry
entry_of arc = record { file = arc.file; line = arc.line; func = arc.callee }

abbrev pub entry_arc : Entry → FuncId → FuncId → ArcKey
entry_arc entry caller callee = record { caller = caller; file = entry.file; line = entry.line; callee = callee }

-- how an activation is entered that is pushed
abbrev pub pushed_entry : Option Activation → Option Entry
pushed_entry None = None
pushed_entry (Some a) = option_map entry_of a.arc

-- the arc between the contexts of the two top frames of these numbers
abbrev pub top_arc : ArcKey → List FuncId → Option ArcKey
top_arc arc [] = None
top_arc arc (n ∷ []) = None
top_arc arc (n ∷ (m ∷ ns)) = Some (arc_between arc m n)

-- what is told of the top frame, by contexts; a push is counted later
abbrev pub by_number : Telling → List FuncId → List Telling
by_number (Pushed arc) ns = []
by_number (Closed arc cost) ns = option_map_or (λ between. Closed between cost ∷ []) (top_arc arc ns) []

abbrev pub numbers_left : Telling → List FuncId → List FuncId
numbers_left (Pushed arc) ns = ns
numbers_left (Closed arc cost) [] = []
numbers_left (Closed arc cost) (n ∷ []) = n ∷ []
numbers_left (Closed arc cost) (n ∷ (m ∷ ns)) = m ∷ ns

-- how the frame was entered that was pushed last
abbrev pub entry_after : Option Entry → Telling → Option Entry
entry_after before (Pushed arc) = Some (entry_of arc)
entry_after before (Closed arc cost) = before
