-- Frames: activations with the cost at which each began.
use Rattle.std.specs.Prelude.{ℕ, ◌≤◌, List, [], ◌∷◌, ◌++◌, map, flat_map, take, drop, All, Option, None, Some}
use Rattle.std.specs.List.{AllZip}
use Rattle.std.specs.Option.{option_map_or}
use Rattle.event_costs.specs.Arcs.{Telling, Pushed, Closed}
use Rattle.event_costs.specs.Costs.{difference_of_costs}
use Rattle.event_costs.specs.declared.event.Event.{Event}
use Rattle.sym_map.specs.SymbolMap.{SymbolMap}
use Rattle.shadow_stack.specs.declared.frame.Frame.{Frame}
use Rattle.shadow_stack.specs.Stacks.{Activation, Stack}
use Rattle.shadow_stack.specs.Changes.{change, drop_count}

abbrev pub activation : Frame → Activation
activation f = record { func = f.func; kind = f.kind; arc = f.from }

-- the stack of these frames, the top first as they are
abbrev pub stack : List Frame → Stack
stack fs = map activation fs

-- a frame of an activation that begins at this cost
abbrev pub frame_of : List ℕ → Activation → Frame
frame_of total a = record { func = a.func; from = a.arc; kind = a.kind; start = total }

abbrev pub with_frame : List ℕ → Option Activation → List Frame → List Frame
with_frame total None fs = fs
with_frame total (Some a) fs = frame_of total a ∷ fs

-- the frames that an event drops, and those that stay
abbrev pub dropped_frames : SymbolMap → Event → List Frame → List Frame
dropped_frames syms e fs = take (drop_count syms e (stack fs)) fs

abbrev pub kept_frames : SymbolMap → Event → List Frame → List Frame
kept_frames syms e fs = drop (drop_count syms e (stack fs)) fs

-- the activation that an event pushes
abbrev pub pushed_activation : SymbolMap → Event → List Frame → Option Activation
pushed_activation syms e fs = (change syms e (stack fs)).pushed

-- the frames after an event, at the thread's total
abbrev pub frames_after : SymbolMap → List ℕ → List Frame → Event → List Frame
frames_after syms total fs e = with_frame total (pushed_activation syms e fs) (kept_frames syms e fs)

-- the frames after a restart at this total
abbrev pub restarted_frame : List ℕ → Frame → Frame
restarted_frame total f = record f { start = total }

abbrev pub restarted_frames : List ℕ → List Frame → List Frame
restarted_frames total fs = map (restarted_frame total) fs

-- no start passes the total
abbrev pub StartWithin : List ℕ → List Frame → Type 0
StartWithin total fs = All (λ f. AllZip (λ t s. s ≤ t) total f.start) fs

-- A frame with an arc is closed with the total less its start; these frames are, from the top down.
abbrev pub closing : List ℕ → Frame → List Telling
closing total f = option_map_or (λ arc. Closed arc (difference_of_costs total f.start) ∷ []) f.from []

abbrev pub closings : List ℕ → List Frame → List Telling
closings total fs = flat_map (closing total) fs

-- what is told of an activation that is pushed
abbrev pub pushing : Option Activation → List Telling
pushing None = []
pushing (Some a) = option_map_or (λ arc. Pushed arc ∷ []) a.arc []

-- what is told at an event: the frames that go, and then the one that is pushed
abbrev pub tellings : SymbolMap → List ℕ → List Frame → Event → List Telling
tellings syms total fs e = closings total (dropped_frames syms e fs) ++ pushing (pushed_activation syms e fs)

-- how many frames are pushed
abbrev pub count_pushed : Option Activation → ℕ
count_pushed None = 0
count_pushed (Some a) = 1

-- the frames of a thread, the top first, and how many more fit without memory
pub record Frames : Type 0 where
  pub frames : List Frame
  pub spare : ℕ
