-- What a list of events has cost, by line and by call arc; each event comes with the stack of its thread before it.
use Rattle.std.specs.Prelude.{ℕ, ◌*◌, ◌==◌, Bool, false, List, filter, Option, None, Some, if◌then◌else◌, count_by}
use Rattle.std.specs.Prelude.{sum_by, slice_index}
use Rattle.std.specs.Option.{option_map_or}
use Rattle.event_costs.specs.Keys.{ArcKey, Place}
use Rattle.event_costs.specs.declared.numbers.ThreadNo.{ThreadNo}
use Rattle.sym_map.specs.SymbolMap.{SymbolMap, place_of}
use Rattle.shadow_stack.specs.Stacks.{Activation, Stack}
use Rattle.shadow_stack.specs.Changes.{change}
use Rattle.shadow_stack.specs.Traces.{EventOnStack}
use Rattle.event_costs.specs.Order.{same_arc, same_place}

-- whether something was entered by this arc
abbrev pub is_arc : ArcKey → Option ArcKey → Bool
is_arc arc from = option_map_or (same_arc arc) from false

-- how many frames of a stack were entered by this arc
abbrev pub entered_by : ArcKey → Stack → ℕ
entered_by arc s = count_by (λ a. is_arc arc a.arc) s

-- how many frames that were entered by this arc are pushed
abbrev pub pushes : ArcKey → Option Activation → ℕ
pushes arc None = 0
pushes arc (Some a) = if is_arc arc a.arc then 1 else 0

-- the cost of a kind at a place: that of the events whose pc has the place
abbrev pub self_cost : SymbolMap → ℕ → Place → List EventOnStack → ℕ
self_cost syms kind place xs =
    sum_by (λ x. if same_place place (place_of syms x.event.done.pc) then slice_index x.cost kind else 0) xs

-- the cost of a kind under an arc: that of each event, times the frames of its stack that were entered by the arc
abbrev pub arc_cost : ℕ → ArcKey → List EventOnStack → ℕ
arc_cost kind arc xs = sum_by (λ x. slice_index x.cost kind * entered_by arc x.stack) xs

-- the calls of an arc: the frames that the events push by it
abbrev pub arc_calls : SymbolMap → ArcKey → List EventOnStack → ℕ
arc_calls syms arc xs = sum_by (λ x. pushes arc (change syms x.event x.stack).pushed) xs

-- the events of one thread
abbrev pub of_thread : ThreadNo → List EventOnStack → List EventOnStack
of_thread thread xs = filter (λ x. x.event.thread.0 == thread.0) xs
