-- What an event and a cut do to the account of their thread.
use Rattle.std.specs.Prelude.{◌≡◌, ℕ, ◌+◌, ◌-◌, ◌<◌, ◌^◌, true, false, List, [], ◌∷◌, map, None, Some}
use Rattle.std.specs.Prelude.{if◌then◌else◌, sum_by, slice_index}
use Rattle.std.specs.List.{list_any}
use Rattle.std.specs.Option.{option_map}
use Rattle.event_costs.specs.Arcs.{Telling, Pushed, Closed}
use Rattle.event_costs.specs.Costs.{no_cost, sum_of_costs}
use Rattle.event_costs.specs.FuncSet.{is_among}
use Rattle.event_costs.specs.declared.event.Event.{Event}
use Rattle.event_costs.specs.Keys.{ArcKey}
use Rattle.event_costs.specs.declared.numbers.FuncId.{FuncId}
use Rattle.event_costs.specs.declared.numbers.ThreadNo.{ThreadNo}
use Rattle.event_costs.specs.declared.outcome.Noted.{Noted}
use Rattle.sym_map.specs.SymbolMap.{SymbolMap, place_of}
use Rattle.shadow_stack.specs.Frames.{count_pushed, dropped_frames, frames_after, pushed_activation, restarted_frames, stack, tellings}
use Rattle.shadow_stack.specs.Changes.{drop_count}
use Rattle.shadow_stack.specs.Stacks.{top_of}
use Rattle.shadow_stack.specs.declared.frame.Frame.{Frame}
use Rattle.shadow_stack.specs.declared.frame.Kind.TheVariants.{Root}
use Rattle.arc_costs.specs.Arcs.{add_arcs, arc_sum, call_of_arc, call_sum, cleared_arcs, cost_of_arc}
use Rattle.arc_costs.specs.Lines.{add_line, cleared_lines, has_line, line, line_sum}
use Rattle.arc_costs.specs.Rows.{ArcRow}
use Rattle.recorder.specs.Accounts.{Account}
use Rattle.recorder.specs.Sums.{is_arc, pushes}

-- the account of a thread that begins at this pc
abbrev pub first_account : SymbolMap → ThreadNo → ℕ → Account
first_account syms thread pc = record {
  thread = thread;
  frames = record { func = (place_of syms pc).func; from = None; kind = Root; start = no_cost } ∷ [];
  total = no_cost;
  lines = [];
  arcs = [];
  had_event = false;
}

-- what a telling adds to its arc: a call, or the cost of a frame that is closed
abbrev pub row_of_telling : Telling → ArcRow
row_of_telling (Pushed arc) = call_of_arc arc
row_of_telling (Closed arc cost) = cost_of_arc arc cost

abbrev pub rows_of_tellings : List Telling → List ArcRow
rows_of_tellings ts = map row_of_telling ts

-- The account after an event of its thread: the event counts at the place of its pc; then its stack changes, each frame
-- that goes gives its arc what it has cost since its start, and each that comes counts as a call.
abbrev pub account_after_note : SymbolMap → Event → List ℕ → Account → Account
account_after_note syms e cost a = record {
  thread = a.thread;
  frames = frames_after syms (sum_of_costs a.total cost) a.frames e;
  total = sum_of_costs a.total cost;
  lines = add_line a.lines (line (place_of syms e.done.pc) cost);
  arcs = add_arcs a.arcs (rows_of_tellings (tellings syms (sum_of_costs a.total cost) a.frames e));
  had_event = true;
}

-- The account after a cut: the open frames have given their cost so far and start anew, and all rows count from 0.
abbrev pub account_after_cut : Account → Account
account_after_cut a = record a {
  frames = restarted_frames a.total a.frames;
  lines = cleared_lines a.lines;
  arcs = cleared_arcs a.arcs;
  had_event = false;
}

-- what an event did: the function of the frame that it pushed, and whether it dropped a frame of one that is watched
abbrev pub noted_answer : SymbolMap → List FuncId → Event → List Frame → Noted
noted_answer syms watched e frames = record {
  pushed = option_map (λ a. a.func) (pushed_activation syms e frames);
  left = list_any (λ f. is_among watched f.func) (dropped_frames syms e frames);
}

-- the cost of a kind that the open frames have for an arc and haven't given it yet, at the thread's total
abbrev pub open_sum : ℕ → List ℕ → ArcKey → List Frame → ℕ
open_sum kind total arc frames =
    sum_by (λ f. if is_arc arc f.from then slice_index total kind - slice_index f.start kind else 0) frames

-- An event of its thread can be noted at this cost: the thread hasn't ended and stands in the function of the event's
-- pc, and neither its total nor, with the open frames' costs counted in, a sum since its last cut passes 64 bits after
-- it.
pub record CanNote (syms : SymbolMap) (e : Event) (cost : List ℕ) (a : Account) : Type 0 where
  pub top : top_of (stack a.frames) ≡ Some (place_of syms e.done.pc).func
  pub total : (kind : ℕ) → slice_index a.total kind + slice_index cost kind < 2 ^ 64
  pub lines : (kind : ℕ) → line_sum kind (place_of syms e.done.pc) a.lines + slice_index cost kind < 2 ^ 64
  pub arcs : (kind : ℕ) (arc : ArcKey) → arc_sum kind arc a.arcs
      + open_sum kind (sum_of_costs a.total cost) arc a.frames < 2 ^ 64
  pub calls : (arc : ArcKey) → call_sum arc a.arcs + pushes arc (pushed_activation syms e a.frames) < 2 ^ 64

-- An event that needs no room: it pushes no frame, and its place is a key of its thread's line rows.
pub record NeedsNoRoom (syms : SymbolMap) (e : Event) (a : Account) : Type 0 where
  pub frames : pushed_activation syms e a.frames ≡ None
  pub lines : has_line (place_of syms e.done.pc) a.lines ≡ true

-- the room for frames and for places that an event uses, and the room for frames that it leaves
abbrev pub frames_used : SymbolMap → Event → Account → ℕ
frames_used syms e a = count_pushed (pushed_activation syms e a.frames)

abbrev pub frames_freed : SymbolMap → Event → Account → ℕ
frames_freed syms e a = drop_count syms e (stack a.frames)

abbrev pub places_used : SymbolMap → Event → Account → ℕ
places_used syms e a = if has_line (place_of syms e.done.pc) a.lines then 0 else 1
