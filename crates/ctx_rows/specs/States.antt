-- What a watch keeps that counts by calling context, and what each call makes of it.
use Rattle.std.specs.Prelude.{ℕ, ◌==◌, Bool, List, [], ◌∷◌, ◌++◌, None, Option, Some, drop, if◌then◌else◌}
use Rattle.std.specs.Prelude.{take}
use Rattle.std.specs.List.{list_any}
use Rattle.std.specs.Option.{option_map}
use Rattle.event_costs.specs.Costs.{no_cost, sum_of_costs}
use Rattle.event_costs.specs.declared.event.Event.{Event}
use Rattle.event_costs.specs.Keys.{ArcKey, Place}
use Rattle.event_costs.specs.declared.numbers.FuncId.{FuncId}
use Rattle.event_costs.specs.declared.numbers.ThreadNo.{ThreadNo}
use Rattle.sym_map.specs.SymbolMap.{SymbolMap, place_of}
use Rattle.shadow_stack.specs.Changes.{Change, after, change, drop_count}
use Rattle.shadow_stack.specs.Frames.{closings, pushing, restarted_frames, with_frame}
use Rattle.shadow_stack.specs.Stacks.{Activation, Stack, root}
use Rattle.shadow_stack.specs.declared.frame.Frame.{Frame}
use Rattle.shadow_stack.specs.declared.frame.Kind.TheVariants.{Jump, Root}
use Rattle.arc_costs.specs.Arcs.{add_arcs, cleared_arcs}
use Rattle.arc_costs.specs.Lines.{add_line, cleared_lines, line}
use Rattle.arc_costs.specs.Rows.{ArcRow, LineRow}
use Rattle.recorder.specs.Notes.{rows_of_tellings}
use Rattle.contexts.specs.Contexts.{Context, context, number, with_context}

-- A thread: its stack, and its account by the numbers of contexts. A frame stands for the context of the frame at its
-- place in the stack, and its arc leads between two contexts; lines and arcs are rows since the last cut, in which
-- frames that are open have no cost yet.
pub record Track : Type 0 where
  pub thread : ThreadNo
  pub stack : Stack
  pub frames : List Frame
  pub total : List ℕ
  pub lines : List LineRow
  pub arcs : List ArcRow

-- How many callers a context has at most; the contexts by their numbers, in the order in which they came up; each
-- thread in the order of their starts; and which one was made ready, if it hasn't stepped since: there is room for a
-- context more, and for a frame, a line and an arc more of this thread.
pub record CtxState : Type 0 where
  pub callers : ℕ
  pub contexts : List Context
  pub tracks : List Track
  pub ready : Option ThreadNo

-- Threads

abbrev pub is_track_of : ThreadNo → Track → Bool
is_track_of thread t = thread.0 == t.thread.0

abbrev pub knows : CtxState → ThreadNo → Bool
knows w thread = list_any (is_track_of thread) w.tracks

abbrev pub empty_track : ThreadNo → Track
empty_track thread = record { thread = thread; stack = []; frames = []; total = no_cost; lines = []; arcs = [] }

abbrev pub track_in : ThreadNo → List Track → Track
track_in thread [] = empty_track thread
track_in thread (t ∷ ts) = if is_track_of thread t then t else track_in thread ts

abbrev pub track : CtxState → ThreadNo → Track
track w thread = track_in thread w.tracks

-- the threads with one of them put in its place
abbrev pub with_track : Track → List Track → List Track
with_track t [] = []
with_track t (u ∷ us) = if is_track_of t.thread u then t ∷ us else u ∷ with_track t us

-- A thread that begins

-- a thread in this function alone, whose context has this number
abbrev pub first_track : ThreadNo → FuncId → FuncId → Track
first_track thread func first = record {
  thread = thread;
  stack = record { func = func; kind = Root; arc = None } ∷ [];
  frames = record { func = first; from = None; kind = Root; start = no_cost } ∷ [];
  total = no_cost;
  lines = [];
  arcs = [];
}

abbrev pub with_started : SymbolMap → CtxState → ThreadNo → ℕ → CtxState
with_started syms w thread pc =
    let c = context w.callers (root syms pc) in record w {
      contexts = with_context w.contexts c;
      tracks = w.tracks ++ first_track thread (place_of syms pc).func (number w.contexts c) ∷ [];
    }

abbrev pub after_ready : CtxState → ThreadNo → ℕ → SymbolMap → CtxState
after_ready w thread pc syms =
    record (if knows w thread then w else with_started syms w thread pc) { ready = Some thread }

-- A step

-- the number of the top frame's context
abbrev pub top_number : List Frame → FuncId
top_number [] = record { 0 = 0 }
top_number (f ∷ fs) = f.func

-- the arc from one context to another at a place
abbrev pub entering_arc : Place → FuncId → FuncId → ArcKey
entering_arc at caller callee = record { caller = caller; file = at.file; line = at.line; callee = callee }

-- the contexts once an activation is pushed on a stack, if one is
abbrev pub contexts_with : ℕ → List Context → Option Activation → Stack → List Context
contexts_with callers contexts None s = contexts
contexts_with callers contexts (Some a) s = with_context contexts (context callers (a ∷ s))

-- the contexts once a change is made
abbrev pub contexts_after : ℕ → List Context → Change → List Context
contexts_after callers contexts c = contexts_with callers contexts c.pushed c.rest

-- a frame that is entered from these frames at a place, by its context's number
abbrev pub entered_frame : Place → List Frame → FuncId → Activation
entered_frame at frames callee =
    record { func = callee; kind = Jump; arc = Some (entering_arc at (top_number frames) callee) }

-- the frame that a change pushes, where these frames stay
abbrev pub pushed_frame : ℕ → List Context → Place → List Frame → Change → Option Activation
pushed_frame callers contexts at frames c =
    option_map (λ a. entered_frame at frames (number contexts (context callers (a ∷ c.rest)))) c.pushed

-- the frames that a change drops, and those that stay
abbrev pub dropped_track_frames : SymbolMap → Event → Track → List Frame
dropped_track_frames syms e t = take (drop_count syms e t.stack) t.frames

abbrev pub kept_track_frames : SymbolMap → Event → Track → List Frame
kept_track_frames syms e t = drop (drop_count syms e t.stack) t.frames

abbrev pub pushed_track_frame : ℕ → List Context → SymbolMap → Event → Track → Option Activation
pushed_track_frame callers contexts syms e t =
    pushed_frame callers contexts (place_of syms e.done.pc) (kept_track_frames syms e t) (change syms e t.stack)

-- A thread after an event: the event counts at the line of its pc in the context of the top frame; then each frame that
-- goes gives its arc what it has cost since its start, and one that comes counts as a call.
abbrev pub track_after_event : ℕ → List Context → SymbolMap → Event → List ℕ → Track → Track
track_after_event callers contexts syms e cost t =
    let at = place_of syms e.done.pc in
    let total = sum_of_costs t.total cost in
    let new = pushed_track_frame callers contexts syms e t in
    record {
      thread = t.thread;
      stack = after syms t.stack e;
      frames = with_frame total new (kept_track_frames syms e t);
      total = total;
      lines = add_line t.lines (line (record { func = top_number t.frames; file = at.file; line = at.line }) cost);
      arcs = add_arcs t.arcs (rows_of_tellings (closings total (dropped_track_frames syms e t) ++ pushing new));
    }

abbrev pub after_seen : CtxState → Event → List ℕ → SymbolMap → CtxState
after_seen w e cost syms =
    let t = track w e.thread in
    record w {
      contexts = contexts_after w.callers w.contexts (change syms e t.stack);
      tracks = with_track (track_after_event w.callers w.contexts syms e cost t) w.tracks;
      ready = None;
    }

-- A cut: the open frames have given their cost so far and start anew, and all rows count from 0.
abbrev pub track_after_cut : Track → Track
track_after_cut t = record t {
  frames = restarted_frames t.total t.frames;
  lines = cleared_lines t.lines;
  arcs = cleared_arcs t.arcs;
}

abbrev pub after_part : CtxState → ThreadNo → CtxState
after_part w thread = record w { tracks = with_track (track_after_cut (track w thread)) w.tracks }
