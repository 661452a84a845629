-- The rows that a watch has of a thread, and what may be told of it and asked of it.
use Rattle.std.specs.Prelude.{◌≡◌, ℕ, ◌+◌, ◌<◌, ◌^◌, ◌++◌, List, Some, length}
use Rattle.std.specs.Prelude.{map, slice_index, true}
use Rattle.event_costs.specs.Costs.{sum_of_costs}
use Rattle.event_costs.specs.declared.event.Event.{Event}
use Rattle.event_costs.specs.Keys.{ArcKey, Place}
use Rattle.event_costs.specs.declared.numbers.ThreadNo.{ThreadNo}
use Rattle.sym_map.specs.SymbolMap.{IsSound, SymbolMap}
use Rattle.shadow_stack.specs.Frames.{closings}
use Rattle.arc_costs.specs.Arcs.{arc_sum, call_sum}
use Rattle.arc_costs.specs.Contents.{Listed}
use Rattle.arc_costs.specs.Lines.{line_sum}
use Rattle.arc_costs.specs.Rows.{ArcRow, LineRow}
use Rattle.recorder.specs.Notes.{open_sum, rows_of_tellings}
use Rattle.contexts.specs.Contexts.{Context, context_at}
use Rattle.ctx_rows.specs.Known.{AreKnown}
use Rattle.ctx_rows.specs.Rows.{CtxListed, summed_rows}
use Rattle.ctx_rows.specs.States.{CtxState, Track, knows, track}
use Rattle.ctx_rows.specs.declared.rows.CtxArc.{CtxArc}
use Rattle.ctx_rows.specs.declared.rows.CtxLine.{CtxLine}

-- rows by numbers of contexts, with the contexts in their place
abbrev pub named_line : List Context → LineRow → CtxLine
named_line contexts row = record {
  ctx = context_at contexts row.place.func;
  file = row.place.file;
  line = row.place.line;
  cost = row.cost;
}

abbrev pub named_arc : List Context → ArcRow → CtxArc
named_arc contexts row = record {
  caller = context_at contexts row.arc.caller;
  callee = context_at contexts row.arc.callee;
  file = row.arc.file;
  line = row.arc.line;
  calls = row.calls;
  cost = row.cost;
}

abbrev pub named_rows : List Context → Listed → CtxListed
named_rows contexts rows = record {
  lines = map (named_line contexts) rows.lines;
  arcs = map (named_arc contexts) rows.arcs;
}

-- The rows of a thread since its last cut: what was counted, and what its open frames have cost since then, summed up
-- by line and by arc.
abbrev pub rows_of_track : List Context → Track → CtxListed
rows_of_track contexts t = summed_rows (record {
  lines = map (named_line contexts) t.lines;
  arcs = map (named_arc contexts) (t.arcs ++ rows_of_tellings (closings t.total t.frames));
})

unfoldable pub rows_in : CtxState → ThreadNo → CtxListed
rows_in w thread = rows_of_track w.contexts (track w thread)

-- An event of this cost can be counted: neither the total nor, with the costs of open frames counted in, a sum since
-- the last cut passes 64 bits after it.
pub record CanCount (t : Track) (cost : List ℕ) : Type 0 where
  pub total : (kind : ℕ) → slice_index t.total kind + slice_index cost kind < 2 ^ 64
  pub lines : (kind : ℕ) (place : Place) → line_sum kind place t.lines + slice_index cost kind < 2 ^ 64
  pub arcs : (kind : ℕ) (arc : ArcKey) → arc_sum kind arc t.arcs
      + open_sum kind (sum_of_costs t.total cost) arc t.frames
      < 2 ^ 64
  pub calls : (arc : ArcKey) → call_sum arc t.arcs + 1 < 2 ^ 64

-- there is room for a step of the thread
abbrev pub HasRoom : CtxState → ThreadNo → Type 0
HasRoom w thread = w.ready ≡ Some thread

-- A step of a thread may be told: the thread was made ready and hasn't ended, and the step can be counted.
pub record CanSee (w : CtxState) (e : Event) (cost : List ℕ) : Type 0 where
  pub ready : HasRoom w e.thread
  pub knows : knows w e.thread ≡ true
  pub live : 0 < length (track w e.thread).stack
  pub sums : CanCount (track w e.thread) cost

-- A part may be written of a thread that is known, with a map that has all functions and files of its rows. Numbers
-- past those of a map come from maps alone that aren't sound.
pub record CanWrite (w : CtxState) (thread : ThreadNo) (m : SymbolMap) : Type 0 where
  pub knows : knows w thread ≡ true
  pub rows : IsSound m → AreKnown m (rows_in w thread)
