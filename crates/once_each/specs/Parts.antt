-- The parts of a trace: the rows of each thread in each segment between cuts.
use Rattle.std.specs.Prelude.{◌≡◌, ◌==◌, Bool, List, All, flat_map, count_by, map}
use Rattle.std.specs.List.{AllZip}
use Rattle.event_costs.specs.declared.numbers.ThreadNo.{ThreadNo}
use Rattle.sym_map.specs.SymbolMap.{SymbolMap}
use Rattle.shadow_stack.specs.Traces.{CountedEvent, EventOnStack, events_on_stacks}
use Rattle.arc_costs.specs.Contents.{Listed}
use Rattle.arc_costs.specs.Rows.{ArcRow, LineRow}
use Rattle.call_graph.specs.declared.arc.CallArc.{CallArc}
use Rattle.recorder.specs.Standing.{AreRowsOf}
use Rattle.recorder.specs.Sums.{of_thread}
use Rattle.once_each.specs.Graphs.{between}

-- a thread's rows in a segment
pub record ThreadRows : Type 0 where
  pub thread : ThreadNo
  pub rows : Listed

abbrev pub is_by : EventOnStack → ThreadRows → Bool
is_by x part = x.event.thread.0 == part.thread.0

-- the parts of a segment: each has the rows of its thread, and each event's thread has one
pub record ArePartsOf (syms : SymbolMap) (segment : List EventOnStack) (parts : List ThreadRows) : Type 0 where
  pub exact : All (λ part. AreRowsOf syms (of_thread part.thread segment) part.rows) parts
  pub whole : All (λ x. count_by (is_by x) parts ≡ 1) segment

-- The parts of a trace. Its events stand in segments, in their order, wherever it was cut.
pub record ArePartsOfTrace (syms : SymbolMap) (trace : List CountedEvent) (parts : List (List ThreadRows)) : Type 0 where
  pub segments : List (List EventOnStack)
  pub whole : flat_map (λ segment. segment) segments ≡ events_on_stacks syms trace
  pub exact : AllZip (ArePartsOf syms) segments parts

-- the rows of all threads in all segments
abbrev pub all_lines : List (List ThreadRows) → List LineRow
all_lines parts = flat_map (λ segment. flat_map (λ part. part.rows.lines) segment) parts

abbrev pub all_arcs : List (List ThreadRows) → List ArcRow
all_arcs parts = flat_map (λ segment. flat_map (λ part. part.rows.arcs) segment) parts

-- the arcs of all rows
abbrev pub row_arcs : List (List ThreadRows) → List CallArc
row_arcs parts = map (λ row. between row.arc) (all_arcs parts)
