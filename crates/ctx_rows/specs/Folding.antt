-- Rows by context folded back: a context's function is its first one.
use Rattle.std.specs.Prelude.{◌≡◌, ◌<◌, All, filter, length, map}
use Rattle.std.specs.List.Sorted.{IsStrictlySortedBy}
use Rattle.event_costs.specs.Costs.{IsWhole}
use Rattle.arc_costs.specs.Arcs.{ArcsStandFor, arc_of, is_some_arc}
use Rattle.arc_costs.specs.Contents.{Listed}
use Rattle.arc_costs.specs.Lines.{LinesStandFor, is_some_line, place_of}
use Rattle.event_costs.specs.Order.{arc_order, place_order}
use Rattle.arc_costs.specs.Rows.{ArcRow, LineRow}
pub use Rattle.contexts.specs.Contexts.{function_of}
use Rattle.ctx_rows.specs.Rows.{CtxListed}
use Rattle.ctx_rows.specs.declared.rows.CtxArc.{CtxArc}
use Rattle.ctx_rows.specs.declared.rows.CtxLine.{CtxLine}

-- a row with functions in place of contexts
abbrev pub plain_line : CtxLine → LineRow
plain_line row = record {
  place = record { func = function_of row.ctx; file = row.file; line = row.line };
  cost = row.cost;
}

abbrev pub plain_arc : CtxArc → ArcRow
plain_arc row = record {
  arc = record { caller = function_of row.caller; file = row.file; line = row.line; callee = function_of row.callee };
  calls = row.calls;
  cost = row.cost;
}

abbrev pub plain : CtxListed → Listed
plain rows = record { lines = map plain_line rows.lines; arcs = map plain_arc rows.arcs }

-- no context is empty
pub record HaveContexts (rows : CtxListed) : Type 0 where
  pub lines : All (λ (row : CtxLine). 0 < length row.ctx) rows.lines
  pub callers : All (λ (row : CtxArc). 0 < length row.caller) rows.arcs
  pub callees : All (λ (row : CtxArc). 0 < length row.callee) rows.arcs

-- Rows are these summed up by place and by arc: each once, in order, and none that is all 0; each cost has a number for
-- each kind of event.
pub record AreSumsOf (all rows : Listed) : Type 0 where
  pub lines : LinesStandFor rows.lines all.lines
  pub arcs : ArcsStandFor rows.arcs all.arcs
  pub lines_rise : IsStrictlySortedBy place_order (map place_of rows.lines)
  pub arcs_rise : IsStrictlySortedBy arc_order (map arc_of rows.arcs)
  pub some_lines : filter is_some_line rows.lines ≡ rows.lines
  pub some_arcs : filter is_some_arc rows.arcs ≡ rows.arcs
  pub whole_lines : All (λ (row : LineRow). IsWhole row.cost) rows.lines
  pub whole_arcs : All (λ (row : ArcRow). IsWhole row.cost) rows.arcs
