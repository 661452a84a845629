-- Rows that the tables have summed up.
use Rattle.std.proofs.Common.{All, Result, Ok, Err, IfOk, List, filter, map}
use Rattle.std.specs.Prelude.{IsPermutation}
use Rattle.std.specs.List.Sorted.{IsStrictlySortedBy}
use Rattle.event_costs.specs.Costs.{IsWhole}
use Rattle.arc_costs.specs.Arcs.{ArcsStandFor, arc_of, is_some_arc}
use Rattle.arc_costs.specs.Contents.{Listed}
use Rattle.arc_costs.specs.Lines.{LinesStandFor, is_some_line, place_of}
use Rattle.event_costs.specs.Order.{arc_order, place_order}
use Rattle.arc_costs.specs.Rows.{ArcRow, LineRow}
use Rattle.ctx_rows.proofs.Others.{sorted_some}
use Rattle.ctx_rows.specs.Folding.{AreSumsOf}

pub sums_of : {E : Type 0} (r : Result Listed E) (all : Listed) (lines : List LineRow) (arcs : List ArcRow)
    → LinesStandFor lines all.lines → ArcsStandFor arcs all.arcs
    → IfOk r (λ rows. IsPermutation (filter is_some_line lines) rows.lines)
    → IfOk r (λ rows. IsPermutation (filter is_some_arc arcs) rows.arcs)
    → IfOk r (λ rows. IsStrictlySortedBy place_order (map place_of rows.lines))
    → IfOk r (λ rows. IsStrictlySortedBy arc_order (map arc_of rows.arcs))
    → IfOk r (λ rows. (additions : List LineRow) → LinesStandFor lines additions → LinesStandFor rows.lines additions)
    → IfOk r (λ rows. (additions : List ArcRow) → ArcsStandFor arcs additions → ArcsStandFor rows.arcs additions)
    → IfOk r (λ rows. All (λ (row : LineRow). IsWhole row.cost) rows.lines)
    → IfOk r (λ rows. All (λ (row : ArcRow). IsWhole row.cost) rows.arcs)
    → IfOk r (AreSumsOf all)
sums_of (Ok rows) all lines arcs lined arced moved also rise climb stands also_stands whole_ones whole_arcs = record {
  lines = stands all.lines lined;
  arcs = also_stands all.arcs arced;
  lines_rise = rise;
  arcs_rise = climb;
  some_lines = sorted_some is_some_line lines rows.lines moved;
  some_arcs = sorted_some is_some_arc arcs rows.arcs also;
  whole_lines = whole_ones;
  whole_arcs = whole_arcs;
}
sums_of (Err e) all lines arcs lined arced moved also rise climb stands also_stands whole_ones whole_arcs = tt
