-- The rows of a thread, with what its open frames have cost.
use Rattle.std.proofs.Common.{◌≡◌, ℕ, ◌+◌, List, Result, Ok, Err, IfOk, filter, map, refl, ◌∙◌}
use Rattle.std.specs.Prelude.{IsPermutation}
use Rattle.std.specs.List.Sorted.{IsStrictlySortedBy}
use Rattle.event_costs.specs.Keys.{ArcKey, Place}
use Rattle.arc_costs.specs.Arcs.{ArcsStandFor, arc_of, arc_sum, call_sum, is_some_arc}
use Rattle.arc_costs.specs.Contents.{Listed}
use Rattle.arc_costs.specs.Lines.{LinesStandFor, is_some_line, line_sum, place_of}
use Rattle.event_costs.specs.Order.{arc_order, place_order}
use Rattle.arc_costs.specs.Rows.{ArcRow, LineRow}
use Rattle.recorder.specs.Accounts.{Account}
use Rattle.recorder.specs.Notes.{open_sum}
use Rattle.recorder.specs.Standing.{IsCutOf}
use Rattle.ctx_costs.proofs.Others.{sorted_some}
use Rattle.ctx_costs.proofs.OpeningLemmas.{own_sums}

pub cut_of : {E : Type 0} (r : Result Listed E) (a : Account) (lines : List LineRow) (arcs : List ArcRow)
    → ((kind : ℕ) (place : Place) → line_sum kind place lines ≡ line_sum kind place a.lines)
    → ((kind : ℕ) (arc : ArcKey) → arc_sum kind arc arcs ≡ arc_sum kind arc a.arcs + open_sum kind a.total arc a.frames)
    → ((arc : ArcKey) → call_sum arc arcs ≡ call_sum arc a.arcs)
    → IfOk r (λ rows. IsPermutation (filter is_some_line lines) rows.lines)
    → IfOk r (λ rows. IsPermutation (filter is_some_arc arcs) rows.arcs)
    → IfOk r (λ rows. IsStrictlySortedBy place_order (map place_of rows.lines))
    → IfOk r (λ rows. IsStrictlySortedBy arc_order (map arc_of rows.arcs))
    → IfOk r (λ rows. (additions : List LineRow) → LinesStandFor lines additions → LinesStandFor rows.lines additions)
    → IfOk r (λ rows. (additions : List ArcRow) → ArcsStandFor arcs additions → ArcsStandFor rows.arcs additions)
    → IfOk r (IsCutOf a)
cut_of (Ok rows) a lines arcs lined costed called moved also rise climb stands also_stands =
    let sums = also_stands arcs (own_sums arcs) in
    record {
      lines = λ kind place. stands lines (λ k p. refl) kind place ∙ lined kind place;
      arcs = λ kind arc. sums.costs kind arc ∙ costed kind arc;
      calls = λ arc. sums.calls arc ∙ called arc;
      lines_rise = rise;
      arcs_rise = climb;
      some_lines = sorted_some is_some_line lines rows.lines moved;
      some_arcs = sorted_some is_some_arc arcs rows.arcs also;
    }
cut_of (Err e) a lines arcs lined costed called moved also rise climb stands also_stands = tt
