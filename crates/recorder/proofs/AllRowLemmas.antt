-- The rows that a recorder answers are those of the events.
use Rattle.std.proofs.Common.{◌≡◌, List, length, All}
use Rattle.std.proofs.lemmas.List.Elements.{recursion_from_All}
use Rattle.event_costs.specs.Costs.{IsWhole, event_kinds}
use Rattle.arc_costs.specs.Contents.{Listed}
use Rattle.arc_costs.specs.Rows.{ArcRow, LineRow}
use Rattle.sym_map.specs.SymbolMap.{SymbolMap}
use Rattle.shadow_stack.specs.Traces.{EventOnStack}
use Rattle.recorder.specs.Laws.{IsIn}
use Rattle.recorder.specs.Standing.{AreRowsOf}
use Rattle.recorder.specs.Rows.{rows_of}
use Rattle.recorder.proofs.ArcRowLemmas.{arcs_are}
use Rattle.recorder.proofs.LineLemmas.{lines_are}
use Rattle.recorder.proofs.ListLemmas.{of_all}

-- each cost has a number for each kind of event
pub record AreWhole (listed : Listed) : Type 0 where
  pub lines : (r : LineRow) → IsIn listed.lines r → length r.cost ≡ event_kinds
  pub arcs : (r : ArcRow) → IsIn listed.arcs r → length r.cost ≡ event_kinds

pub rows_are : (syms : SymbolMap) (xs : List EventOnStack) (listed : Listed) → AreRowsOf syms xs listed → AreWhole listed
    → listed ≡ rows_of syms xs
unfolding rows_of
rows_are syms xs listed are whole = λ i. record {
  lines = lines_are syms xs listed are whole.lines i;
  arcs = arcs_are syms xs listed are whole.arcs i;
}

pub are_whole : (rows : Listed) → All (λ row. IsWhole row.cost) rows.lines → All (λ row. IsWhole row.cost) rows.arcs
    → AreWhole rows
are_whole rows lines arcs = record {
  lines = of_all (λ (r : LineRow). length r.cost ≡ event_kinds) rows.lines
      (recursion_from_All (λ (r : LineRow). length r.cost ≡ event_kinds) rows.lines lines);
  arcs = of_all (λ (r : ArcRow). length r.cost ≡ event_kinds) rows.arcs
      (recursion_from_All (λ (r : ArcRow). length r.cost ≡ event_kinds) rows.arcs arcs);
}
