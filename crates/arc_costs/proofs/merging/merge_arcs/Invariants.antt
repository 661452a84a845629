use Rattle.std.proofs.Common.{◌≡◌, ◌+◌, ◌≤◌, ℕ, length, map, take}
use Rattle.event_costs.specs.Keys.{ArcKey}
use Rattle.arc_costs.specs.Arcs.{add_arcs, arc_sum, call_sum}
use Rattle.arc_costs.specs.Contents.{arc_row}
use Rattle.arc_costs.proofs.merging.merge_arcs.Given as goal

abbrev pub invariant-arcs : goal.invariant-arcs
invariant-arcs g l = record {
  rows : map arc_row l.table.rows ≡ add_arcs (map arc_row l.initial.table.rows) (take l.row-index l.arcs);
  costs : (event : ℕ) (arc : ArcKey)
      → arc_sum event arc (map arc_row l.table.rows) ≡ arc_sum event arc (map arc_row l.initial.table.rows)
      + arc_sum event arc (take l.row-index l.arcs);
  calls : (arc : ArcKey)
      → call_sum arc (map arc_row l.table.rows) ≡ call_sum arc (map arc_row l.initial.table.rows) + call_sum arc
      (take l.row-index l.arcs);
  room : l.table.room ≡ 1;
  ahead : length l.arcs ≤ l.table.ahead + l.row-index;
}
