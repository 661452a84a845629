use Rattle.std.proofs.Common.{◌≡◌, ◌+◌, ◌≤◌, ℕ, length, map, take}
use Rattle.event_costs.specs.Keys.{Place}
use Rattle.arc_costs.specs.Contents.{cost_row}
use Rattle.arc_costs.specs.Lines.{add_lines, line_sum}
use Rattle.arc_costs.proofs.merging.merge_lines.Given as goal

abbrev pub invariant-lines : goal.invariant-lines
invariant-lines g l = record {
  rows : map cost_row l.table.rows ≡ add_lines (map cost_row l.initial.table.rows) (take l.row-index l.lines);
  sums : (event : ℕ) (place : Place)
      → line_sum event place (map cost_row l.table.rows) ≡ line_sum event place (map cost_row l.initial.table.rows)
      + line_sum event place (take l.row-index l.lines);
  room : l.table.room ≡ 1;
  ahead : length l.lines ≤ l.table.ahead + l.row-index;
}
