use Rattle.std.proofs.Common.{◌≡◌, take}
use Rattle.dwarf_line.specs.Rows.{row_address}
use Rattle.dwarf_line.specs.LineRow.{last_at}
use Rattle.dwarf_line.proofs.line_table.last_at.Given as goal

abbrev pub invariant-loop-row : goal.invariant-loop-row
invariant-loop-row l = l.last ≡ last_at row_address l.addr (take l.row-index l.rows)
