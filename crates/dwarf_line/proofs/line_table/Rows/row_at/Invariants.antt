use Rattle.std.proofs.Common.{◌≡◌}
use Rattle.std.specs.Prelude.{find}
use Rattle.dwarf_line.specs.LineRow.{covers, line_address}
use Rattle.dwarf_line.specs.Rows.{sequences_of}
use Rattle.dwarf_line.proofs.LookUp.{found_from}
use Rattle.dwarf_line.proofs.line_table.Rows.row_at.Given as goal

abbrev pub invariant-sequences : goal.invariant-sequences
invariant-sequences l = found_from l.self.files l.rows l.sequence-items l.addr l.sequence-index
    ≡ find (covers line_address l.addr) (sequences_of l.self)
