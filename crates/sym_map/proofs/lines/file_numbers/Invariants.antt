use Rattle.std.proofs.Common.{length, map, take}
use Rattle.std.specs.Prelude.{All, flat_map}
use Rattle.dwarf_line.specs.declared.row.Row.{Row}
use Rattle.dwarf_line.specs.Rows.{IsPlaced, IsRising, row_address, sequence_in}
use Rattle.sym_map.specs.inner.Rows.{IsBounded, rows_in}
use Rattle.sym_map.proofs.Members.{Alike}
use Rattle.sym_map.proofs.lines.file_numbers.Given as goal

abbrev pub invariant-sequences : goal.invariant-sequences
invariant-sequences l = record {
  same : Alike l.numbers.items
      (map (λ (row : Row). row.file) (flat_map (rows_in l.rows.rows) (take l.i l.rows.sequences)));
  bounded : All (IsBounded (length l.rows.files)) (flat_map (rows_in l.rows.rows) (take l.i l.rows.sequences));
  placed : All (IsPlaced (length l.rows.rows)) (take l.i l.rows.sequences);
  rise : All (λ sequence. IsRising row_address (sequence_in l.rows.rows sequence)) (take l.i l.rows.sequences);
}
