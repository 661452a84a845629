use Rattle.std.proofs.Common.{◌++◌, length, map}
use Rattle.std.specs.Prelude.{All, slice_range}
use Rattle.dwarf_line.specs.declared.row.Row.{Row}
use Rattle.sym_map.specs.inner.Rows.{IsBounded}
use Rattle.sym_map.proofs.Members.{Alike}
use Rattle.sym_map.proofs.lines.push_files.Given as goal

abbrev pub invariant-rows : goal.invariant-rows
invariant-rows l = record {
  same : Alike l.numbers.items
      (l.initial.numbers.items ++ map (λ (row : Row). row.file) (slice_range l.rows.rows l.fn.sequence.first l.i));
  bounded : All (IsBounded (length l.rows.files)) (slice_range l.rows.rows l.fn.sequence.first l.i);
}
