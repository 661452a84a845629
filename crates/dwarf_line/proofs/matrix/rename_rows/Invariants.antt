use Rattle.std.proofs.Common.{◌≡◌}
use Rattle.dwarf_line.specs.inner.Files.{renamed_row}
use Rattle.dwarf_line.proofs.Naming.{part}
use Rattle.dwarf_line.proofs.matrix.rename_rows.Given as goal

abbrev pub invariant-rows : goal.invariant-rows
invariant-rows l = l.rows ≡ part (renamed_row l.numbers) l.i l.fn.rows
