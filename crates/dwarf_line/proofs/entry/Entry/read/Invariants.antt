use Rattle.std.proofs.Common.{◌≡◌, ◌≤◌, ◌+◌, drop, length}
use Rattle.dwarf_line.specs.Table.{fields_at, entry_at}
use Rattle.dwarf_line.specs.inner.Paths.{entry_in}
use Rattle.dwarf_line.proofs.entry.Entry.read.Given as goal

abbrev pub invariant-fields : goal.invariant-fields
invariant-fields l = record {
  rest : fields_at l.strings (drop l.field-index l.format) (entry_in l.strings l.entry) l.cursor
      ≡ entry_at l.strings l.format l.fn.cursor;
  shrinks : length l.cursor + l.field-index ≤ length l.fn.cursor;
}
