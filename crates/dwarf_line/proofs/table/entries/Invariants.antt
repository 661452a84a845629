use Rattle.std.proofs.Common.{◌≡◌, ◌≤◌, ◌-◌, ◌+◌, length, map, vec_len}
use Rattle.dwarf_line.specs.Bytes.{many_at}
use Rattle.dwarf_line.specs.Table.{entry_at}
use Rattle.dwarf_line.specs.inner.Paths.{entry_in}
use Rattle.dwarf_line.proofs.Many.{with_front}
use Rattle.dwarf_line.proofs.table.entries.Given as goal

abbrev pub invariant-entries : goal.invariant-entries
invariant-entries l = record {
  rest : with_front (map (entry_in l.strings) l.entries.items)
      (many_at (entry_at l.strings l.format) (l.count - l.counter) l.cursor)
      ≡ many_at (entry_at l.strings l.format) l.count l.fn.cursor;
  room : vec_len l.entries + length l.cursor ≤ length l.fn.cursor;
}
