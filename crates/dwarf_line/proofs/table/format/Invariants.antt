use Rattle.std.proofs.Common.{◌≡◌, ◌≤◌, ◌-◌, length, vec_len}
use Rattle.dwarf_line.specs.Bytes.{many_at}
use Rattle.dwarf_line.specs.Table.{pair_at}
use Rattle.dwarf_line.proofs.Many.{with_front}
use Rattle.dwarf_line.proofs.table.format.Given as goal

abbrev pub invariant-fields : goal.invariant-fields
invariant-fields l = record {
  rest : with_front l.fields.items (many_at pair_at (l.count - l.counter) l.cursor)
      ≡ many_at pair_at l.count l.fn.cursor;
  len : vec_len l.fields ≡ l.counter;
  shrinks : length l.cursor ≤ length l.fn.cursor;
}
