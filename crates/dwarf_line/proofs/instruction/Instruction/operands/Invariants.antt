use Rattle.std.proofs.Common.{◌≡◌, ◌≤◌, ◌-◌, length}
use Rattle.dwarf_line.specs.Instruction.{operands_at}
use Rattle.dwarf_line.proofs.instruction.Instruction.operands.Given as goal

abbrev pub invariant-operands : goal.invariant-operands
invariant-operands l = record {
  rest : operands_at (l.count - l.counter) l.cursor ≡ operands_at l.count l.fn.cursor;
  shrinks : length l.cursor ≤ length l.fn.cursor;
}
