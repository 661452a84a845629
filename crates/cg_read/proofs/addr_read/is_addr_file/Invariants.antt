use Rattle.std.proofs.Common.{◌≡◌, map}
use Rattle.cg_lines.specs.Lines.{lines}
use Rattle.cg_lines.specs.Shapes.{line_of}
use Rattle.cg_read.specs.AddressReading.{first_positions}
use Rattle.cg_read.proofs.addr_read.is_addr_file.Given as goal

abbrev pub invariant-lines : goal.invariant-lines
invariant-lines l = record {
  can : (goal.iterator-lines).can_next l.text-iterator;
  ends : (goal.iterator-lines).is_finite l.text-iterator;
  rest : first_positions (map line_of (lines l.bytes)) ≡ first_positions (map line_of l.text-iterator);
}
