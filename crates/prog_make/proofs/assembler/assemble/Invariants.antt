-- The code is that of the instructions before, four bytes for each.
use Rattle.std.proofs.Common.{◌≡◌, ◌*◌, length, take}
use Rattle.prog_make.specs.Code.{code_of}
use Rattle.prog_make.proofs.assembler.assemble.Given as goal

abbrev pub invariant-instrs : goal.invariant-instrs
invariant-instrs l = record {
  base : l.assembler.base ≡ l.fn.base;
  bytes : l.assembler.bytes ≡ code_of (take l.instr-index l.instrs);
  len : length l.assembler.bytes ≡ 4 * l.instr-index;
}
