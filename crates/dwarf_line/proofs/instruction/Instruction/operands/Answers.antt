use Rattle.std.proofs.Common.{◌≡◌, ℕ, ◌-◌, ◌+◌, ◌<◌, suc, List, Some, refl, sym, ◌∙◌, arith}
use Rattle.dwarf_line.specs.Leb128.{uleb128_at}
use Rattle.dwarf_line.specs.Instruction.{operands_at}
use Rattle.dwarf_line.proofs.instruction.Instruction.operands.Goals as goal

one_less : (count i operand : ℕ) (bytes after : List ℕ) → i < count → uleb128_at bytes ≡ Some (operand, after)
    → operands_at (count - i) bytes ≡ operands_at (count - (i + 1)) after
one_less count i operand bytes after lt read =
    let k : count - i ≡ suc (count - (i + 1)) = omega arith in
    rw (k, read) refl

pub operands-preserved : goal.operands-preserved
operands-preserved c = record {
  rest = sym (one_less c.args.count c.operands.counter _ c.operands.cursor c.uleb128.new.self c.operands-test.true
      c.in_ok-uleb128.ensures.read) ∙ c.operands.invariant.rest;
  shrinks = omega (arith, c.in_ok-uleb128.ensures.shrinks);
}
