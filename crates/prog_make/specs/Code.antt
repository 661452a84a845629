-- Code that is being put together.
use Rattle.std.specs.Prelude.{ℕ, ◌+◌, ◌*◌, ◌<◌, ◌^◌, List, length}
use Rattle.std.specs.List.{All, flat_map}
use Rattle.rv_decode.specs.declared.instr.Instr.{Instr}
use Rattle.rv_decode.specs.Encoded.{IsInRange, encode}
use Rattle.prog_make.specs.Encoding.{word_bytes}

-- instructions as bytes, and the address of the first one
pub record Code : Type 0 where
  pub base : ℕ
  pub bytes : List ℕ

-- the address behind the last instruction
abbrev pub end_of : Code → ℕ
end_of code = code.base + length code.bytes

-- the words of instructions, one after the other
unfoldable pub code_of : List Instr → List ℕ
code_of instrs = flat_map (λ i. word_bytes (encode i)) instrs

-- each instruction has its fields in their ranges, and the code from an address on ends below 2^32
pub record CanBeAssembled (base : ℕ) (instrs : List Instr) : Type 0 where
  pub in_range : All IsInRange instrs
  pub room : base + 4 * length instrs < 2 ^ 32
