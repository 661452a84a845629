-- An instruction's fields at their places in a word, and the ranges that they have
-- (RISC-V unprivileged manual, 2.2 and 2.3).
use Rattle.std.specs.Prelude.{◌≡◌, ℕ, ◌+◌, ◌-◌, ◌*◌, ◌%◌, ◌^◌, ◌<◌, ℤ, pos, negsuc}
use Rattle.std.specs.Int.{cast_unsigned, w32}
use Rattle.rv_decode.specs.Fields.{field}
use Rattle.rv_decode.specs.Table.{row_of}
use Rattle.rv_decode.specs.declared.instr.Instr.{Instr}
use Rattle.rv_decode.specs.declared.instr.Op.TheVariants.{JAL, BEQ, BNE, BLT, BGE, BLTU, BGEU, SLLI, SRLI, SRAI, LR}
use Rattle.rv_decode.specs.declared.row.Shape.{Shape}
use Rattle.rv_decode.specs.declared.row.Shape.TheVariants.{R, I, S, B, U, J, Shift, Fence, Whole, Atomic}

-- bits low to low + len - 1 of an immediate in two's complement
abbrev pub imm_bits : ℕ → ℕ → Instr → ℕ
imm_bits low len i = field low len (cast_unsigned w32 i.imm)

-- the fields at their places, the row's own bits aside
abbrev pub operand_bits : Shape → Instr → ℕ
operand_bits R i = i.rd * 2 ^ 7 + i.rs1 * 2 ^ 15 + i.rs2 * 2 ^ 20
operand_bits I i = i.rd * 2 ^ 7 + i.rs1 * 2 ^ 15 + imm_bits 0 12 i * 2 ^ 20
operand_bits S i = imm_bits 0 5 i * 2 ^ 7 + i.rs1 * 2 ^ 15 + i.rs2 * 2 ^ 20 + imm_bits 5 7 i * 2 ^ 25
operand_bits B i = imm_bits 11 1 i * 2 ^ 7 + imm_bits 1 4 i * 2 ^ 8 + i.rs1 * 2 ^ 15 + i.rs2 * 2 ^ 20
    + imm_bits 5 6 i * 2 ^ 25 + imm_bits 12 1 i * 2 ^ 31
operand_bits U i = i.rd * 2 ^ 7 + imm_bits 12 20 i * 2 ^ 12
operand_bits J i = i.rd * 2 ^ 7 + imm_bits 12 8 i * 2 ^ 12 + imm_bits 11 1 i * 2 ^ 20 + imm_bits 1 10 i * 2 ^ 21
    + imm_bits 20 1 i * 2 ^ 31
operand_bits Shift i = i.rd * 2 ^ 7 + i.rs1 * 2 ^ 15 + imm_bits 0 5 i * 2 ^ 20
operand_bits Fence i = i.rd * 2 ^ 7 + i.rs1 * 2 ^ 15 + imm_bits 0 12 i * 2 ^ 20
operand_bits Whole i = 0
operand_bits Atomic i = i.rd * 2 ^ 7 + i.rs1 * 2 ^ 15 + i.rs2 * 2 ^ 20 + i.order * 2 ^ 25

-- the word of an instruction: its row's bits and its fields
unfoldable pub encode : Instr → ℕ
encode i = (row_of i.op).bits + operand_bits (row_of i.op).shape i

-- from -half to half - 1; negsuc n is -(n + 1)
abbrev pub IsWithin : ℕ → ℤ → Type 0
IsWithin half (pos n) = n < half
IsWithin half (negsuc n) = n < half

-- a signed number of so many bits
abbrev pub IsSigned : ℕ → ℤ → Type 0
IsSigned bits z = IsWithin (2 ^ (bits - 1)) z

-- a whole multiple
abbrev pub IsMultipleOf : ℕ → ℤ → Type 0
IsMultipleOf k (pos n) = n % k ≡ 0
IsMultipleOf k (negsuc n) = (n + 1) % k ≡ 0

-- a shift's amount
abbrev pub IsAmount : ℤ → Type 0
IsAmount (pos n) = n < 32
IsAmount (negsuc n) = ⊥

-- the ranges of rd, rs1, rs2, the immediate and the ordering bits; a field that the shape lacks is 0
abbrev pub HasRanges : Shape → Instr → Type 0
HasRanges R i = (i.rd < 32) × (i.rs1 < 32) × (i.rs2 < 32) × (i.imm ≡ pos 0) × (i.order ≡ 0)
HasRanges I i = (i.rd < 32) × (i.rs1 < 32) × (i.rs2 ≡ 0) × IsSigned 12 i.imm × (i.order ≡ 0)
HasRanges S i = (i.rd ≡ 0) × (i.rs1 < 32) × (i.rs2 < 32) × IsSigned 12 i.imm × (i.order ≡ 0)
HasRanges B i = (i.rd ≡ 0) × (i.rs1 < 32) × (i.rs2 < 32) × (IsSigned 13 i.imm × IsMultipleOf 2 i.imm) × (i.order ≡ 0)
HasRanges U i = (i.rd < 32) × (i.rs1 ≡ 0) × (i.rs2 ≡ 0) × (IsSigned 32 i.imm × IsMultipleOf 4096 i.imm) × (i.order ≡ 0)
HasRanges J i = (i.rd < 32) × (i.rs1 ≡ 0) × (i.rs2 ≡ 0) × (IsSigned 21 i.imm × IsMultipleOf 2 i.imm) × (i.order ≡ 0)
HasRanges Shift i = (i.rd < 32) × (i.rs1 < 32) × (i.rs2 ≡ 0) × IsAmount i.imm × (i.order ≡ 0)
HasRanges Fence i = (i.rd < 32) × (i.rs1 < 32) × (i.rs2 ≡ 0) × IsSigned 12 i.imm × (i.order ≡ 0)
HasRanges Whole i = (i.rd ≡ 0) × (i.rs1 ≡ 0) × (i.rs2 ≡ 0) × (i.imm ≡ pos 0) × (i.order ≡ 0)
HasRanges Atomic i = (i.rd < 32) × (i.rs1 < 32) × (i.rs2 < 32) × (i.imm ≡ pos 0) × (i.order < 4)

-- the fields are in the ranges of the instruction's row; LR has no rs2
pub record IsInRange (i : Instr) : Type 0 where
  pub ranges : HasRanges (row_of i.op).shape i
  pub reserved : i.op ≡ LR → i.rs2 ≡ 0

-- the registers and the ordering bits of any instruction
pub record HasRegisters (i : Instr) : Type 0 where
  pub rd : i.rd < 32
  pub rs1 : i.rs1 < 32
  pub rs2 : i.rs2 < 32
  pub order : i.order < 4

-- the amount of each shift by a constant
pub record HasAmounts (i : Instr) : Type 0 where
  pub slli : i.op ≡ SLLI → IsAmount i.imm
  pub srli : i.op ≡ SRLI → IsAmount i.imm
  pub srai : i.op ≡ SRAI → IsAmount i.imm

-- the offset of JAL and of each branch
pub record HasEvenOffsets (i : Instr) : Type 0 where
  pub jal : i.op ≡ JAL → IsMultipleOf 2 i.imm
  pub beq : i.op ≡ BEQ → IsMultipleOf 2 i.imm
  pub bne : i.op ≡ BNE → IsMultipleOf 2 i.imm
  pub blt : i.op ≡ BLT → IsMultipleOf 2 i.imm
  pub bge : i.op ≡ BGE → IsMultipleOf 2 i.imm
  pub bltu : i.op ≡ BLTU → IsMultipleOf 2 i.imm
  pub bgeu : i.op ≡ BGEU → IsMultipleOf 2 i.imm
