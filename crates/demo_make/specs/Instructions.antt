-- The instructions that the program has, by their operands in the assembler's order (RISC-V unprivileged manual, 2.4 to
-- 2.8), and the registers by the names of the calling convention.
use Rattle.std.specs.Prelude.{ℕ, ℤ, pos, neg_ℤ, ◌-ℤ◌, ◌*◌}
use Rattle.rv_decode.specs.declared.instr.Instr.{Instr}
use Rattle.rv_decode.specs.declared.instr.Op.{Op}
use Rattle.rv_decode.specs.declared.instr.Op.TheVariants.{ADDI, ECALL, JAL, JALR, LUI, LW, SW}

-- ---- registers

abbrev pub x0 : ℕ
x0 = 0

abbrev pub ra : ℕ
ra = 1

abbrev pub sp : ℕ
sp = 2

abbrev pub t1 : ℕ
t1 = 6

abbrev pub t2 : ℕ
t2 = 7

abbrev pub s0 : ℕ
s0 = 8

abbrev pub s1 : ℕ
s1 = 9

abbrev pub a0 : ℕ
a0 = 10

abbrev pub a1 : ℕ
a1 = 11

abbrev pub a2 : ℕ
a2 = 12

abbrev pub a3 : ℕ
a3 = 13

abbrev pub a4 : ℕ
a4 = 14

abbrev pub a7 : ℕ
a7 = 17

-- ---- instructions

abbrev pub addi : ℕ → ℕ → ℤ → Instr
addi rd rs1 imm = record { op = ADDI; rd = rd; rs1 = rs1; rs2 = 0; imm = imm; order = 0 }

-- the upper 20 bits of a register
abbrev pub lui : ℕ → ℕ → Instr
lui rd upper = record { op = LUI; rd = rd; rs1 = 0; rs2 = 0; imm = pos (4096 * upper); order = 0 }

abbrev pub lw : ℕ → ℤ → ℕ → Instr
lw rd imm rs1 = record { op = LW; rd = rd; rs1 = rs1; rs2 = 0; imm = imm; order = 0 }

abbrev pub sw : ℕ → ℤ → ℕ → Instr
sw rs2 imm rs1 = record { op = SW; rd = 0; rs1 = rs1; rs2 = rs2; imm = imm; order = 0 }

-- a branch by this many bytes
abbrev pub branch : Op → ℕ → ℕ → ℤ → Instr
branch op rs1 rs2 offset = record { op = op; rd = 0; rs1 = rs1; rs2 = rs2; imm = offset; order = 0 }

-- a jump by this many bytes
abbrev pub jal : ℕ → ℤ → Instr
jal rd offset = record { op = JAL; rd = rd; rs1 = 0; rs2 = 0; imm = offset; order = 0 }

-- a jump to the address in a register
abbrev pub jalr : ℕ → ℤ → ℕ → Instr
jalr rd imm rs1 = record { op = JALR; rd = rd; rs1 = rs1; rs2 = 0; imm = imm; order = 0 }

abbrev pub ecall : Instr
ecall = record { op = ECALL; rd = 0; rs1 = 0; rs2 = 0; imm = pos 0; order = 0 }

-- ---- numbers

-- below 0
abbrev pub less : ℕ → ℤ
less n = neg_ℤ (pos n)

-- from an instruction's address to that of another
abbrev pub offset : ℕ → ℕ → ℤ
offset from to = pos to -ℤ pos from
