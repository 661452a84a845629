-- The effect of each instruction (RISC-V unprivileged manual, chapters RV32I, M and A), and of one step.
use Rattle.std.specs.Prelude.{ℕ, ◌+◌, ◌-◌, ◌*◌, ◌%◌, ◌^◌, ◌==◌, not, Option, Some, None, nat_lt, nat_le, int_lt, int_le}
use Rattle.std.specs.Prelude.{min, max, bit_and, bit_or, bit_xor}
use Rattle.event_costs.specs.declared.event.Branch.TheVariants as branch
use Rattle.rv_decode.specs.Decoded.{decode}
use Rattle.rv_decode.specs.declared.instr.Instr.{Instr}
use Rattle.rv_decode.specs.declared.instr.Op.{Op}
use Rattle.rv_decode.specs.declared.instr.Op.TheVariants.{LUI, AUIPC, JAL, JALR, BEQ, BNE, BLT, BGE, BLTU, BGEU, LB, LH}
use Rattle.rv_decode.specs.declared.instr.Op.TheVariants.{LW, LBU, LHU, SB, SH, SW, ADDI, SLTI, SLTIU, XORI, ORI, ANDI}
use Rattle.rv_decode.specs.declared.instr.Op.TheVariants.{SLLI, SRLI, SRAI, ADD, SUB, SLL, SLT, SLTU, XOR, SRL, SRA, OR}
use Rattle.rv_decode.specs.declared.instr.Op.TheVariants.{AND, MUL, MULH, MULHSU, MULHU, DIV, DIVU, REM, REMU, FENCE}
use Rattle.rv_decode.specs.declared.instr.Op.TheVariants.{ECALL, EBREAK, LR, SC, AMOSWAP, AMOADD, AMOXOR, AMOAND, AMOOR}
use Rattle.rv_decode.specs.declared.instr.Op.TheVariants.{AMOMIN, AMOMAX, AMOMINU, AMOMAXU}
use Rattle.guest_mem.specs.Memory.{prot_exec, load_at}
use Rattle.rv_step.specs.Forms.{HartState, Outcome, register, immediate, address, offset, stays, faults, passes}
use Rattle.rv_step.specs.Forms.{computes, jumps, branches, loads, stores, reserves, stores_held, swaps}
use Rattle.rv_step.specs.Numbers.{signed, extended, flag, difference, shifted_left, shifted_right, shifted_right_signed}
use Rattle.rv_step.specs.Numbers.{high_signed, high_mixed, high_unsigned, quotient_signed, quotient_unsigned}
use Rattle.rv_step.specs.Numbers.{remainder_signed, remainder_unsigned, least_signed, greatest_signed}
use Rattle.rv_step.specs.declared.stepped.Stepped.TheVariants.{Call, Trap, Unknown}

-- the sources
abbrev pub rs1 : Instr → HartState → ℕ
rs1 i s = register i.rs1 s

abbrev pub rs2 : Instr → HartState → ℕ
rs2 i s = register i.rs2 s

abbrev pub effect_by : Op → Instr → HartState → Outcome
effect_by LUI i s = computes i s (immediate i)
effect_by AUIPC i s = computes i s (offset i s)
effect_by JAL i s = jumps i s (offset i s) branch.Nothing
effect_by JALR i s = jumps i s (address i s - address i s % 2) branch.Indirect
effect_by BEQ i s = branches i s (rs1 i s == rs2 i s)
effect_by BNE i s = branches i s (not (rs1 i s == rs2 i s))
effect_by BLT i s = branches i s (int_lt (signed (rs1 i s)) (signed (rs2 i s)))
effect_by BGE i s = branches i s (int_le (signed (rs2 i s)) (signed (rs1 i s)))
effect_by BLTU i s = branches i s (nat_lt (rs1 i s) (rs2 i s))
effect_by BGEU i s = branches i s (nat_le (rs2 i s) (rs1 i s))
effect_by LB i s = loads i s 1 (extended 8)
effect_by LH i s = loads i s 2 (extended 16)
effect_by LW i s = loads i s 4 (λ n. n)
effect_by LBU i s = loads i s 1 (λ n. n)
effect_by LHU i s = loads i s 2 (λ n. n)
effect_by SB i s = stores i s 1
effect_by SH i s = stores i s 2
effect_by SW i s = stores i s 4
effect_by ADDI i s = computes i s ((rs1 i s + immediate i) % 2 ^ 32)
effect_by SLTI i s = computes i s (flag (int_lt (signed (rs1 i s)) i.imm))
effect_by SLTIU i s = computes i s (flag (nat_lt (rs1 i s) (immediate i)))
effect_by XORI i s = computes i s (bit_xor (rs1 i s) (immediate i))
effect_by ORI i s = computes i s (bit_or (rs1 i s) (immediate i))
effect_by ANDI i s = computes i s (bit_and (rs1 i s) (immediate i))
effect_by SLLI i s = computes i s (shifted_left (rs1 i s) (immediate i))
effect_by SRLI i s = computes i s (shifted_right (rs1 i s) (immediate i))
effect_by SRAI i s = computes i s (shifted_right_signed (rs1 i s) (immediate i))
effect_by ADD i s = computes i s ((rs1 i s + rs2 i s) % 2 ^ 32)
effect_by SUB i s = computes i s (difference (rs1 i s) (rs2 i s))
effect_by SLL i s = computes i s (shifted_left (rs1 i s) (rs2 i s))
effect_by SLT i s = computes i s (flag (int_lt (signed (rs1 i s)) (signed (rs2 i s))))
effect_by SLTU i s = computes i s (flag (nat_lt (rs1 i s) (rs2 i s)))
effect_by XOR i s = computes i s (bit_xor (rs1 i s) (rs2 i s))
effect_by SRL i s = computes i s (shifted_right (rs1 i s) (rs2 i s))
effect_by SRA i s = computes i s (shifted_right_signed (rs1 i s) (rs2 i s))
effect_by OR i s = computes i s (bit_or (rs1 i s) (rs2 i s))
effect_by AND i s = computes i s (bit_and (rs1 i s) (rs2 i s))
effect_by MUL i s = computes i s (rs1 i s * rs2 i s % 2 ^ 32)
effect_by MULH i s = computes i s (high_signed (rs1 i s) (rs2 i s))
effect_by MULHSU i s = computes i s (high_mixed (rs1 i s) (rs2 i s))
effect_by MULHU i s = computes i s (high_unsigned (rs1 i s) (rs2 i s))
effect_by DIV i s = computes i s (quotient_signed (rs1 i s) (rs2 i s))
effect_by DIVU i s = computes i s (quotient_unsigned (rs1 i s) (rs2 i s))
effect_by REM i s = computes i s (remainder_signed (rs1 i s) (rs2 i s))
effect_by REMU i s = computes i s (remainder_unsigned (rs1 i s) (rs2 i s))
effect_by FENCE i s = passes s
effect_by ECALL i s = stays Call s
effect_by EBREAK i s = stays (Trap 5) s
effect_by LR i s = reserves i s
effect_by SC i s = stores_held i s
effect_by AMOSWAP i s = swaps i s (λ old b. b)
effect_by AMOADD i s = swaps i s (λ old b. (old + b) % 2 ^ 32)
effect_by AMOXOR i s = swaps i s bit_xor
effect_by AMOAND i s = swaps i s bit_and
effect_by AMOOR i s = swaps i s bit_or
effect_by AMOMIN i s = swaps i s least_signed
effect_by AMOMAX i s = swaps i s greatest_signed
effect_by AMOMINU i s = swaps i s min
effect_by AMOMAXU i s = swaps i s max

-- the effect of an instruction
unfoldable pub effect_of : Instr → HartState → Outcome
effect_of i s = effect_by i.op i s

-- the effect of a fetched word
abbrev pub word_effect : ℕ → Option Instr → HartState → Outcome
word_effect word None s = stays (Unknown word) s
word_effect word (Some i) s = effect_of i s

-- the effect of what the fetch gave
abbrev pub fetched_effect : Option ℕ → HartState → Outcome
fetched_effect None s = faults s
fetched_effect (Some word) s = word_effect word (decode word) s

-- one step: the word at the pc, which has to be executable, is decoded and takes effect
unfoldable pub step_of : HartState → Outcome
step_of s = fetched_effect (load_at s.memory prot_exec s.regs.pc 4) s
