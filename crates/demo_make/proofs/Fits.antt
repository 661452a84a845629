-- Each kind of instruction has its fields in their ranges.
use Rattle.std.proofs.Common.{◌≡◌, ℕ, ◌+◌, ◌*◌, ◌%◌, ◌^◌, ◌<◌, ◌≤◌, refl, arith}
use Rattle.std.proofs.Common.{ℤ}
use Rattle.rv_decode.specs.declared.instr.Op.TheVariants.{BEQ, BLT, BNE, LR, SW}
use Rattle.rv_decode.specs.Encoded.{IsInRange, IsSigned, IsMultipleOf}
use Rattle.rv_decode.specs.Table.{row_of}
use Rattle.demo_make.specs.Instructions.{addi, lui, lw, sw, branch, jal, jalr, ecall, offset}
use Rattle.demo_make.proofs.Offsets.{within, even}

pub addi-fits : (rd rs1 : ℕ) (imm : ℤ) → rd < 32 → rs1 < 32 → IsSigned 12 imm → IsInRange (addi rd rs1 imm)
unfolding row_of
addi-fits rd rs1 imm d s i = record { ranges = (d, s, refl, i, refl); reserved = λ e. refl }

pub lw-fits : (rd : ℕ) (imm : ℤ) (rs1 : ℕ) → rd < 32 → rs1 < 32 → IsSigned 12 imm → IsInRange (lw rd imm rs1)
unfolding row_of
lw-fits rd imm rs1 d s i = record { ranges = (d, s, refl, i, refl); reserved = λ e. refl }

pub jalr-fits : (rd : ℕ) (imm : ℤ) (rs1 : ℕ) → rd < 32 → rs1 < 32 → IsSigned 12 imm → IsInRange (jalr rd imm rs1)
unfolding row_of
jalr-fits rd imm rs1 d s i = record { ranges = (d, s, refl, i, refl); reserved = λ e. refl }

pub sw-fits : (rs2 : ℕ) (imm : ℤ) (rs1 : ℕ) → rs2 < 32 → rs1 < 32 → IsSigned 12 imm → IsInRange (sw rs2 imm rs1)
unfolding row_of
sw-fits rs2 imm rs1 t s i = record { ranges = (refl, s, t, i, refl); reserved = λ (e : SW ≡ LR). absurd cc }

pub lui-fits : (rd upper : ℕ) → rd < 32 → upper < 2 ^ 19 → IsInRange (lui rd upper)
unfolding row_of
lui-fits rd upper d u =
    let small : 4096 * upper < 2147483648 = omega arith in
    let whole : 4096 * upper % 4096 ≡ 0 = omega arith in
    record { ranges = (d, refl, refl, (small, whole), refl); reserved = λ e. refl }

-- a jump or a branch from one address to another
pub jal-fits : (rd from to : ℕ) → rd < 32 → from < 2 ^ 18 → to < 2 ^ 18 → from % 2 ≡ 0 → to % 2 ≡ 0
    → IsInRange (jal rd (offset from to))
unfolding row_of
jal-fits rd from to d f t ef et =
    let low : from ≤ to + 1048576 = omega arith in
    let high : to < from + 1048576 = omega arith in
    let near = within 1048576 from to low high in
    record { ranges = (d, refl, refl, (near, even from to ef et), refl); reserved = λ e. refl }

pub jal-near : (rd : ℕ) (imm : ℤ) → rd < 32 → IsSigned 21 imm → IsMultipleOf 2 imm → IsInRange (jal rd imm)
unfolding row_of
jal-near rd imm d i m = record { ranges = (d, refl, refl, (i, m), refl); reserved = λ e. refl }

pub beq-fits : (rs1 rs2 : ℕ) (imm : ℤ) → rs1 < 32 → rs2 < 32 → IsSigned 13 imm → IsMultipleOf 2 imm
    → IsInRange (branch BEQ rs1 rs2 imm)
unfolding row_of
beq-fits rs1 rs2 imm s t i m =
    record { ranges = (refl, s, t, (i, m), refl); reserved = λ (e : BEQ ≡ LR). absurd cc }

pub bne-fits : (rs1 rs2 : ℕ) (imm : ℤ) → rs1 < 32 → rs2 < 32 → IsSigned 13 imm → IsMultipleOf 2 imm
    → IsInRange (branch BNE rs1 rs2 imm)
unfolding row_of
bne-fits rs1 rs2 imm s t i m =
    record { ranges = (refl, s, t, (i, m), refl); reserved = λ (e : BNE ≡ LR). absurd cc }

pub blt-fits : (rs1 rs2 : ℕ) (imm : ℤ) → rs1 < 32 → rs2 < 32 → IsSigned 13 imm → IsMultipleOf 2 imm
    → IsInRange (branch BLT rs1 rs2 imm)
unfolding row_of
blt-fits rs1 rs2 imm s t i m =
    record { ranges = (refl, s, t, (i, m), refl); reserved = λ (e : BLT ≡ LR). absurd cc }

pub ecall-fits : IsInRange ecall
unfolding row_of
ecall-fits = record { ranges = (refl, refl, refl, refl, refl); reserved = λ e. refl }
