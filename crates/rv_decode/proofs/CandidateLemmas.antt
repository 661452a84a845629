-- A word that matches the row of an instruction has this instruction as its candidate.
use Rattle.std.proofs.Common.{◌≡◌, ℕ, ◌-◌, ◌/◌, ◌%◌, ◌^◌, bit_and, refl, sym, ap, ◌∙◌, Option, Some}
use Rattle.std.proofs.Math.Nat.{mod-mod}
use Rattle.std.proofs.lemmas.Nat.{and_mask, and_mod, and_shr}
use Rattle.rv_decode.specs.inner.Candidate.{candidate_by, candidate_of}
use Rattle.rv_decode.specs.Fields.{field}
use Rattle.rv_decode.specs.Matching.{Matches}
use Rattle.rv_decode.specs.Table.{row_of}
use Rattle.rv_decode.specs.declared.instr.Op.{Op}
use Rattle.rv_decode.specs.declared.instr.Op.TheVariants.{LUI, AUIPC, JAL, JALR, BEQ, BNE, BLT, BGE, BLTU, BGEU, LB, LH}
use Rattle.rv_decode.specs.declared.instr.Op.TheVariants.{LW, LBU, LHU, SB, SH, SW, ADDI, SLTI, SLTIU, XORI, ORI, ANDI}
use Rattle.rv_decode.specs.declared.instr.Op.TheVariants.{SLLI, SRLI, SRAI, ADD, SUB, SLL, SLT, SLTU, XOR, SRL, SRA, OR}
use Rattle.rv_decode.specs.declared.instr.Op.TheVariants.{AND, MUL, MULH, MULHSU, MULHU, DIV, DIVU, REM, REMU, FENCE}
use Rattle.rv_decode.specs.declared.instr.Op.TheVariants.{ECALL, EBREAK, LR, SC, AMOSWAP, AMOADD, AMOXOR, AMOAND, AMOOR}
use Rattle.rv_decode.specs.declared.instr.Op.TheVariants.{AMOMIN, AMOMAX, AMOMINU, AMOMAXU}

-- a field that lies whole under the mask is that of the bits
pub field-masked : (low len w mask bits : ℕ) → bit_and w mask ≡ bits → field low len mask ≡ 2 ^ len - 1
    → field low len w ≡ field low len bits
field-masked low len w mask bits h whole =
    sym (mod-mod (w / 2 ^ low) (2 ^ len))
    ∙ sym (and_mask (w / 2 ^ low % 2 ^ len) len)
    ∙ ap (λ m. bit_and (w / 2 ^ low % 2 ^ len) m) (sym whole)
    ∙ sym (and_mod (w / 2 ^ low) (mask / 2 ^ low) len)
    ∙ ap (λ x. x % 2 ^ len) (sym (and_shr w mask low))
    ∙ ap (λ x. x / 2 ^ low % 2 ^ len) h

-- the candidate, where these fields are known
known :
    (w : ℕ) (opcode funct3 funct7 bit20 funct5 : ℕ) (o : Option Op) →
    field 0 7 w ≡ opcode → field 12 3 w ≡ funct3 → field 25 7 w ≡ funct7 → field 20 1 w ≡ bit20
    → field 27 5 w ≡ funct5 →
    candidate_by opcode funct3 funct7 bit20 funct5 ≡ o →
    candidate_of w ≡ o
known w opcode funct3 funct7 bit20 funct5 o a b c d e is =
    ap (λ x. candidate_by x (field 12 3 w) (field 25 7 w) (field 20 1 w) (field 27 5 w)) a
    ∙ ap (λ x. candidate_by opcode x (field 25 7 w) (field 20 1 w) (field 27 5 w)) b
    ∙ ap (λ x. candidate_by opcode funct3 x (field 20 1 w) (field 27 5 w)) c
    ∙ ap (λ x. candidate_by opcode funct3 funct7 x (field 27 5 w)) d
    ∙ ap (λ x. candidate_by opcode funct3 funct7 bit20 x) e
    ∙ is

by_opcode : (w bits : ℕ) (o : Option Op) → bit_and w 0x7f ≡ bits
    → ((f3 f7 b20 f5 : ℕ) → candidate_by (field 0 7 bits) f3 f7 b20 f5 ≡ o) → candidate_of w ≡ o
by_opcode w bits o h is =
    known w _ _ _ _ _ o (field-masked 0 7 w 0x7f bits h refl) refl refl refl refl
    (is (field 12 3 w) (field 25 7 w) (field 20 1 w) (field 27 5 w))

by_funct3 : (w bits : ℕ) (o : Option Op) → bit_and w 0x707f ≡ bits
    → ((f7 b20 f5 : ℕ) → candidate_by (field 0 7 bits) (field 12 3 bits) f7 b20 f5 ≡ o) → candidate_of w ≡ o
by_funct3 w bits o h is =
    known w _ _ _ _ _ o (field-masked 0 7 w 0x707f bits h refl) (field-masked 12 3 w 0x707f bits h refl) refl refl refl
    (is (field 25 7 w) (field 20 1 w) (field 27 5 w))

by_funct7 : (w bits : ℕ) (o : Option Op) → bit_and w 0xfe00707f ≡ bits
    → ((b20 : ℕ) → candidate_by (field 0 7 bits) (field 12 3 bits) (field 25 7 bits) b20 (field 27 5 bits) ≡ o)
    → candidate_of w ≡ o
by_funct7 w bits o h is =
    known w _ _ _ _ _ o
    (field-masked 0 7 w 0xfe00707f bits h refl) (field-masked 12 3 w 0xfe00707f bits h refl)
    (field-masked 25 7 w 0xfe00707f bits h refl)
    refl (field-masked 27 5 w 0xfe00707f bits h refl) (is (field 20 1 w))

by_funct5 : (w mask bits : ℕ) (o : Option Op) → bit_and w mask ≡ bits → field 0 7 mask ≡ 127 → field 12 3 mask ≡ 7
    → field 27 5 mask ≡ 31
    → ((f7 b20 : ℕ) → candidate_by (field 0 7 bits) (field 12 3 bits) f7 b20 (field 27 5 bits) ≡ o) → candidate_of w ≡ o
by_funct5 w mask bits o h m0 m12 m27 is =
    known w _ _ _ _ _ o
    (field-masked 0 7 w mask bits h m0) (field-masked 12 3 w mask bits h m12) refl
    refl (field-masked 27 5 w mask bits h m27) (is (field 25 7 w) (field 20 1 w))

by_word : (w bits : ℕ) (o : Option Op) → bit_and w 0xffffffff ≡ bits
    → candidate_by (field 0 7 bits) (field 12 3 bits) (field 25 7 bits) (field 20 1 bits) (field 27 5 bits) ≡ o
    → candidate_of w ≡ o
by_word w bits o h is =
    known w _ _ _ _ _ o
    (field-masked 0 7 w 0xffffffff bits h refl) (field-masked 12 3 w 0xffffffff bits h refl)
    (field-masked 25 7 w 0xffffffff bits h refl)
    (field-masked 20 1 w 0xffffffff bits h refl) (field-masked 27 5 w 0xffffffff bits h refl) is

pub matched-candidate : (w : ℕ) (o : Op) → Matches w (row_of o) → candidate_of w ≡ Some o
unfolding row_of
matched-candidate w LUI h = by_opcode w 55 (Some LUI) h (λ f3 f7 b20 f5. refl)
matched-candidate w AUIPC h = by_opcode w 23 (Some AUIPC) h (λ f3 f7 b20 f5. refl)
matched-candidate w JAL h = by_opcode w 111 (Some JAL) h (λ f3 f7 b20 f5. refl)
matched-candidate w JALR h = by_funct3 w 103 (Some JALR) h (λ f7 b20 f5. refl)
matched-candidate w BEQ h = by_funct3 w 99 (Some BEQ) h (λ f7 b20 f5. refl)
matched-candidate w BNE h = by_funct3 w 4195 (Some BNE) h (λ f7 b20 f5. refl)
matched-candidate w BLT h = by_funct3 w 16483 (Some BLT) h (λ f7 b20 f5. refl)
matched-candidate w BGE h = by_funct3 w 20579 (Some BGE) h (λ f7 b20 f5. refl)
matched-candidate w BLTU h = by_funct3 w 24675 (Some BLTU) h (λ f7 b20 f5. refl)
matched-candidate w BGEU h = by_funct3 w 28771 (Some BGEU) h (λ f7 b20 f5. refl)
matched-candidate w LB h = by_funct3 w 3 (Some LB) h (λ f7 b20 f5. refl)
matched-candidate w LH h = by_funct3 w 4099 (Some LH) h (λ f7 b20 f5. refl)
matched-candidate w LW h = by_funct3 w 8195 (Some LW) h (λ f7 b20 f5. refl)
matched-candidate w LBU h = by_funct3 w 16387 (Some LBU) h (λ f7 b20 f5. refl)
matched-candidate w LHU h = by_funct3 w 20483 (Some LHU) h (λ f7 b20 f5. refl)
matched-candidate w SB h = by_funct3 w 35 (Some SB) h (λ f7 b20 f5. refl)
matched-candidate w SH h = by_funct3 w 4131 (Some SH) h (λ f7 b20 f5. refl)
matched-candidate w SW h = by_funct3 w 8227 (Some SW) h (λ f7 b20 f5. refl)
matched-candidate w ADDI h = by_funct3 w 19 (Some ADDI) h (λ f7 b20 f5. refl)
matched-candidate w SLTI h = by_funct3 w 8211 (Some SLTI) h (λ f7 b20 f5. refl)
matched-candidate w SLTIU h = by_funct3 w 12307 (Some SLTIU) h (λ f7 b20 f5. refl)
matched-candidate w XORI h = by_funct3 w 16403 (Some XORI) h (λ f7 b20 f5. refl)
matched-candidate w ORI h = by_funct3 w 24595 (Some ORI) h (λ f7 b20 f5. refl)
matched-candidate w ANDI h = by_funct3 w 28691 (Some ANDI) h (λ f7 b20 f5. refl)
matched-candidate w SLLI h = by_funct7 w 4115 (Some SLLI) h (λ b20. refl)
matched-candidate w SRLI h = by_funct7 w 20499 (Some SRLI) h (λ b20. refl)
matched-candidate w SRAI h = by_funct7 w 1073762323 (Some SRAI) h (λ b20. refl)
matched-candidate w ADD h = by_funct7 w 51 (Some ADD) h (λ b20. refl)
matched-candidate w SUB h = by_funct7 w 1073741875 (Some SUB) h (λ b20. refl)
matched-candidate w SLL h = by_funct7 w 4147 (Some SLL) h (λ b20. refl)
matched-candidate w SLT h = by_funct7 w 8243 (Some SLT) h (λ b20. refl)
matched-candidate w SLTU h = by_funct7 w 12339 (Some SLTU) h (λ b20. refl)
matched-candidate w XOR h = by_funct7 w 16435 (Some XOR) h (λ b20. refl)
matched-candidate w SRL h = by_funct7 w 20531 (Some SRL) h (λ b20. refl)
matched-candidate w SRA h = by_funct7 w 1073762355 (Some SRA) h (λ b20. refl)
matched-candidate w OR h = by_funct7 w 24627 (Some OR) h (λ b20. refl)
matched-candidate w AND h = by_funct7 w 28723 (Some AND) h (λ b20. refl)
matched-candidate w MUL h = by_funct7 w 33554483 (Some MUL) h (λ b20. refl)
matched-candidate w MULH h = by_funct7 w 33558579 (Some MULH) h (λ b20. refl)
matched-candidate w MULHSU h = by_funct7 w 33562675 (Some MULHSU) h (λ b20. refl)
matched-candidate w MULHU h = by_funct7 w 33566771 (Some MULHU) h (λ b20. refl)
matched-candidate w DIV h = by_funct7 w 33570867 (Some DIV) h (λ b20. refl)
matched-candidate w DIVU h = by_funct7 w 33574963 (Some DIVU) h (λ b20. refl)
matched-candidate w REM h = by_funct7 w 33579059 (Some REM) h (λ b20. refl)
matched-candidate w REMU h = by_funct7 w 33583155 (Some REMU) h (λ b20. refl)
matched-candidate w FENCE h = by_funct3 w 15 (Some FENCE) h (λ f7 b20 f5. refl)
matched-candidate w ECALL h = by_word w 115 (Some ECALL) h refl
matched-candidate w EBREAK h = by_word w 1048691 (Some EBREAK) h refl
matched-candidate w LR h = by_funct5 w 4193284223 268443695 (Some LR) h refl refl refl (λ f7 b20. refl)
matched-candidate w SC h = by_funct5 w 4160778367 402661423 (Some SC) h refl refl refl (λ f7 b20. refl)
matched-candidate w AMOSWAP h = by_funct5 w 4160778367 134225967 (Some AMOSWAP) h refl refl refl (λ f7 b20. refl)
matched-candidate w AMOADD h = by_funct5 w 4160778367 8239 (Some AMOADD) h refl refl refl (λ f7 b20. refl)
matched-candidate w AMOXOR h = by_funct5 w 4160778367 536879151 (Some AMOXOR) h refl refl refl (λ f7 b20. refl)
matched-candidate w AMOAND h = by_funct5 w 4160778367 1610620975 (Some AMOAND) h refl refl refl (λ f7 b20. refl)
matched-candidate w AMOOR h = by_funct5 w 4160778367 1073750063 (Some AMOOR) h refl refl refl (λ f7 b20. refl)
matched-candidate w AMOMIN h = by_funct5 w 4160778367 2147491887 (Some AMOMIN) h refl refl refl (λ f7 b20. refl)
matched-candidate w AMOMAX h = by_funct5 w 4160778367 2684362799 (Some AMOMAX) h refl refl refl (λ f7 b20. refl)
matched-candidate w AMOMINU h = by_funct5 w 4160778367 3221233711 (Some AMOMINU) h refl refl refl (λ f7 b20. refl)
matched-candidate w AMOMAXU h = by_funct5 w 4160778367 3758104623 (Some AMOMAXU) h refl refl refl (λ f7 b20. refl)
