-- The instructions as the RISC-V unprivileged manual lists them (RV32I, M and A in its instruction set listings):
-- the opcode in bits 0 to 6, funct3 in bits 12 to 14, funct7 in bits 25 to 31, and for atomics funct5 in bits 27 to 31.
use Rattle.std.specs.Prelude.{ℕ, ◌+◌, ◌*◌, ◌^◌, List, [], ◌∷◌, map}
use Rattle.rv_decode.specs.declared.instr.Op.{Op}
use Rattle.rv_decode.specs.declared.instr.Op.TheVariants.{LUI, AUIPC, JAL, JALR, BEQ, BNE, BLT, BGE, BLTU, BGEU, LB, LH}
use Rattle.rv_decode.specs.declared.instr.Op.TheVariants.{LW, LBU, LHU, SB, SH, SW, ADDI, SLTI, SLTIU, XORI, ORI, ANDI}
use Rattle.rv_decode.specs.declared.instr.Op.TheVariants.{SLLI, SRLI, SRAI, ADD, SUB, SLL, SLT, SLTU, XOR, SRL, SRA, OR}
use Rattle.rv_decode.specs.declared.instr.Op.TheVariants.{AND, MUL, MULH, MULHSU, MULHU, DIV, DIVU, REM, REMU, FENCE}
use Rattle.rv_decode.specs.declared.instr.Op.TheVariants.{ECALL, EBREAK, LR, SC, AMOSWAP, AMOADD, AMOXOR, AMOAND, AMOOR}
use Rattle.rv_decode.specs.declared.instr.Op.TheVariants.{AMOMIN, AMOMAX, AMOMINU, AMOMAXU}
use Rattle.rv_decode.specs.declared.row.Row.{Row}
use Rattle.rv_decode.specs.declared.row.Shape.{Shape}
use Rattle.rv_decode.specs.declared.row.Shape.TheVariants.{R, I, S, B, U, J, Shift, Fence, Whole, Atomic}

abbrev pub row : Op → Shape → ℕ → ℕ → Row
row op shape mask bits = record { mask = mask; bits = bits; op = op; shape = shape }

-- the opcode alone is fixed
abbrev pub by_opcode : Op → Shape → ℕ → Row
by_opcode o shape opcode = row o shape 127 opcode

-- the opcode and funct3
abbrev pub by_funct3 : Op → Shape → ℕ → ℕ → Row
by_funct3 o shape opcode funct3 = row o shape (127 + 7 * 2 ^ 12) (opcode + funct3 * 2 ^ 12)

-- the opcode, funct3 and funct7
abbrev pub by_funct7 : Op → Shape → ℕ → ℕ → ℕ → Row
by_funct7 o shape opcode funct3 funct7 =
    row o shape (127 + 7 * 2 ^ 12 + 127 * 2 ^ 25) (opcode + funct3 * 2 ^ 12 + funct7 * 2 ^ 25)

-- an atomic on words: opcode 0x2f, funct3 2, and funct5
abbrev pub by_funct5 : Op → ℕ → Row
by_funct5 o funct5 = row o Atomic (127 + 7 * 2 ^ 12 + 31 * 2 ^ 27) (0x2f + 2 * 2 ^ 12 + funct5 * 2 ^ 27)

-- the same where rs2 is fixed to 0
abbrev pub by_funct5_alone : Op → ℕ → Row
by_funct5_alone o funct5 =
    row o Atomic (127 + 7 * 2 ^ 12 + 31 * 2 ^ 20 + 31 * 2 ^ 27) (0x2f + 2 * 2 ^ 12 + funct5 * 2 ^ 27)

-- the whole word
abbrev pub by_word : Op → ℕ → Row
by_word o word = row o Whole 0xffffffff word

unfoldable pub row_of : Op → Row
row_of LUI = by_opcode LUI U 0x37
row_of AUIPC = by_opcode AUIPC U 0x17
row_of JAL = by_opcode JAL J 0x6f
row_of JALR = by_funct3 JALR I 0x67 0
row_of BEQ = by_funct3 BEQ B 0x63 0
row_of BNE = by_funct3 BNE B 0x63 1
row_of BLT = by_funct3 BLT B 0x63 4
row_of BGE = by_funct3 BGE B 0x63 5
row_of BLTU = by_funct3 BLTU B 0x63 6
row_of BGEU = by_funct3 BGEU B 0x63 7
row_of LB = by_funct3 LB I 0x03 0
row_of LH = by_funct3 LH I 0x03 1
row_of LW = by_funct3 LW I 0x03 2
row_of LBU = by_funct3 LBU I 0x03 4
row_of LHU = by_funct3 LHU I 0x03 5
row_of SB = by_funct3 SB S 0x23 0
row_of SH = by_funct3 SH S 0x23 1
row_of SW = by_funct3 SW S 0x23 2
row_of ADDI = by_funct3 ADDI I 0x13 0
row_of SLTI = by_funct3 SLTI I 0x13 2
row_of SLTIU = by_funct3 SLTIU I 0x13 3
row_of XORI = by_funct3 XORI I 0x13 4
row_of ORI = by_funct3 ORI I 0x13 6
row_of ANDI = by_funct3 ANDI I 0x13 7
row_of SLLI = by_funct7 SLLI Shift 0x13 1 0x00
row_of SRLI = by_funct7 SRLI Shift 0x13 5 0x00
row_of SRAI = by_funct7 SRAI Shift 0x13 5 0x20
row_of ADD = by_funct7 ADD R 0x33 0 0x00
row_of SUB = by_funct7 SUB R 0x33 0 0x20
row_of SLL = by_funct7 SLL R 0x33 1 0x00
row_of SLT = by_funct7 SLT R 0x33 2 0x00
row_of SLTU = by_funct7 SLTU R 0x33 3 0x00
row_of XOR = by_funct7 XOR R 0x33 4 0x00
row_of SRL = by_funct7 SRL R 0x33 5 0x00
row_of SRA = by_funct7 SRA R 0x33 5 0x20
row_of OR = by_funct7 OR R 0x33 6 0x00
row_of AND = by_funct7 AND R 0x33 7 0x00
row_of MUL = by_funct7 MUL R 0x33 0 0x01
row_of MULH = by_funct7 MULH R 0x33 1 0x01
row_of MULHSU = by_funct7 MULHSU R 0x33 2 0x01
row_of MULHU = by_funct7 MULHU R 0x33 3 0x01
row_of DIV = by_funct7 DIV R 0x33 4 0x01
row_of DIVU = by_funct7 DIVU R 0x33 5 0x01
row_of REM = by_funct7 REM R 0x33 6 0x01
row_of REMU = by_funct7 REMU R 0x33 7 0x01
row_of FENCE = by_funct3 FENCE Fence 0x0f 0
row_of ECALL = by_word ECALL 0x00000073
row_of EBREAK = by_word EBREAK 0x00100073
row_of LR = by_funct5_alone LR 0x02
row_of SC = by_funct5 SC 0x03
row_of AMOSWAP = by_funct5 AMOSWAP 0x01
row_of AMOADD = by_funct5 AMOADD 0x00
row_of AMOXOR = by_funct5 AMOXOR 0x04
row_of AMOAND = by_funct5 AMOAND 0x0c
row_of AMOOR = by_funct5 AMOOR 0x08
row_of AMOMIN = by_funct5 AMOMIN 0x10
row_of AMOMAX = by_funct5 AMOMAX 0x14
row_of AMOMINU = by_funct5 AMOMINU 0x18
row_of AMOMAXU = by_funct5 AMOMAXU 0x1c

-- the instructions of RV32I, M and A, in the manual's order
abbrev pub instructions : List Op
instructions =
    LUI ∷ AUIPC ∷ JAL ∷ JALR ∷
    BEQ ∷ BNE ∷ BLT ∷ BGE ∷ BLTU ∷ BGEU ∷
    LB ∷ LH ∷ LW ∷ LBU ∷ LHU ∷ SB ∷ SH ∷ SW ∷
    ADDI ∷ SLTI ∷ SLTIU ∷ XORI ∷ ORI ∷ ANDI ∷ SLLI ∷ SRLI ∷ SRAI ∷
    ADD ∷ SUB ∷ SLL ∷ SLT ∷ SLTU ∷ XOR ∷ SRL ∷ SRA ∷ OR ∷ AND ∷
    MUL ∷ MULH ∷ MULHSU ∷ MULHU ∷ DIV ∷ DIVU ∷ REM ∷ REMU ∷
    FENCE ∷ ECALL ∷ EBREAK ∷
    LR ∷ SC ∷ AMOSWAP ∷ AMOADD ∷ AMOXOR ∷ AMOAND ∷ AMOOR ∷ AMOMIN ∷ AMOMAX ∷ AMOMINU ∷ AMOMAXU ∷ []

-- the rows that the manual lists
unfoldable pub listed_rows : List Row
listed_rows = map row_of instructions
