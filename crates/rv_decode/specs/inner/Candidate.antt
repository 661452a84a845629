-- The one instruction whose row a word can match, by its opcode and its function fields.
-- No public clause cites it: the public ones speak of the table, of which it is a way to search.
use Rattle.std.specs.Prelude.{ℕ, ◌==◌, ◌&&◌, if◌then◌else◌, slice_index_or, Option, Some, None}
use Rattle.rv_decode.specs.Fields.{field}
use Rattle.rv_decode.specs.declared.instr.Op.{Op}
use Rattle.rv_decode.specs.declared.instr.Op.TheVariants.{LUI, AUIPC, JAL, JALR, SRAI, FENCE, ECALL, EBREAK}
use Rattle.rv_decode.specs.declared.candidate.TheConstants.{ALTERNATES, ATOMICS, BRANCHES, IMMEDIATES, LOADS, PRODUCTS}
use Rattle.rv_decode.specs.declared.candidate.TheConstants.{REGISTERS, STORES}

abbrev pub immediate_op : ℕ → ℕ → Option Op
immediate_op funct3 funct7 = if (funct3 == 5) && (funct7 == 32) then Some SRAI
    else slice_index_or IMMEDIATES funct3 None

abbrev pub register_op : ℕ → ℕ → Option Op
register_op funct3 funct7 =
    if funct7 == 0 then slice_index_or REGISTERS funct3 None
    else (if funct7 == 1 then slice_index_or PRODUCTS funct3 None
    else (if funct7 == 32 then slice_index_or ALTERNATES funct3 None else None))

-- by the opcode, funct3, funct7, bit 20 and the upper five bits of funct7
abbrev pub candidate_by : ℕ → ℕ → ℕ → ℕ → ℕ → Option Op
candidate_by opcode funct3 funct7 bit20 funct5 =
    if opcode == 0x37 then Some LUI
    else (if opcode == 0x17 then Some AUIPC
    else (if opcode == 0x6f then Some JAL
    else (if opcode == 0x67 then Some JALR
    else (if opcode == 0x63 then slice_index_or BRANCHES funct3 None
    else (if opcode == 0x03 then slice_index_or LOADS funct3 None
    else (if opcode == 0x23 then slice_index_or STORES funct3 None
    else (if opcode == 0x13 then immediate_op funct3 funct7
    else (if opcode == 0x33 then register_op funct3 funct7
    else (if opcode == 0x0f then Some FENCE
    else (if opcode == 0x73 then (if bit20 == 0 then Some ECALL else Some EBREAK)
    else (if opcode == 0x2f then slice_index_or ATOMICS funct5 None
    else None)))))))))))

abbrev pub candidate_of : ℕ → Option Op
candidate_of word =
    candidate_by (field 0 7 word) (field 12 3 word) (field 25 7 word) (field 20 1 word) (field 27 5 word)
