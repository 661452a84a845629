-- The instructions of a line number program (DWARF 5, 6.2.5).
use Rattle.std.specs.Prelude.{ℕ, zero, suc, ◌-◌, ◌==◌, nat_le, if◌then◌else◌, List, [], ◌∷◌, slice_index, Option, Some}
use Rattle.std.specs.Prelude.{None}
use Rattle.dwarf_line.specs.declared.instruction.Instruction.{Instruction}
use Rattle.dwarf_line.specs.declared.instruction.Instruction.TheVariants.{Special, CopyRow, AdvancePc, AdvanceLine}
use Rattle.dwarf_line.specs.declared.instruction.Instruction.TheVariants.{SetFile, ConstAddPc, FixedAdvancePc}
use Rattle.dwarf_line.specs.declared.instruction.Instruction.TheVariants.{SetAddress, EndSequence, Passed}
use Rattle.dwarf_line.specs.Bytes.{◌>>=◌, bytes_at, number_at}
use Rattle.dwarf_line.specs.Leb128.{uleb128_at, sleb128_at}
use Rattle.dwarf_line.specs.Header.{LineHeader}

-- so many unsigned numbers that are passed over
abbrev pub operands_at : ℕ → List ℕ → Option (Instruction × List ℕ)
operands_at zero bytes = Some (Passed, bytes)
operands_at (suc count) bytes = uleb128_at bytes >>= λ operand. operands_at count operand.1

-- A standard opcode, below opcode_base (6.2.5.2). Those that only touch registers which no row keeps, and
-- those that aren't known, are passed over with as many operands as the header says. The others are DW_LNS_copy 1,
-- advance_pc 2, advance_line 3, set_file 4, const_add_pc 8 and fixed_advance_pc 9.
unfoldable pub standard_at : LineHeader → ℕ → List ℕ → Option (Instruction × List ℕ)
standard_at header opcode bytes =
    if opcode == 0x01 then Some (CopyRow, bytes) else (
    if opcode == 0x02 then (uleb128_at bytes >>= λ operand. Some (AdvancePc operand.0, operand.1)) else (
    if opcode == 0x03 then (sleb128_at bytes >>= λ operand. Some (AdvanceLine operand.0, operand.1)) else (
    if opcode == 0x04 then (uleb128_at bytes >>= λ operand. Some (SetFile operand.0, operand.1)) else (
    if opcode == 0x08 then Some (ConstAddPc, bytes) else (
    if opcode == 0x09 then (number_at 2 bytes >>= λ operand. Some (FixedAdvancePc operand.0, operand.1)) else
    operands_at (slice_index header.operand_counts (opcode - 1)) bytes)))))

-- An extended opcode of this length, by what stands behind the opcode. DW_LNE_end_sequence 1 has the length 1 and
-- DW_LNE_set_address 2 the length 5.
unfoldable pub extended_of : ℕ → ℕ → List ℕ → Option Instruction
extended_of length opcode bytes =
    if opcode == 0x01 then (if length == 1 then Some EndSequence else None) else (
    if opcode == 0x02 then (if length == 5 then (number_at 4 bytes >>= λ address. Some (SetAddress address.0)) else None)
    else Some Passed)

-- What stands behind the length of an extended opcode, which ends by its length. A length of 0 has no
-- place for the opcode.
unfoldable pub sized_at : ℕ → List ℕ → Option (Instruction × List ℕ)
sized_at length bytes = do
  inside ← bytes_at length bytes
  opcode ← number_at 1 inside.0
  instruction ← extended_of length opcode.0 opcode.1
  Some (instruction, inside.1)

-- An extended opcode, behind its byte 0 (6.2.5.3).
unfoldable pub extended_at : List ℕ → Option (Instruction × List ℕ)
extended_at bytes = uleb128_at bytes >>= λ length. sized_at length.0 length.1

-- What an opcode begins. From opcode_base on it is special (6.2.5.1).
unfoldable pub begun_at : LineHeader → ℕ → List ℕ → Option (Instruction × List ℕ)
begun_at header opcode bytes =
    if nat_le header.opcode_base opcode then Some (Special (opcode - header.opcode_base), bytes) else (
    if opcode == 0x00 then extended_at bytes else standard_at header opcode bytes)

-- an instruction
unfoldable pub instruction_at : LineHeader → List ℕ → Option (Instruction × List ℕ)
instruction_at header bytes = number_at 1 bytes >>= λ opcode. begun_at header opcode.0 opcode.1

-- The instructions of a program. Each takes a byte at least, so as many as there are bytes suffice.
abbrev pub instructions_within : LineHeader → ℕ → List ℕ → Option (List Instruction)
instructions_within header limit [] = Some []
instructions_within header zero (byte ∷ bytes) = None
instructions_within header (suc limit) (byte ∷ bytes) = do
  first ← instruction_at header (byte ∷ bytes)
  others ← instructions_within header limit first.1
  Some (first.0 ∷ others)
