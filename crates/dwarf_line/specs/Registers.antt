-- The registers of the state machine (DWARF 5, 6.2.2), as far as a row keeps them, and what an
-- instruction does to them (6.2.5).
use Rattle.std.specs.Prelude.{ℕ, ◌+◌, ◌-◌, ◌*◌, ◌/◌, ◌%◌, ◌^◌, nat_lt, if◌then◌else◌, Option, Some, None, ℤ, pos}
use Rattle.std.specs.Prelude.{negsuc, ◌+ℤ◌}
use Rattle.dwarf_line.specs.declared.registers.Registers.{Registers}
use Rattle.dwarf_line.specs.declared.registers.Outcome.{Outcome}
use Rattle.dwarf_line.specs.declared.registers.Outcome.TheVariants.{Goes, Row, End}
use Rattle.dwarf_line.specs.declared.instruction.Instruction.{Instruction}
use Rattle.dwarf_line.specs.declared.instruction.Instruction.TheVariants.{Special, CopyRow, AdvancePc, AdvanceLine}
use Rattle.dwarf_line.specs.declared.instruction.Instruction.TheVariants.{SetFile, ConstAddPc, FixedAdvancePc}
use Rattle.dwarf_line.specs.declared.instruction.Instruction.TheVariants.{SetAddress, EndSequence, Passed}
use Rattle.dwarf_line.specs.Bytes.{◌>>=◌}
use Rattle.dwarf_line.specs.Header.{LineHeader}

-- a number of 32 bits; a greater one is damage
abbrev pub word : ℕ → Option ℕ
word n = if nat_lt n (2 ^ 32) then Some n else None

-- the same of a whole number, which is damage below 0 too
abbrev pub whole_word : ℤ → Option ℕ
whole_word (pos n) = word n
whole_word (negsuc n) = None

-- the registers at the start of a sequence
abbrev pub start : Registers
start = record { address = 0; file = 1; line = 1 }

-- an address further by so many bytes
unfoldable pub advance_address : Registers → ℕ → Option Registers
advance_address state bytes = word (state.address + bytes) >>= λ address. Some (record state { address = address })

-- a line further by so many, or back
unfoldable pub advance_line : Registers → ℤ → Option Registers
advance_line state lines = whole_word (pos state.line +ℤ lines) >>= λ line. Some (record state { line = line })

-- how far a special opcode moves the address, by how much it is above opcode_base (6.2.5.1)
abbrev pub special_bytes : LineHeader → ℕ → ℕ
special_bytes header adjusted = adjusted / header.line_range * header.minimum_length

-- and how far it moves the line
abbrev pub special_lines : LineHeader → ℕ → ℤ
special_lines header adjusted = header.line_base +ℤ pos (adjusted % header.line_range)

-- what an instruction makes of the registers
unfoldable pub outcome_of : LineHeader → Registers → Instruction → Option Outcome
outcome_of header state (Special adjusted) = do
  further ← advance_address state (special_bytes header adjusted)
  there ← advance_line further (special_lines header adjusted)
  Some (Row there)
outcome_of header state CopyRow = Some (Row state)
outcome_of header state (AdvancePc operations) = advance_address state (operations * header.minimum_length) >>=
    λ there. Some (Goes there)
outcome_of header state (AdvanceLine lines) = advance_line state lines >>= λ there. Some (Goes there)
outcome_of header state (SetFile file) = Some (Goes (record state { file = file }))
outcome_of header state ConstAddPc = advance_address state (special_bytes header (255 - header.opcode_base)) >>=
    λ there. Some (Goes there)
outcome_of header state (FixedAdvancePc bytes) = advance_address state bytes >>= λ there. Some (Goes there)
outcome_of header state (SetAddress address) = Some (Goes (record state { address = address }))
outcome_of header state EndSequence = Some (End state.address)
outcome_of header state Passed = Some (Goes state)
