-- The matrix of a line number program (DWARF 5, 6.2.2): its rows, cut into sequences.
use Rattle.std.specs.Prelude.{ℕ, ◌-◌, nat_le, if◌then◌else◌, List, [], ◌∷◌, ◌++◌, length, slice_get, map, Bool, Option}
use Rattle.std.specs.Prelude.{Some, None}
use Rattle.std.specs.Option.{option_map_or}
use Rattle.dwarf_line.specs.declared.registers.Registers.{Registers}
use Rattle.dwarf_line.specs.declared.registers.Outcome.{Outcome}
use Rattle.dwarf_line.specs.declared.registers.Outcome.TheVariants.{Goes, Row, End}
use Rattle.dwarf_line.specs.declared.instruction.Instruction.{Instruction}
use Rattle.dwarf_line.specs.Bytes.{◌>>=◌}
use Rattle.dwarf_line.specs.Header.{LineHeader}
use Rattle.dwarf_line.specs.Instruction.{instructions_within}
use Rattle.dwarf_line.specs.Registers.{start, outcome_of}

-- what a program adds to the matrix: a row, or the end of a sequence at an address
pub data Event (R : Type 0) : Type 0 where
  emits : R → Event R
  ends : ℕ → Event R

-- the rows of a sequence, and the first address behind it
pub record SequenceOf (R : Type 0) : Type 0 where
  pub rows : List R
  pub end : ℕ

abbrev pub registers_after : Outcome → Registers
registers_after (Goes state) = state
registers_after (Row state) = state
registers_after (End address) = start

abbrev pub emitted_events : Outcome → List (Event Registers)
emitted_events (Goes state) = []
emitted_events (Row state) = emits state ∷ []
emitted_events (End address) = ends address ∷ []

-- what the instructions add, from these registers on; one that is out of range is damage
abbrev pub events_of : LineHeader → Registers → List Instruction → Option (List (Event Registers))
events_of header state [] = Some []
events_of header state (instruction ∷ instructions) = do
  outcome ← outcome_of header state instruction
  others ← events_of header (registers_after outcome) instructions
  Some (emitted_events outcome ++ others)

-- the address of the last row, 0 without rows
abbrev pub last_address : {R : Type 0} → (R → ℕ) → List R → ℕ
last_address address rows = option_map_or address (slice_get rows (length rows - 1)) 0

-- whether a row or an end at this address may follow the rows
abbrev pub allows : {R : Type 0} → (R → ℕ) → List R → ℕ → Bool
allows address rows next = nat_le (last_address address rows) next

-- an end without rows before it makes no sequence
abbrev pub closed_sequence : {R : Type 0} → List R → ℕ → List (SequenceOf R)
closed_sequence [] end = []
closed_sequence (row ∷ rows) end = record { rows = row ∷ rows; end = end } ∷ []

-- at the end of a program no sequence may be open
abbrev pub sequences_at_end : {R : Type 0} → List R → Option (List (SequenceOf R))
sequences_at_end [] = Some []
sequences_at_end (row ∷ rows) = None

-- The sequences, where the rows in front are those of the sequence that is open. A row or an end below
-- the last row is damage, and so are rows without an end.
abbrev pub gather_sequences : {R : Type 0} → (R → ℕ) → List R → List (Event R) → Option (List (SequenceOf R))
gather_sequences address rows [] = sequences_at_end rows
gather_sequences address rows (emits row ∷ events) =
    if allows address rows (address row) then gather_sequences address (rows ++ row ∷ []) events else None
gather_sequences address rows (ends end ∷ events) =
    if allows address rows end then (gather_sequences address [] events >>= λ others. Some (closed_sequence rows end ++ others)) else
    None

-- the sequences of a program, whose rows are the registers
unfoldable pub program_sequences : LineHeader → List ℕ → Option (List (SequenceOf Registers))
program_sequences header program = do
  instructions ← instructions_within header (length program) program
  events ← events_of header start instructions
  gather_sequences (λ state. state.address) [] events

-- the same sequence of rows that are seen otherwise
abbrev pub sequence_by : {R S : Type 0} → (R → S) → SequenceOf R → SequenceOf S
sequence_by see sequence = record { rows = map see sequence.rows; end = sequence.end }
