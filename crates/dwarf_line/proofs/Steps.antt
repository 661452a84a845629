-- A program's run, one instruction after the other.
use Rattle.std.proofs.Common.{◌≡◌, ℕ, suc, true, false, List, [], ◌∷◌, ◌++◌, map, Option, Some, None, refl}
use Rattle.dwarf_line.specs.declared.registers.Registers.{Registers}
use Rattle.dwarf_line.specs.declared.registers.Outcome.{Outcome}
use Rattle.dwarf_line.specs.declared.registers.Outcome.TheVariants as outcome
use Rattle.dwarf_line.specs.declared.instruction.Instruction.{Instruction}
use Rattle.dwarf_line.specs.Bytes.{◌>>=◌}
use Rattle.dwarf_line.specs.Header.{LineHeader}
use Rattle.dwarf_line.specs.Instruction.{instruction_at, instructions_within}
use Rattle.dwarf_line.specs.Registers.{start, outcome_of}
use Rattle.dwarf_line.specs.Program.{Event, SequenceOf, registers_after, emitted_events, events_of, allows, closed_sequence, gather_sequences}
use Rattle.dwarf_line.specs.inner.Matrix.{OpenMatrix, numbered_row, open_rows, Refuses}
use Rattle.dwarf_line.specs.Rows.{row_address}
use Rattle.dwarf_line.proofs.Gather.{event_by}

-- what the rest of a program comes to, from these registers and with these rows open
abbrev pub remaining : {R : Type 0} → (R → ℕ) → (Registers → R) → LineHeader → ℕ → Registers → List R → List ℕ
    → Option (List (SequenceOf R))
remaining address see header limit state front bytes =
    instructions_within header limit bytes >>= λ instructions. events_of header state instructions >>=
    λ events. gather_sequences address front (map (event_by see) events)

-- the same behind an instruction's outcome
abbrev pub following : {R : Type 0} → (R → ℕ) → (Registers → R) → LineHeader → ℕ → Outcome → List R → List ℕ
    → Option (List (SequenceOf R))
following address see header limit outcome front bytes =
    instructions_within header limit bytes >>= λ instructions. events_of header (registers_after outcome) instructions >>=
    λ events. gather_sequences address front (map (event_by see) (emitted_events outcome ++ events))

events_step : {R : Type 0} (address : R → ℕ) (see : Registers → R) (outcome : Outcome) (front : List R)
    (events : Option (List (Event Registers)))
    → ((events >>= λ others. Some (emitted_events outcome ++ others)) >>=
    λ events. gather_sequences address front (map (event_by see) events))
    ≡ (events >>= λ events. gather_sequences address front (map (event_by see) (emitted_events outcome ++ events)))
events_step address see outcome front None = refl
events_step address see outcome front (Some events) = refl

instructions_step : {R : Type 0} (address : R → ℕ) (see : Registers → R) (header : LineHeader) (state : Registers)
    (front : List R) (instruction : Instruction) (outcome : Outcome) (instructions : Option (List Instruction))
    → outcome_of header state instruction ≡ Some outcome
    → ((instructions >>= λ others. Some (instruction ∷ others)) >>=
    λ instructions. events_of header state instructions >>=
    λ events. gather_sequences address front (map (event_by see) events))
    ≡ (instructions >>= λ instructions. events_of header (registers_after outcome) instructions >>=
    λ events. gather_sequences address front (map (event_by see) (emitted_events outcome ++ events)))
instructions_step address see header state front instruction outcome None is = refl
instructions_step address see header state front instruction outcome (Some instructions) is =
    rw is (events_step address see outcome front (events_of header (registers_after outcome) instructions))

-- one instruction
pub remaining-step : {R : Type 0} (address : R → ℕ) (see : Registers → R) (header : LineHeader) (limit : ℕ) (state : Registers)
    (front : List R) (byte : ℕ) (bytes : List ℕ) (instruction : Instruction) (after : List ℕ) (outcome : Outcome)
    → instruction_at header (byte ∷ bytes) ≡ Some (instruction, after)
    → outcome_of header state instruction ≡ Some outcome
    → remaining address see header (suc limit) state front (byte ∷ bytes)
    ≡ following address see header limit outcome front after
remaining-step address see header limit state front byte bytes instruction after outcome read is =
    rw read (instructions_step address see header state front instruction outcome
    (instructions_within header limit after) is)

-- an instruction that can't be read
pub remaining-unread : {R : Type 0} (address : R → ℕ) (see : Registers → R) (header : LineHeader) (limit : ℕ)
    (state : Registers) (front : List R) (byte : ℕ) (bytes : List ℕ)
    → instruction_at header (byte ∷ bytes) ≡ None
    → remaining address see header (suc limit) state front (byte ∷ bytes) ≡ None
remaining-unread address see header limit state front byte bytes read = rw read refl

no_outcome : {R : Type 0} (address : R → ℕ) (see : Registers → R) (header : LineHeader) (state : Registers) (front : List R)
    (instruction : Instruction) (instructions : Option (List Instruction)) → outcome_of header state instruction ≡ None
    → ((instructions >>= λ others. Some (instruction ∷ others)) >>=
    λ instructions. events_of header state instructions >>=
    λ events. gather_sequences address front (map (event_by see) events)) ≡ None
no_outcome address see header state front instruction None is = refl
no_outcome address see header state front instruction (Some instructions) is = rw is refl

-- an instruction that is out of range
pub remaining-out : {R : Type 0} (address : R → ℕ) (see : Registers → R) (header : LineHeader) (limit : ℕ) (state : Registers)
    (front : List R) (byte : ℕ) (bytes : List ℕ) (instruction : Instruction) (after : List ℕ)
    → instruction_at header (byte ∷ bytes) ≡ Some (instruction, after) → outcome_of header state instruction ≡ None
    → remaining address see header (suc limit) state front (byte ∷ bytes) ≡ None
remaining-out address see header limit state front byte bytes instruction after read is =
    rw read (no_outcome address see header state front instruction (instructions_within header limit after) is)

-- ---- what follows an outcome

row_events : {R : Type 0} (address : R → ℕ) (see : Registers → R) (state : Registers) (front : List R)
    (events : Option (List (Event Registers))) → allows address front (address (see state)) ≡ true
    → (events >>= λ events. gather_sequences address front (map (event_by see) (emitted_events (outcome.Row state) ++ events)))
    ≡ (events >>= λ events. gather_sequences address (front ++ see state ∷ []) (map (event_by see) events))
row_events address see state front None may = refl
row_events address see state front (Some events) may = rw may refl

pub row_instructions : {R : Type 0} (address : R → ℕ) (see : Registers → R) (header : LineHeader) (state : Registers)
    (front : List R) (instructions : Option (List Instruction)) → allows address front (address (see state)) ≡ true
    → (instructions >>= λ instructions. events_of header state instructions >>=
    λ events. gather_sequences address front (map (event_by see) (emitted_events (outcome.Row state) ++ events)))
    ≡ (instructions >>= λ instructions. events_of header state instructions >>=
    λ events. gather_sequences address (front ++ see state ∷ []) (map (event_by see) events))
row_instructions address see header state front None may = refl
row_instructions address see header state front (Some instructions) may =
    row_events address see state front (events_of header state instructions) may

end_events : {R : Type 0} (address : R → ℕ) (see : Registers → R) (end : ℕ) (front : List R)
    (events : Option (List (Event Registers))) → allows address front end ≡ true
    → (events >>= λ events. gather_sequences address front (map (event_by see) (emitted_events (outcome.End end) ++ events)))
    ≡ ((events >>= λ events. gather_sequences address [] (map (event_by see) events)) >>=
    λ others. Some (closed_sequence front end ++ others))
end_events address see end front None may = refl
end_events address see end front (Some events) may = rw may refl

pub end_instructions : {R : Type 0} (address : R → ℕ) (see : Registers → R) (header : LineHeader) (end : ℕ) (front : List R)
    (instructions : Option (List Instruction)) → allows address front end ≡ true
    → (instructions >>= λ instructions. events_of header start instructions >>=
    λ events. gather_sequences address front (map (event_by see) (emitted_events (outcome.End end) ++ events)))
    ≡ ((instructions >>= λ instructions. events_of header start instructions >>=
    λ events. gather_sequences address [] (map (event_by see) events)) >>= λ others. Some (closed_sequence front end ++ others))
end_instructions address see header end front None may = refl
end_instructions address see header end front (Some instructions) may =
    end_events address see end front (events_of header start instructions) may

row_refused : {R : Type 0} (address : R → ℕ) (see : Registers → R) (state : Registers) (front : List R)
    (events : Option (List (Event Registers))) → allows address front (address (see state)) ≡ false
    → (events >>= λ events. gather_sequences address front (map (event_by see) (emitted_events (outcome.Row state) ++ events))) ≡ None
row_refused address see state front None not = refl
row_refused address see state front (Some events) not = rw not refl

end_refused : {R : Type 0} (address : R → ℕ) (see : Registers → R) (end : ℕ) (front : List R)
    (events : Option (List (Event Registers))) → allows address front end ≡ false
    → (events >>= λ events. gather_sequences address front (map (event_by see) (emitted_events (outcome.End end) ++ events))) ≡ None
end_refused address see end front None not = refl
end_refused address see end front (Some events) not = rw not refl

refused_row : {R : Type 0} (address : R → ℕ) (see : Registers → R) (header : LineHeader) (state : Registers) (front : List R)
    (instructions : Option (List Instruction)) → allows address front (address (see state)) ≡ false
    → (instructions >>= λ instructions. events_of header state instructions >>=
    λ events. gather_sequences address front (map (event_by see) (emitted_events (outcome.Row state) ++ events))) ≡ None
refused_row address see header state front None not = refl
refused_row address see header state front (Some instructions) not =
    row_refused address see state front (events_of header state instructions) not

refused_end : {R : Type 0} (address : R → ℕ) (see : Registers → R) (header : LineHeader) (end : ℕ) (front : List R)
    (instructions : Option (List Instruction)) → allows address front end ≡ false
    → (instructions >>= λ instructions. events_of header start instructions >>=
    λ events. gather_sequences address front (map (event_by see) (emitted_events (outcome.End end) ++ events))) ≡ None
refused_end address see header end front None not = refl
refused_end address see header end front (Some instructions) not =
    end_refused address see end front (events_of header start instructions) not

-- what a matrix refuses is damage
pub following-refused : (before count : ℕ) (header : LineHeader) (limit : ℕ) (outcome : Outcome) (matrix : OpenMatrix)
    (bytes : List ℕ) → Refuses outcome matrix
    → following row_address (numbered_row before count) header limit outcome (open_rows matrix) bytes ≡ None
following-refused before count header limit (outcome.Goes state) matrix bytes not = absurd not
following-refused before count header limit (outcome.Row state) matrix bytes not =
    refused_row row_address (numbered_row before count) header state (open_rows matrix)
    (instructions_within header limit bytes) not
following-refused before count header limit (outcome.End end) matrix bytes not =
    refused_end row_address (numbered_row before count) header end (open_rows matrix)
    (instructions_within header limit bytes) not
