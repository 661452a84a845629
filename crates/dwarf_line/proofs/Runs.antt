-- A whole run of a program over a matrix.
use Rattle.std.proofs.Common.{◌≡◌, ℕ, zero, suc, ◌+◌, ◌≤◌, ◌<◌, true, cond, ltb, List, [], ◌∷◌, ◌++◌, length, take}
use Rattle.std.proofs.Common.{drop, map, Option, Some, None, option_map, refl, sym, ap, ◌∙◌, append_assoc, arith}
use Rattle.std.proofs.lemmas.List.{append-nil, take-append-le, drop-append-le, take-append-drop, length-append}
use Rattle.std.proofs.lemmas.List.{length-take, length-take-le, length-drop, drop_all}
use Rattle.std.proofs.lemmas.Bool.{le-ltb, lt-ltb}
use Rattle.std.proofs.Math.Seq.{take-length}
use Rattle.dwarf_line.specs.declared.row.Row.{Row}
use Rattle.dwarf_line.specs.declared.row.Sequence.{Sequence}
use Rattle.dwarf_line.specs.declared.registers.Registers.{Registers}
use Rattle.dwarf_line.specs.declared.registers.Outcome.{Outcome}
use Rattle.dwarf_line.specs.declared.registers.Outcome.TheVariants as outcome
use Rattle.dwarf_line.specs.declared.instruction.Instruction.{Instruction}
use Rattle.dwarf_line.specs.Bytes.{◌>>=◌}
use Rattle.dwarf_line.specs.Header.{LineHeader}
use Rattle.dwarf_line.specs.Instruction.{instruction_at, instructions_within}
use Rattle.dwarf_line.specs.Registers.{start, outcome_of}
use Rattle.dwarf_line.specs.Program.{Event, SequenceOf, sequence_by, registers_after, events_of, closed_sequence, sequences_at_end}
use Rattle.dwarf_line.specs.Program.{gather_sequences, program_sequences}
use Rattle.dwarf_line.specs.inner.Matrix.{OpenMatrix, numbered_row, open_rows, with_row, with_end, ended_sequences}
use Rattle.dwarf_line.specs.inner.Matrix.{rows_of, with_sequences, Grows, Keeps, Takes, Refuses}
use Rattle.dwarf_line.specs.Rows.{row_address}
use Rattle.dwarf_line.proofs.Gather.{event_by, gather_sequences-map}
use Rattle.dwarf_line.proofs.Steps.{remaining, following, remaining-step, remaining-unread, remaining-out}
use Rattle.dwarf_line.proofs.Steps.{row_instructions, end_instructions, following-refused}

-- ---- the matrix behind a sequence that ends

matrix_of : List Row → List Sequence → ℕ → OpenMatrix
matrix_of rows sequences first = record { rows = rows; sequences = sequences; first = first }

abbrev place_of : ℕ → ℕ → ℕ → Sequence
place_of first last end = record { first = first; last = last; end = end }

same_matrix : (rows rows' : List Row) (sequences sequences' : List Sequence) → rows ≡ rows' → sequences ≡ sequences'
    → matrix_of rows sequences (length rows) ≡ matrix_of rows' sequences' (length rows')
same_matrix rows rows' sequences sequences' p q = cc

-- the sequence that ends takes the open rows
closing : (front rows : List Row) (kept : List Sequence) (end : ℕ) (others : List (SequenceOf Row))
    → with_sequences (front ++ rows)
    (kept ++ cond (ltb (length front) (length (front ++ rows)))
    (place_of (length front) (length (front ++ rows)) end ∷ []) []) others
    ≡ with_sequences front kept (closed_sequence rows end ++ others)
closing front [] kept end others =
    rw (append-nil front, le-ltb (length front) (length front) (omega arith), append-nil kept) refl
closing front (r ∷ rows) kept end others =
    let longer : ltb (length front) (length (front ++ r ∷ rows)) ≡ true =
    lt-ltb _ _ (omega (arith, length-append front (r ∷ rows))) in
    let behind : length (front ++ r ∷ rows) ≡ length front + length (r ∷ rows) = length-append front (r ∷ rows) in
    rw (longer, append_assoc front (r ∷ rows) (rows_of others), append_assoc kept, behind) refl

closing_at : (all front rows : List Row) (first : ℕ) (kept : List Sequence) (end : ℕ) (others : List (SequenceOf Row))
    → all ≡ front ++ rows → first ≡ length front
    → with_sequences all (kept ++ cond (ltb first (length all)) (place_of first (length all) end ∷ []) []) others
    ≡ with_sequences front kept (closed_sequence rows end ++ others)
closing_at all front rows first kept end others e f = rw (e, f) (closing front rows kept end others)

-- ---- what holds between two instructions

-- the sequences of the program, their rows numbered
abbrev pub whole : ℕ → ℕ → LineHeader → List ℕ → Option (List (SequenceOf Row))
whole before count header program =
    option_map (map (sequence_by (numbered_row before count))) (program_sequences header program)

-- the matrix now, the sequence that is open left out, with what is still to come
abbrev pub now_with : OpenMatrix → Option (List (SequenceOf Row)) → Option OpenMatrix
now_with matrix rest = option_map (with_sequences (take matrix.first matrix.rows) matrix.sequences) rest

-- So far the program has only grown the matrix, and what is still to come leads to the whole.
pub record Continues (before count : ℕ) (header : LineHeader) (program : List ℕ) (old matrix : OpenMatrix)
    (state : Registers) (bytes : List ℕ) : Type 0 where
  pub limit : ℕ
  pub enough : length bytes ≤ limit
  pub joined : now_with matrix (remaining row_address (numbered_row before count) header limit state
      (open_rows matrix) bytes) ≡ option_map (with_sequences old.rows old.sequences) (whole before count header program)
  pub place : matrix.first ≤ length matrix.rows
  pub old_place : length old.rows ≤ matrix.first
  pub keeps : Keeps old matrix

seen_all : (before count : ℕ) (header : LineHeader) (events : Option (List (Event Registers)))
    → (events >>= λ events. gather_sequences row_address [] (map (event_by (numbered_row before count)) events))
    ≡ option_map (map (sequence_by (numbered_row before count)))
    (events >>= λ events. gather_sequences (λ state. state.address) [] events)
seen_all before count header None = refl
seen_all before count header (Some events) =
    gather_sequences-map (λ (state : Registers). state.address) row_address (numbered_row before count) (λ state. refl) [] events

seen_instructions : (before count : ℕ) (header : LineHeader) (instructions : Option (List Instruction))
    → (instructions >>= λ instructions. events_of header start instructions >>=
    λ events. gather_sequences row_address [] (map (event_by (numbered_row before count)) events))
    ≡ option_map (map (sequence_by (numbered_row before count)))
    (instructions >>= λ instructions. events_of header start instructions >>=
    λ events. gather_sequences (λ state. state.address) [] events)
seen_instructions before count header None = refl
seen_instructions before count header (Some instructions) =
    seen_all before count header (events_of header start instructions)

-- the program from its start is the whole
start_is : (before count : ℕ) (header : LineHeader) (program : List ℕ)
    → remaining row_address (numbered_row before count) header (length program) start [] program
    ≡ whole before count header program
unfolding program_sequences
start_is before count header program =
    seen_instructions before count header (instructions_within header (length program) program)

pub begins : (before count : ℕ) (header : LineHeader) (program : List ℕ) (old : OpenMatrix)
    → old.first ≡ length old.rows → Continues before count header program old old start program
begins before count header program old at_end =
    let all : take old.first old.rows ≡ old.rows = rw at_end (take-length old.rows) in
    let none : open_rows old ≡ [] = drop_all old.first old.rows (omega arith) in
    record {
      limit = length program;
      enough = omega arith;
      joined = rw (all, none) (ap (option_map (with_sequences old.rows old.sequences))
          (start_is before count header program));
      place = omega arith;
      old_place = omega arith;
      keeps = record { rows = take-length old.rows; sequences = take-length old.sequences };
    }

row_kept : (matrix : OpenMatrix) (row : Row) (rest : Option (List (SequenceOf Row))) → matrix.first ≤ length matrix.rows
    → now_with (with_row matrix row) rest ≡ now_with matrix rest
row_kept matrix row rest place = rw (take-append-le matrix.first matrix.rows (row ∷ []) place) refl

row_opened : (matrix : OpenMatrix) (row : Row) → matrix.first ≤ length matrix.rows
    → open_rows (with_row matrix row) ≡ open_rows matrix ++ row ∷ []
row_opened matrix row place = drop-append-le matrix.first matrix.rows (row ∷ []) place

end_joined : (matrix : OpenMatrix) (end : ℕ) (rest : Option (List (SequenceOf Row))) → matrix.first ≤ length matrix.rows
    → now_with (with_end matrix end) rest
    ≡ now_with matrix (rest >>= λ others. Some (closed_sequence (open_rows matrix) end ++ others))
end_joined matrix end None place = refl
end_joined matrix end (Some others) place =
    let parts : matrix.rows ≡ take matrix.first matrix.rows ++ drop matrix.first matrix.rows =
    sym (take-append-drop matrix.first matrix.rows) in
    let first : matrix.first ≡ length (take matrix.first matrix.rows) =
    sym (length-take-le matrix.first matrix.rows place) in
    ap (λ (m : OpenMatrix). Some m)
    (rw (take-length matrix.rows) (closing_at matrix.rows (take matrix.first matrix.rows)
    (drop matrix.first matrix.rows) matrix.first matrix.sequences end others parts first))

goes : (before count : ℕ) (header : LineHeader) (limit : ℕ) (outcome : Outcome) (matrix next : OpenMatrix)
    (bytes : List ℕ) → matrix.first ≤ length matrix.rows → Takes before count outcome matrix next
    → now_with next (remaining row_address (numbered_row before count) header limit (registers_after outcome)
    (open_rows next) bytes) ≡ now_with matrix
    (following row_address (numbered_row before count) header limit outcome (open_rows matrix) bytes)
goes before count header limit (outcome.Goes state) matrix next bytes place takes = rw takes refl
goes before count header limit (outcome.Row state) matrix next bytes place takes =
    let row = numbered_row before count state in
    let later = row_instructions row_address (numbered_row before count) header state (open_rows matrix)
    (instructions_within header limit bytes) takes.0 in
    rw (takes.1, row_opened matrix row place)
    (row_kept matrix row (remaining row_address (numbered_row before count) header limit state
    (open_rows matrix ++ row ∷ []) bytes) place ∙ ap (now_with matrix) (sym later))
goes before count header limit (outcome.End end) matrix next bytes place takes =
    let later = end_instructions row_address (numbered_row before count) header end (open_rows matrix)
    (instructions_within header limit bytes) takes.0 in
    let none : open_rows (with_end matrix end) ≡ [] = drop_all (length matrix.rows) matrix.rows (omega arith) in
    rw (takes.1, none) (end_joined matrix end
    (remaining row_address (numbered_row before count) header limit start [] bytes) place
    ∙ ap (now_with matrix) (sym later))

taken_place : (before count : ℕ) (outcome : Outcome) (matrix next : OpenMatrix) → matrix.first ≤ length matrix.rows
    → Takes before count outcome matrix next → (matrix.first ≤ next.first) × (next.first ≤ length next.rows)
taken_place before count (outcome.Goes state) matrix next place takes = rw takes (omega arith, place)
taken_place before count (outcome.Row state) matrix next place takes =
    rw takes.1 (omega arith, omega (arith, length-append matrix.rows (numbered_row before count state ∷ [])))
taken_place before count (outcome.End end) matrix next place takes = rw takes.1 (place, omega arith)

kept_len : {X : Type 0} (a b : List X) → take (length a) b ≡ a → length a ≤ length b
kept_len a b e = omega (arith, ap length e, length-take (length a) b)

taken_keeps : (before count : ℕ) (outcome : Outcome) (old matrix next : OpenMatrix) → Keeps old matrix
    → Takes before count outcome matrix next → Keeps old next
taken_keeps before count (outcome.Goes state) old matrix next keeps takes = rw takes keeps
taken_keeps before count (outcome.Row state) old matrix next keeps takes =
    let longer = kept_len old.rows matrix.rows keeps.rows in
    rw takes.1 (record {
      rows = take-append-le (length old.rows) matrix.rows
          (numbered_row before count state ∷ []) longer ∙ keeps.rows;
      sequences = keeps.sequences;
    })
taken_keeps before count (outcome.End end) old matrix next keeps takes =
    let longer = kept_len old.sequences matrix.sequences keeps.sequences in
    rw takes.1 (record {
      rows = keeps.rows;
      sequences =
          take-append-le (length old.sequences) matrix.sequences (ended_sequences matrix end) longer ∙ keeps.sequences;
    })

one_joined : (before count : ℕ) (header : LineHeader) (limit : ℕ) (state : Registers) (matrix next : OpenMatrix)
    (bytes : List ℕ) (instruction : Instruction) (after : List ℕ) (outcome : Outcome)
    → length bytes ≤ limit → 0 < length bytes → length after < length bytes → matrix.first ≤ length matrix.rows
    → instruction_at header bytes ≡ Some (instruction, after) → outcome_of header state instruction ≡ Some outcome
    → Takes before count outcome matrix next
    → (less : ℕ) × (length after ≤ less)
    × (now_with next (remaining row_address (numbered_row before count) header less (registers_after outcome)
    (open_rows next) after) ≡ now_with matrix
    (remaining row_address (numbered_row before count) header limit state (open_rows matrix) bytes))
one_joined before count header limit state matrix next [] instruction after outcome enough some shorter place read is
    takes = absurd (omega arith)
one_joined before count header zero state matrix next (byte ∷ bytes) instruction after outcome enough some shorter place
    read is takes = absurd (omega arith)
one_joined before count header (suc limit) state matrix next
    (byte ∷ bytes) instruction after outcome enough some shorter place read is takes = (
      limit,
      omega arith,
      goes before count header limit outcome matrix next after place takes
          ∙ ap (now_with matrix) (sym (remaining-step row_address (numbered_row before count) header limit state
          (open_rows matrix) byte bytes instruction after outcome read is)),
    )

-- an instruction that the matrix takes
pub goes_on : (before count : ℕ) (header : LineHeader) (program : List ℕ) (old matrix next : OpenMatrix) (state : Registers)
    (bytes : List ℕ) (instruction : Instruction) (after : List ℕ) (outcome : Outcome)
    → Continues before count header program old matrix state bytes → 0 < length bytes → length after < length bytes
    → instruction_at header bytes ≡ Some (instruction, after) → outcome_of header state instruction ≡ Some outcome
    → Takes before count outcome matrix next
    → Continues before count header program old next (registers_after outcome) after
goes_on before count header program old matrix next state bytes instruction after outcome so_far some shorter read is
    takes =
    let one = one_joined before count header so_far.limit state matrix next bytes instruction after outcome
    so_far.enough some shorter so_far.place read is takes in
    let places = taken_place before count outcome matrix next so_far.place takes in
    record {
      limit = one.0;
      enough = one.1;
      joined = one.2 ∙ so_far.joined;
      place = places.1;
      old_place = omega (arith, places.0, so_far.old_place);
      keeps = taken_keeps before count outcome old matrix next so_far.keeps takes;
    }

-- ---- damage

nothing : {A B C : Type 0} (f : B → C) (g : A → B) (o : Option A) → option_map f (option_map g o) ≡ None → o ≡ None
nothing f g None e = refl
nothing f g (Some x) e = absurd cc

damaged : (before count : ℕ) (header : LineHeader) (program : List ℕ) (old matrix : OpenMatrix) (state : Registers)
    (bytes : List ℕ) (so_far : Continues before count header program old matrix state bytes)
    → remaining row_address (numbered_row before count) header so_far.limit state (open_rows matrix) bytes ≡ None
    → program_sequences header program ≡ None
damaged before count header program old matrix state bytes so_far none =
    nothing (with_sequences old.rows old.sequences) (map (sequence_by (numbered_row before count)))
    (program_sequences header program) (sym so_far.joined ∙ ap (now_with matrix) none)

unread : (before count : ℕ) (header : LineHeader) (limit : ℕ) (state : Registers) (rows : List Row) (bytes : List ℕ)
    → length bytes ≤ limit → 0 < length bytes → instruction_at header bytes ≡ None
    → remaining row_address (numbered_row before count) header limit state rows bytes ≡ None
unread before count header limit state rows [] enough some read = absurd (omega arith)
unread before count header zero state rows (byte ∷ bytes) enough some read = absurd (omega arith)
unread before count header (suc limit) state rows (byte ∷ bytes) enough some read =
    remaining-unread row_address (numbered_row before count) header limit state rows byte bytes read

out_of_range : (before count : ℕ) (header : LineHeader) (limit : ℕ) (state : Registers) (rows : List Row) (bytes : List ℕ)
    (instruction : Instruction) (after : List ℕ) → length bytes ≤ limit → 0 < length bytes
    → instruction_at header bytes ≡ Some (instruction, after) → outcome_of header state instruction ≡ None
    → remaining row_address (numbered_row before count) header limit state rows bytes ≡ None
out_of_range before count header limit state rows [] instruction after enough some read is = absurd (omega arith)
out_of_range before count header zero state rows (byte ∷ bytes) instruction after enough some read is =
    absurd (omega arith)
out_of_range before count header (suc limit) state rows (byte ∷ bytes) instruction after enough some read is =
    remaining-out row_address (numbered_row before count) header limit state rows byte bytes instruction after read is

refused : (before count : ℕ) (header : LineHeader) (limit : ℕ) (state : Registers) (matrix : OpenMatrix) (bytes : List ℕ)
    (instruction : Instruction) (after : List ℕ) (outcome : Outcome) → length bytes ≤ limit → 0 < length bytes
    → instruction_at header bytes ≡ Some (instruction, after) → outcome_of header state instruction ≡ Some outcome
    → Refuses outcome matrix
    → remaining row_address (numbered_row before count) header limit state (open_rows matrix) bytes ≡ None
refused before count header limit state matrix [] instruction after outcome enough some read is not =
    absurd (omega arith)
refused before count header zero state matrix (byte ∷ bytes) instruction after outcome enough some read is not =
    absurd (omega arith)
refused before count header (suc limit) state matrix (byte ∷ bytes) instruction after outcome enough some read is not =
    remaining-step row_address (numbered_row before count) header limit state
    (open_rows matrix) byte bytes instruction after outcome read is
    ∙ following-refused before count header limit outcome matrix after not

pub unread_is_damage : (before count : ℕ) (header : LineHeader) (program : List ℕ) (old matrix : OpenMatrix)
    (state : Registers) (bytes : List ℕ) → Continues before count header program old matrix state bytes → 0 < length bytes
    → instruction_at header bytes ≡ None → program_sequences header program ≡ None
unread_is_damage before count header program old matrix state bytes so_far some read =
    damaged before count header program old matrix state bytes so_far
    (unread before count header so_far.limit state (open_rows matrix) bytes so_far.enough some read)

pub out_is_damage : (before count : ℕ) (header : LineHeader) (program : List ℕ) (old matrix : OpenMatrix)
    (state : Registers) (bytes : List ℕ) (instruction : Instruction) (after : List ℕ)
    → Continues before count header program old matrix state bytes → 0 < length bytes
    → instruction_at header bytes ≡ Some (instruction, after) → outcome_of header state instruction ≡ None
    → program_sequences header program ≡ None
out_is_damage before count header program old matrix state bytes instruction after so_far some read is =
    damaged before count header program old matrix state bytes so_far
    (out_of_range before count header so_far.limit state
    (open_rows matrix) bytes instruction after so_far.enough some read is)

pub refused_is_damage : (before count : ℕ) (header : LineHeader) (program : List ℕ) (old matrix : OpenMatrix)
    (state : Registers) (bytes : List ℕ) (instruction : Instruction) (after : List ℕ) (outcome : Outcome)
    → Continues before count header program old matrix state bytes → 0 < length bytes
    → instruction_at header bytes ≡ Some (instruction, after) → outcome_of header state instruction ≡ Some outcome
    → Refuses outcome matrix → program_sequences header program ≡ None
refused_is_damage before count header program old matrix state bytes instruction after outcome so_far some read is not =
    damaged before count header program old matrix state bytes so_far
    (refused before count header so_far.limit state matrix bytes instruction after outcome so_far.enough some read
    is not)

-- ---- the end of the program

at_end : (before count : ℕ) (header : LineHeader) (limit : ℕ) (state : Registers) (rows : List Row) (bytes : List ℕ)
    → length bytes ≡ 0 → remaining row_address (numbered_row before count) header limit state rows bytes
    ≡ sequences_at_end rows
at_end before count header zero state rows [] none = refl
at_end before count header (suc limit) state rows [] none = refl
at_end before count header limit state rows (byte ∷ bytes) none = absurd (omega arith)

grown : (old matrix : OpenMatrix) (sequences : Option (List (SequenceOf Row)))
    → Some matrix ≡ option_map (with_sequences old.rows old.sequences) sequences → Grows sequences old matrix
grown old matrix None e = absurd cc
grown old matrix (Some sequences) e = cc

pub is_grown : (before count : ℕ) (header : LineHeader) (program : List ℕ) (old matrix : OpenMatrix) (state : Registers)
    (bytes : List ℕ) → Continues before count header program old matrix state bytes → length bytes ≡ 0
    → matrix.first ≡ length matrix.rows → Grows (whole before count header program) old matrix
is_grown before count header program old matrix state bytes so_far none all =
    let rows : take matrix.first matrix.rows ≡ matrix.rows = rw all (take-length matrix.rows) in
    let opened : open_rows matrix ≡ [] = drop_all matrix.first matrix.rows (omega arith) in
    let rest : remaining row_address (numbered_row before count) header so_far.limit state (open_rows matrix) bytes
    ≡ Some [] = at_end before count header so_far.limit state (open_rows matrix) bytes none
    ∙ ap sequences_at_end opened in
    let same : matrix ≡ with_sequences (take matrix.first matrix.rows) matrix.sequences [] =
    rw (rows, append-nil matrix.rows, append-nil matrix.sequences, ← all) refl in
    grown old matrix (whole before count header program)
    (ap (λ (m : OpenMatrix). Some m) same ∙ ap (now_with matrix) (sym rest) ∙ so_far.joined)

still_open : (rows : List Row) → 0 < length rows → sequences_at_end rows ≡ None
still_open [] some = absurd (omega arith)
still_open (r ∷ rows) some = refl

pub open_is_damage : (before count : ℕ) (header : LineHeader) (program : List ℕ) (old matrix : OpenMatrix)
    (state : Registers) (bytes : List ℕ) → Continues before count header program old matrix state bytes → length bytes ≡ 0
    → (matrix.first ≡ length matrix.rows → ⊥) → program_sequences header program ≡ None
open_is_damage before count header program old matrix state bytes so_far none not =
    damaged before count header program old matrix state bytes so_far
    (at_end before count header so_far.limit state (open_rows matrix) bytes none
    ∙ still_open (open_rows matrix) (omega (arith, length-drop matrix.first matrix.rows, so_far.place, not)))
