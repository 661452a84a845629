-- What the instructions of a program add, and the sequences that it makes.
use Rattle.std.proofs.Common.{◌≡◌, ℕ, zero, suc, ◌+◌, ◌-◌, ◌*◌, ◌^◌, ◌<◌, ◌≤◌, true, leb, List, [], ◌∷◌, ◌++◌, length}
use Rattle.std.proofs.Common.{map, replicate, Option, Some, None, refl, sym, ap, ◌∙◌, arith, append_assoc}
use Rattle.std.proofs.Common.{length-append, pos}
use Rattle.std.specs.List.{All, flat_map, slice_get}
use Rattle.std.proofs.lemmas.Bool.{lt-ltb, le-leb}
use Rattle.std.proofs.lemmas.List.{append-nil, get_or_push}
use Rattle.std.proofs.lemmas.Option.{slice_get_read}
use Rattle.dwarf_line.specs.declared.instruction.Instruction.{Instruction}
use Rattle.dwarf_line.specs.declared.instruction.Instruction.TheVariants.{Special, CopyRow, AdvancePc, AdvanceLine}
use Rattle.dwarf_line.specs.declared.instruction.Instruction.TheVariants.{SetFile, SetAddress, EndSequence}
use Rattle.dwarf_line.specs.declared.registers.Registers.{Registers}
use Rattle.dwarf_line.specs.declared.registers.Outcome.{Outcome}
use Rattle.dwarf_line.specs.declared.registers.Outcome.TheVariants.{Goes, Row, End}
use Rattle.dwarf_line.specs.Bytes.{◌>>=◌}
use Rattle.dwarf_line.specs.Registers.{start, advance_address, advance_line, outcome_of}
use Rattle.dwarf_line.specs.Program.{Event, emits, ends, SequenceOf, registers_after, emitted_events, events_of, gather_sequences, closed_sequence}
use Rattle.dwarf_line.specs.Program.{last_address, program_sequences}
use Rattle.prog_make.specs.declared.function_part.FunctionPart.{FunctionPart}
use Rattle.prog_make.specs.Functions.{instruction_count}
use Rattle.prog_make.specs.inner.LineProgram.{sequence_bytes}
use Rattle.prog_make.proofs.SegmentsRead.{All-rest}
use Rattle.prog_make.proofs.LineBytes.{constants, within, sequence_instructions, RowsFit, program_read}

-- the registers at an address and a line
abbrev pub at : ℕ → ℕ → Registers
at a l = record { address = a; file = 0; line = l }

-- rows of instructions, from an address and a line on
abbrev pub rows_from : ℕ → ℕ → ℕ → List Registers
rows_from a l zero = []
rows_from a l (suc n) = at a l ∷ rows_from (a + 4) (l + 1) n

-- the sequence of a function
abbrev pub sequence_of : FunctionPart → SequenceOf Registers
sequence_of f = record { rows = rows_from f.addr f.first_line (instruction_count f); end = f.addr + f.size }

-- ---- outcomes

advance_address-is : (s : Registers) (n : ℕ) → s.address + n < 2 ^ 32
    → advance_address s n ≡ Some (record { address = s.address + n; file = s.file; line = s.line })
unfolding advance_address
advance_address-is s n fits = rw (lt-ltb (s.address + n) (2 ^ 32) fits) refl

advance_line-is : (s : Registers) (n : ℕ) → s.line + n < 2 ^ 32
    → advance_line s (pos n) ≡ Some (record { address = s.address; file = s.file; line = s.line + n })
unfolding advance_line
advance_line-is s n fits = rw (lt-ltb (s.line + n) (2 ^ 32) fits) refl

next_row_is : (a l : ℕ) → a + 4 < 2 ^ 32 → l + 1 < 2 ^ 32
    → outcome_of constants (at a l) (Special 62) ≡ Some (Row (at (a + 4) (l + 1)))
unfolding outcome_of
next_row_is a l addr line = rw (advance_address-is (at a l) 4 addr, advance_line-is (at (a + 4) l) 1 line) refl

-- ---- the events of instructions, one after the other

-- from some registers on, instructions add these events and lead to other registers
pub Makes : Registers → List Instruction → List (Event Registers) → Registers → Type 0
Makes s is es s' = (js : List Instruction)
    → events_of constants s (is ++ js) ≡ (events_of constants s' js >>= λ others. Some (es ++ others))

one_made : (s : Registers) (i : Instruction) (outcome : Outcome) → outcome_of constants s i ≡ Some outcome
    → Makes s (i ∷ []) (emitted_events outcome) (registers_after outcome)
unfolding Makes
one_made s i outcome e js = rw e refl

regroup : (es fs : List (Event Registers)) (read : Option (List (Event Registers)))
    → ((read >>= λ others. Some (fs ++ others)) >>= λ others. Some (es ++ others))
    ≡ (read >>= λ others. Some ((es ++ fs) ++ others))
regroup es fs None = refl
regroup es fs (Some others) = ap (λ (xs : List (Event Registers)). Some xs) (sym (append_assoc es fs others))

Makes-append : (s t u : Registers) (is js : List Instruction) (es fs : List (Event Registers)) → Makes s is es t
    → Makes t js fs u → Makes s (is ++ js) (es ++ fs) u
unfolding Makes
Makes-append s t u is js es fs first second ks =
    ap (events_of constants s) (append_assoc is js ks) ∙ first (js ++ ks)
    ∙ ap (λ read. read >>= λ others. Some (es ++ others)) (second ks) ∙ regroup es fs (events_of constants u ks)

nothing_more : (read : Option (List (Event Registers))) → read ≡ (read >>= λ others. Some ([] ++ others))
nothing_more None = refl
nothing_more (Some others) = refl

next_rows_made : (n a l : ℕ) → a + 4 * n < 2 ^ 32 → l + n < 2 ^ 32
    → Makes (at a l) (replicate n (Special 62)) (map (λ s. emits s) (rows_from (a + 4) (l + 1) n))
    (at (a + 4 * n) (l + n))
unfolding Makes
next_rows_made zero a l addr line =
    let x : a + 4 * 0 ≡ a = omega arith in
    let y : l + 0 ≡ l = omega arith in
    rw (x, y) (λ js. nothing_more (events_of constants (at a l) js))
next_rows_made (suc n) a l addr line =
    let x : a + 4 * suc n ≡ a + 4 + 4 * n = omega arith in
    let y : l + suc n ≡ l + 1 + n = omega arith in
    rw (x, y) (Makes-append (at a l) (at (a + 4) (l + 1)) (at (a + 4 + 4 * n) (l + 1 + n)) (Special 62 ∷ [])
    (replicate n (Special 62)) (emits (at (a + 4) (l + 1)) ∷ [])
    (map (λ s. emits s) (rows_from (a + 4 + 4) (l + 1 + 1) n))
    (one_made (at a l) (Special 62) (Row (at (a + 4) (l + 1))) (next_row_is a l (omega arith) (omega arith)))
    (next_rows_made n (a + 4) (l + 1) (omega arith) (omega arith)))

-- the events of a sequence
abbrev pub sequence_events : FunctionPart → List (Event Registers)
sequence_events f = map (λ s. emits s) (rows_from f.addr f.first_line (instruction_count f)) ++ ends
    (f.addr + f.size) ∷ []

first_line_is : (a l : ℕ) → 0 < l → l < 2 ^ 32
    → outcome_of constants (at a 1) (AdvanceLine (pos (l - 1))) ≡ Some (Goes (at a l))
unfolding outcome_of
first_line_is a l some fits =
    let line : 1 + (l - 1) ≡ l = omega arith in
    rw (advance_line-is (at a 1) (l - 1) (omega arith), line) refl

first_row_made : (a l : ℕ) → 0 < l → l < 2 ^ 32
    → Makes start (SetAddress a ∷ SetFile 0 ∷ AdvanceLine (pos (l - 1)) ∷ CopyRow ∷ []) (emits (at a l) ∷ []) (at a l)
unfolding outcome_of
first_row_made a l some fits =
    let there : Registers = record { address = a; file = 1; line = 1 } in
    Makes-append start there (at a l) (SetAddress a ∷ []) (SetFile 0 ∷ AdvanceLine (pos (l - 1)) ∷ CopyRow ∷ []) []
    (emits (at a l) ∷ []) (one_made start (SetAddress a) (Goes there) refl)
    (Makes-append there (at a 1) (at a l) (SetFile 0 ∷ []) (AdvanceLine (pos (l - 1)) ∷ CopyRow ∷ []) []
    (emits (at a l) ∷ []) (one_made there (SetFile 0) (Goes (at a 1)) refl)
    (Makes-append (at a 1) (at a l) (at a l) (AdvanceLine (pos (l - 1)) ∷ []) (CopyRow ∷ []) [] (emits (at a l) ∷ [])
    (one_made (at a 1) (AdvanceLine (pos (l - 1))) (Goes (at a l)) (first_line_is a l some fits))
    (one_made (at a l) CopyRow (Row (at a l)) refl)))

last_instruction_is : (a l : ℕ) → a + 4 < 2 ^ 32
    → outcome_of constants (at a l) (AdvancePc 4) ≡ Some (Goes (at (a + 4) l))
unfolding outcome_of
last_instruction_is a l fits = rw (advance_address-is (at a l) 4 fits) refl

end_made : (a l : ℕ) → a + 4 < 2 ^ 32 → Makes (at a l) (AdvancePc 4 ∷ EndSequence ∷ []) (ends (a + 4) ∷ []) start
unfolding outcome_of
end_made a l fits =
    Makes-append (at a l) (at (a + 4) l) start (AdvancePc 4 ∷ []) (EndSequence ∷ []) [] (ends (a + 4) ∷ [])
    (one_made (at a l) (AdvancePc 4) (Goes (at (a + 4) l)) (last_instruction_is a l fits))
    (one_made (at (a + 4) l) EndSequence (End (a + 4)) refl)

sequence_made : (f : FunctionPart) → RowsFit f → Makes start (sequence_instructions f) (sequence_events f) start
sequence_made f fit =
    let n = instruction_count f in
    let some : 0 < n = fit.some in
    let whole : 4 * n ≡ f.size = fit.whole in
    let end : f.addr + f.size < 2 ^ 32 = fit.end in
    let last : f.first_line + n < 2 ^ 32 = fit.last in
    let all : n ≡ suc (n - 1) = omega arith in
    let reach : f.addr + 4 * (n - 1) + 4 ≡ f.addr + f.size = omega arith in
    let events : sequence_events f
    ≡ (emits (at f.addr f.first_line) ∷ []) ++
    (map (λ s. emits s) (rows_from (f.addr + 4) (f.first_line + 1) (n - 1)) ++ ends (f.addr + 4 * (n - 1) + 4) ∷ [])
    =
    ap (λ k. map (λ s. emits s) (rows_from f.addr f.first_line k) ++ ends (f.addr + f.size) ∷ []) all
    ∙ ap (λ k. emits (at f.addr f.first_line) ∷
    (map (λ s. emits s) (rows_from (f.addr + 4) (f.first_line + 1) (n - 1)) ++ ends k ∷ [])) (sym reach) in
    rw events (
    Makes-append start (at f.addr f.first_line) start
    (SetAddress f.addr ∷ SetFile 0 ∷ AdvanceLine (pos (f.first_line - 1)) ∷ CopyRow ∷ [])
    (replicate (n - 1) (Special 62) ++ (AdvancePc 4 ∷ EndSequence ∷ []))
    (emits (at f.addr f.first_line) ∷ [])
    (map (λ s. emits s) (rows_from (f.addr + 4) (f.first_line + 1) (n - 1)) ++ ends (f.addr + 4 * (n - 1) + 4) ∷ [])
    (first_row_made f.addr f.first_line fit.first (omega arith))
    (Makes-append (at f.addr f.first_line) (at (f.addr + 4 * (n - 1)) (f.first_line + (n - 1))) start
    (replicate (n - 1) (Special 62)) (AdvancePc 4 ∷ EndSequence ∷ [])
    (map (λ s. emits s) (rows_from (f.addr + 4) (f.first_line + 1) (n - 1))) (ends (f.addr + 4 * (n - 1) + 4) ∷ [])
    (next_rows_made (n - 1) f.addr f.first_line (omega arith) (omega arith))
    (end_made (f.addr + 4 * (n - 1)) (f.first_line + (n - 1)) (omega arith))))

nothing_made : Makes start [] [] start
unfolding Makes
nothing_made js = nothing_more (events_of constants start js)

program_made : (functions : List FunctionPart) → All RowsFit functions
    → Makes start (flat_map sequence_instructions functions) (flat_map sequence_events functions) start
program_made [] fit = nothing_made
program_made (f ∷ functions) fit =
    Makes-append start start start (sequence_instructions f) (flat_map sequence_instructions functions)
    (sequence_events f) (flat_map sequence_events functions) (sequence_made f (fit 0 f (omega arith)))
    (program_made functions (All-rest RowsFit f functions fit))

program_events : (functions : List FunctionPart) → All RowsFit functions
    → events_of constants start (flat_map sequence_instructions functions) ≡ Some (flat_map sequence_events functions)
unfolding Makes
program_events functions fit =
    ap (events_of constants start) (sym (append-nil (flat_map sequence_instructions functions)))
    ∙ program_made functions fit []
    ∙ ap (λ (es : List (Event Registers)). Some es) (append-nil (flat_map sequence_events functions))

-- ---- rows gathered into sequences

abbrev pub address_of : Registers → ℕ
address_of s = s.address

last-push : (rows : List Registers) (s : Registers) → last_address address_of (rows ++ s ∷ []) ≡ s.address
last-push rows s =
    let len : length (rows ++ s ∷ []) ≡ length rows + 1 = length-append rows (s ∷ []) in
    let last : slice_get (rows ++ s ∷ []) (length (rows ++ s ∷ []) - 1) ≡ Some s =
    slice_get_read (rows ++ s ∷ []) (length (rows ++ s ∷ [])) (length (rows ++ s ∷ []) - 1) s refl (omega (arith, len))
    (sym (get_or_push rows s s (length (rows ++ s ∷ []) - 1) (omega (arith, len)))) in
    rw last refl

rows_gathered : (n a l : ℕ) (front : List Registers) (rest : List (Event Registers)) → last_address address_of front ≤ a
    → gather_sequences address_of front (map (λ s. emits s) (rows_from a l n) ++ rest)
    ≡ gather_sequences address_of (front ++ rows_from a l n) rest
rows_gathered zero a l front rest le = rw (append-nil front) refl
rows_gathered (suc n) a l front rest le =
    let last = last-push front (at a l) in
    rw (le-leb (last_address address_of front) a le, ← append_assoc front (at a l ∷ []) (rows_from (a + 4) (l + 1) n))
    (rows_gathered n (a + 4) (l + 1) (front ++ at a l ∷ []) rest (omega arith))

last_row : (n a l : ℕ) (front : List Registers) → last_address address_of front ≤ a + 4 * n
    → last_address address_of (front ++ rows_from a l n) ≤ a + 4 * n
last_row zero a l front le = rw (append-nil front) le
last_row (suc n) a l front le =
    let last = last-push front (at a l) in
    let x : a + 4 * suc n ≡ a + 4 + 4 * n = omega arith in
    rw (x, ← append_assoc front (at a l ∷ []) (rows_from (a + 4) (l + 1) n))
    (last_row n (a + 4) (l + 1) (front ++ at a l ∷ []) (omega arith))

sequence_gathered : (f : FunctionPart) (rest : List (Event Registers)) → RowsFit f
    → gather_sequences address_of [] (sequence_events f ++ rest)
    ≡ (gather_sequences address_of [] rest >>= λ others. Some (sequence_of f ∷ others))
sequence_gathered f rest fit =
    let n = instruction_count f in
    let some : 0 < n = fit.some in
    let whole : 4 * n ≡ f.size = fit.whole in
    let all : n ≡ suc (n - 1) = omega arith in
    let behind : last_address address_of (rows_from f.addr f.first_line n) ≤ f.addr + 4 * n =
    last_row n f.addr f.first_line [] (omega arith) in
    let closes : leb (last_address address_of (rows_from f.addr f.first_line n)) (f.addr + f.size) ≡ true =
    le-leb _ _ (omega arith) in
    ap (gather_sequences address_of []) (append_assoc (map (λ s. emits s) (rows_from f.addr f.first_line n))
    (ends (f.addr + f.size) ∷ []) rest)
    ∙ rows_gathered n f.addr f.first_line [] (ends (f.addr + f.size) ∷ rest) (omega arith)
    ∙ rw closes (not_empty (rows_from f.addr f.first_line n) (gather_sequences address_of [] rest)
    (ap (rows_from f.addr f.first_line) all))
  where
    not_empty : (rows : List Registers) (read : Option (List (SequenceOf Registers)))
        → rows ≡ at f.addr f.first_line ∷ rows_from (f.addr + 4) (f.first_line + 1) (instruction_count f - 1)
        → (read >>= λ others. Some (closed_sequence rows (f.addr + f.size) ++ others))
        ≡ (read >>= λ others. Some (record { rows = rows; end = f.addr + f.size } ∷ others))
    not_empty [] read e = absurd cc
    not_empty (r ∷ rows) None e = refl
    not_empty (r ∷ rows) (Some others) e = refl

program_gathered : (functions : List FunctionPart) → All RowsFit functions
    → gather_sequences address_of [] (flat_map sequence_events functions) ≡ Some (map sequence_of functions)
program_gathered [] fit = refl
program_gathered (f ∷ functions) fit =
    sequence_gathered f (flat_map sequence_events functions) (fit 0 f (omega arith))
    ∙ rw (program_gathered functions (All-rest RowsFit f functions fit)) refl

-- the sequences of the program
pub program_is : (functions : List FunctionPart) → All RowsFit functions
    → program_sequences constants (flat_map sequence_bytes functions) ≡ Some (map sequence_of functions)
unfolding program_sequences
program_is functions fit =
    rw (
      within (flat_map sequence_instructions functions) (flat_map sequence_bytes functions)
          (length (flat_map sequence_bytes functions)) (program_read functions fit)
          (omega arith),
      program_events functions fit,
    ) (program_gathered functions fit)
