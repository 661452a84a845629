-- A line table read back: the line of each address.
use Rattle.std.proofs.Common.{◌≡◌, ℕ, zero, suc, ◌+◌, ◌-◌, ◌*◌, ◌/◌, ◌^◌, ◌<◌, ◌≤◌, ◌&&◌, Bool, true, false, cond, leb}
use Rattle.std.proofs.Common.{ltb, List, [], ◌∷◌, ◌++◌, length, filter, find, map, Option, Some, None, option_and_then}
use Rattle.std.proofs.Common.{refl, arith, ◌⊎◌, inl, inr}
use Rattle.std.specs.List.{All, flat_map, slice_get}
use Rattle.std.specs.Option.{option_map_or}
use Rattle.std.proofs.lemmas.Bool.{lt-ltb, le-leb, lt-leb, leb-true, ltb-true, cases_lt}
use Rattle.std.proofs.lemmas.List.{append-nil}
use Rattle.byteorder.specs.Endian.{little_bytes}
use Rattle.dwarf_line.specs.Bytes.{number_at}
use Rattle.dwarf_line.specs.Form.{form_of}
use Rattle.dwarf_line.specs.Entry.{StringSections}
use Rattle.dwarf_line.specs.Table.{table_at, pair_at, entry_at, field_at}
use Rattle.dwarf_line.specs.Header.{constants_at, parts_of}
use Rattle.dwarf_line.specs.FileText.{unknown, is_absolute}
use Rattle.dwarf_line.specs.Program.{SequenceOf, sequence_by}
use Rattle.dwarf_line.specs.LineRow.{LineRow, FileLine, line_at, line_of, last_at, covers, line_address}
use Rattle.dwarf_line.specs.Unit.{front_at, units_within, units, contents_of, unit_of, line_sequences, line_row}
use Rattle.dwarf_line.specs.Unit.{LineUnit}
use Rattle.prog_make.specs.declared.function_part.FunctionPart.{FunctionPart}
use Rattle.prog_make.specs.Names.{HasNoZero}
use Rattle.prog_make.specs.Functions.{has_lines, lies_in, instruction_count}
use Rattle.prog_make.specs.inner.LineProgram.{sequence_bytes, program_bytes}
use Rattle.prog_make.specs.inner.LineSection.{constant_bytes, table_bytes, line_header_bytes, unit_bytes, line_section}
use Rattle.prog_make.specs.Contents.{function_line}
use Rattle.prog_make.proofs.Reading.{cond_same}
use Rattle.prog_make.proofs.Lengths.{length-line_header, length-unit}
use Rattle.prog_make.proofs.SegmentsRead.{All-rest, All-more}
use Rattle.prog_make.proofs.LineBytes.{constants, number_at-here, number_at-byte, bytes_at-here, bytes_at-all}
use Rattle.prog_make.proofs.LineBytes.{uleb128_at-byte, text_at-here, RowsFit}
use Rattle.prog_make.proofs.LineSteps.{rows_from, sequence_of, program_is}

-- ---- the header

parts_of-unit : (file program : List ℕ) → length (line_header_bytes file) < 2 ^ 32
    → parts_of (unit_bytes file program) ≡ Some (line_header_bytes file, program)
unfolding parts_of unit_bytes
parts_of-unit file program short =
    let n = length (line_header_bytes file) in
    let rest = line_header_bytes file ++ program in
    rw (
      number_at-here 2 5 (4 ∷ 0 ∷ (little_bytes 4 n ++ rest)) (omega arith),
      number_at-byte 4
          (0 ∷ (little_bytes 4 n ++ rest)),
      number_at-byte 0 (little_bytes 4 n ++ rest),
      number_at-here 4 n rest short,
    )
    (bytes_at-here n (line_header_bytes file) program refl)

constants_at-header : (rest : List ℕ) → constants_at (constant_bytes ++ rest) ≡ Some (constants, rest)
unfolding constants_at
constants_at-header rest =
    let counts : List ℕ = 0 ∷ 1 ∷ 1 ∷ 1 ∷ 1 ∷ 0 ∷ 0 ∷ 0 ∷ 1 ∷ 0 ∷ 0 ∷ 1 ∷ [] in
    rw (
      number_at-byte 1 (1 ∷ 1 ∷ 251 ∷ 14 ∷ 13 ∷ (counts ++ rest)),
      number_at-byte 1 (1 ∷ 251 ∷ 14 ∷ 13 ∷ (counts ++ rest)),
      number_at-byte 1 (251 ∷ 14 ∷ 13 ∷ (counts ++ rest)),
      number_at-byte 251 (14 ∷ 13 ∷ (counts ++ rest)),
      number_at-byte 14 (13 ∷ (counts ++ rest)),
      number_at-byte 13 (counts ++ rest),
      bytes_at-here 12 counts rest refl,
    ) refl

-- a table of one text
table_read : (sections : StringSections) (text rest : List ℕ) → HasNoZero text
    → table_at sections (1 ∷ 1 ∷ 8 ∷ 1 ∷ (text ++ 0 ∷ rest)) ≡ Some (record { path = text; directory = 0 } ∷ [], rest)
unfolding table_at pair_at form_of entry_at field_at
table_read sections text rest none =
    rw (
      number_at-byte 1 (1 ∷ 8 ∷ 1 ∷ (text ++ 0 ∷ rest)),
      uleb128_at-byte 1 (8 ∷ 1 ∷ (text ++ 0 ∷ rest))
          (omega arith),
      uleb128_at-byte 8 (1 ∷ (text ++ 0 ∷ rest)) (omega arith),
      uleb128_at-byte 1 (text ++ 0 ∷ rest)
          (omega arith),
      text_at-here text rest none,
    ) refl

no_zero : HasNoZero []
no_zero k d lt = absurd (omega arith)

contents_are : (sections : StringSections) (file program : List ℕ) → length (line_header_bytes file) < 2 ^ 32
    → HasNoZero file
    → contents_of sections (unit_bytes file program)
    ≡ Some (record {
      constants = constants;
      program = program;
      directories = record { path = []; directory = 0 } ∷ [];
      files = record { path = file; directory = 0 } ∷ [];
    })
unfolding contents_of line_header_bytes
contents_are sections file program short none =
    rw (
      parts_of-unit file program short,
      constants_at-header (table_bytes ++ (file ++ 0 ∷ [])),
      table_read sections []
          (1 ∷ 1 ∷ 8 ∷ 1 ∷ (file ++ 0 ∷ [])) no_zero,
      table_read sections file [] none,
    ) refl

-- ---- the unit

abbrev pub read_unit : List ℕ → List FunctionPart → LineUnit
read_unit file functions = record { files = file ∷ []; sequences = map sequence_of functions }

unit_is : (sections : StringSections) (file : List ℕ) (functions : List FunctionPart)
    → length (line_header_bytes file) < 2 ^ 32 → HasNoZero file → All RowsFit functions
    → unit_of sections (unit_bytes file (flat_map sequence_bytes functions)) ≡ Some (read_unit file functions)
unfolding unit_of
unit_is sections file functions short none fit =
    rw (
      contents_are sections file (flat_map sequence_bytes functions) short none,
      program_is functions fit,
      cond_same
          (is_absolute file) file,
    ) refl

nothing_in_front : front_at [] ≡ None
unfolding front_at number_at
nothing_in_front = refl

units_are : (unit : List ℕ) → length unit < 0xfffffff0 → units (little_bytes 4 (length unit) ++ unit) ≡ unit ∷ []
unfolding front_at
units_are unit short =
    rw (
      number_at-here 4 (length unit) unit (omega arith),
      lt-ltb (length unit) 0xfffffff0 short,
      bytes_at-all
          (length unit) unit refl,
    ) (no_more (suc (suc (suc (length unit)))))
  where
    no_more : (limit : ℕ) → unit ∷ units_within limit [] ≡ unit ∷ []
    no_more zero = refl
    no_more (suc limit) = rw nothing_in_front refl

-- the sequences as they are looked up
abbrev pub read_sequences : List ℕ → List FunctionPart → List (SequenceOf LineRow)
read_sequences file functions = map (sequence_by (line_row (file ∷ []))) (map sequence_of functions)

pub sequences_are : (sections : StringSections) (file : List ℕ) (functions : List FunctionPart)
    → length (unit_bytes file (program_bytes functions)) < 0xfffffff0 → HasNoZero file
    → All RowsFit (filter has_lines functions)
    → line_sequences sections (line_section file functions) ≡ read_sequences file (filter has_lines functions)
sequences_are sections file functions short none fit =
    let len = length-unit file (program_bytes functions) in
    let header = length-line_header file in
    rw (
      units_are (unit_bytes file (program_bytes functions)) short,
      unit_is sections file (filter has_lines functions)
          (omega arith) none fit,
    ) (append-nil (read_sequences file (filter has_lines functions)))

-- ---- the row of an address

none_begun : (file : List ℕ) (t a l n : ℕ) → t < a
    → filter (λ row. leb (line_address row) t) (map (line_row (file ∷ [])) (rows_from a l n)) ≡ []
none_begun file t a l zero lt = refl
none_begun file t a l (suc n) lt = rw (lt-leb a t lt) (none_begun file t (a + 4) (l + 1) n (omega arith))

last-cons : {A : Type 0} (x : A) (xs : List A) (y : A) → slice_get xs (length xs - 1) ≡ Some y
    → slice_get (x ∷ xs) (length (x ∷ xs) - 1) ≡ Some y
last-cons x [] y e = absurd cc
last-cons x (z ∷ xs) y e =
    let a : suc (length xs) - 1 ≡ length xs = omega arith in
    let b : suc (suc (length xs)) - 1 ≡ suc (length xs) = omega arith in
    rw b (rw a at e)

-- a row at a line of the file
abbrev at_row : List ℕ → ℕ → ℕ → LineRow
at_row file a l = record { address = a; file = file; line = l }

-- the rows from the next one on that have begun at t
abbrev later : List ℕ → ℕ → ℕ → ℕ → ℕ → List LineRow
later file n t a l = filter (λ row. leb (line_address row) t) (map (line_row (file ∷ [])) (rows_from (a + 4) (l + 1) n))

step : (file : List ℕ) (n t a l : ℕ) → a ≤ t → (t < a + 4) ⊎ (a + 4 ≤ t)
    → (a + 4 ≤ t → slice_get (later file n t a l) (length (later file n t a l) - 1)
    ≡ Some (at_row file (a + 4 + 4 * ((t - (a + 4)) / 4)) (l + 1 + (t - (a + 4)) / 4)))
    → slice_get (at_row file a l ∷ later file n t a l) (length (at_row file a l ∷ later file n t a l) - 1)
    ≡ Some (at_row file (a + 4 * ((t - a) / 4)) (l + (t - a) / 4))
step file n t a l low (inl lt) others =
    let address : a + 4 * ((t - a) / 4) ≡ a = omega arith in
    let line : l + (t - a) / 4 ≡ l = omega arith in
    rw (none_begun file t (a + 4) (l + 1) n lt, address, line) refl
step file n t a l low (inr le) others =
    let address : a + 4 + 4 * ((t - (a + 4)) / 4) ≡ a + 4 * ((t - a) / 4) = omega arith in
    let line : l + 1 + (t - (a + 4)) / 4 ≡ l + (t - a) / 4 = omega arith in
    last-cons (at_row file a l) (later file n t a l) (at_row file (a + 4 * ((t - a) / 4)) (l + (t - a) / 4))
    (rw (address, line) at (others le))

last_row_at : (file : List ℕ) (n t a l : ℕ) → a ≤ t → t < a + 4 * n
    → last_at line_address t (map (line_row (file ∷ [])) (rows_from a l n))
    ≡ Some (record { address = a + 4 * ((t - a) / 4); file = file; line = l + (t - a) / 4 })
last_row_at file zero t a l low high = absurd (omega arith)
last_row_at file (suc n) t a l low high =
    rw (le-leb a t low) (step file n t a l low (cases_lt t (a + 4))
    (λ le. last_row_at file n t (a + 4) (l + 1) le (omega arith)))

-- what is known of a function with lines
abbrev pub FitsIfLined : FunctionPart → Type 0
FitsIfLined f = has_lines f ≡ true → RowsFit f

pub lined_fit : (functions : List FunctionPart) → All FitsIfLined functions → All RowsFit (filter has_lines functions)
lined_fit [] fit = λ k d lt. absurd (omega arith)
lined_fit (f ∷ functions) fit =
    go (has_lines f) (fit 0 f (omega arith)) (lined_fit functions (All-rest FitsIfLined f functions fit))
  where
    go : (b : Bool) → (b ≡ true → RowsFit f) → All RowsFit (filter has_lines functions)
        → All RowsFit (cond b (f ∷ filter has_lines functions) (filter has_lines functions))
    go true here rest = All-more RowsFit f (filter has_lines functions) (here refl) rest
    go false here rest = rest

covers-is : (file : List ℕ) (t : ℕ) (f : FunctionPart) → RowsFit f
    → covers line_address t (sequence_by (line_row (file ∷ [])) (sequence_of f)) ≡ lies_in t f
covers-is file t f fit =
    let some = fit.some in
    let all : instruction_count f ≡ suc (instruction_count f - 1) = omega arith in
    rw all refl

module _ (file : List ℕ) (t : ℕ) where
  -- the line where there is one
  abbrev line_or_none : Option FunctionPart → FileLine
  line_or_none found = option_map_or (function_line file t) found (record { file = unknown; line = 0 })

  found_line : (f : FunctionPart) → RowsFit f → lies_in t f ≡ true
      → line_of (last_at line_address t
      (map (line_row (file ∷ [])) (rows_from f.addr f.first_line (instruction_count f)))) ≡ function_line file t f
  found_line f fit inside =
      let parts = both (leb f.addr t) (ltb t (f.addr + f.size)) inside in
      let low = leb-true f.addr t parts.0 in
      let high = ltb-true t (f.addr + f.size) parts.1 in
      let whole = fit.whole in
      rw (last_row_at file (instruction_count f) t f.addr f.first_line low (omega arith)) refl
    where
      both : (b c : Bool) → (b && c) ≡ true → (b ≡ true) × (c ≡ true)
      both true true e = (refl, refl)
      both true false e = absurd cc
      both false c e = absurd cc

  pick : (b : Bool) (f : FunctionPart) (sequence : Option (SequenceOf LineRow)) (function : Option FunctionPart)
      → (b ≡ true → line_of (last_at line_address t
      (map (line_row (file ∷ [])) (rows_from f.addr f.first_line (instruction_count f)))) ≡ function_line file t f)
      → line_of (option_and_then (λ s. last_at line_address t s.rows) sequence) ≡ line_or_none function
      → line_of (option_and_then (λ s. last_at line_address t s.rows)
      (cond b (Some (sequence_by (line_row (file ∷ [])) (sequence_of f))) sequence))
      ≡ line_or_none (cond b (Some f) function)
  pick true f sequence function here rest = here refl
  pick false f sequence function here rest = rest

  pub line_is : (functions : List FunctionPart) → All FitsIfLined functions
      → line_at (read_sequences file (filter has_lines functions)) t
      ≡ line_or_none (find (λ f. has_lines f && lies_in t f) functions)
  line_is [] fit = refl
  line_is (f ∷ functions) fit = go (has_lines f) (fit 0 f (omega arith))
      (line_is functions (All-rest FitsIfLined f functions fit))
    where
      go : (b : Bool) → (b ≡ true → RowsFit f)
          → line_at (read_sequences file (filter has_lines functions)) t
          ≡ line_or_none (find (λ g. has_lines g && lies_in t g) functions)
          → line_at (read_sequences file (cond b (f ∷ filter has_lines functions) (filter has_lines functions))) t
          ≡ line_or_none (cond (b && lies_in t f) (Some f) (find (λ g. has_lines g && lies_in t g) functions))
      go false here rest = rest
      go true here rest = rw (covers-is file t f (here refl))
          (pick (lies_in t f) f _ _ (λ inside. found_line f (here refl) inside) rest)
