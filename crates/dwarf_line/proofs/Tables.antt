-- What the builder holds reads as the sequences of the units that were added.
use Rattle.std.proofs.Common.{◌≡◌, ℕ, zero, suc, zero-add, ◌+◌, ◌-◌, ◌<◌, ◌≤◌, Bool, true, false, cond, ltb, List, []}
use Rattle.std.proofs.Common.{◌∷◌, ◌++◌, length, drop, map, Option, Some, None, refl, sym, ap, subst, ◌∙◌, append_assoc}
use Rattle.std.proofs.Common.{arith}
use Rattle.std.specs.Prelude.{slice_get, slice_range, unwrap_or}
use Rattle.std.specs.List.{AllByRecursion, filter_map, flat_map, cons_option}
use Rattle.std.proofs.lemmas.List.{append-nil, length-append, length-map, map-append, take-append-le, drop-append-le}
use Rattle.std.proofs.lemmas.List.{length-drop}
use Rattle.std.proofs.Math.Seq.{take-append_seam, drop-append_seam}
use Rattle.std.proofs.lemmas.Bool.{ltb-true, ltb-false}
use Rattle.std.proofs.lemmas.Option.{slice_get_past}
use Rattle.dwarf_line.specs.declared.row.Row.{Row}
use Rattle.dwarf_line.specs.declared.row.Sequence.{Sequence}
use Rattle.dwarf_line.specs.declared.registers.Registers.{Registers}
use Rattle.dwarf_line.specs.Bytes.{◌>>=◌}
use Rattle.dwarf_line.specs.Entry.{StringSections}
use Rattle.dwarf_line.specs.Program.{SequenceOf, sequence_by, program_sequences}
use Rattle.dwarf_line.specs.inner.Matrix.{numbered_row, rows_of, places_of}
use Rattle.dwarf_line.specs.FileText.{unknown, file_text}
use Rattle.dwarf_line.specs.Unit.{LineUnit, unit_of, contents_of, line_row, unit_sequences}
use Rattle.dwarf_line.specs.LineRow.{LineRow}
use Rattle.dwarf_line.specs.Rows.{with_text, row_address, sequence_in, IsPlaced, IsRising}
use Rattle.dwarf_line.specs.inner.Building.{Building, nothing_read, with_accepted, with_unit, with_units, lines_of}
use Rattle.dwarf_line.proofs.Rising.{IsWhole, state_address, all_append, bound, program_whole, all_whole_by}

-- ---- each sequence is whole

pub unit_whole : (sections : StringSections) (body : List ℕ) (unit : LineUnit) → unit_of sections body ≡ Some unit
    → AllByRecursion (IsWhole state_address) unit.sequences
unfolding unit_of
unit_whole sections body unit e =
    let a = bound (contents_of sections body)
    (λ contents. program_sequences contents.constants contents.program >>=
    λ sequences. Some (record {
      files = map (file_text contents.directories) contents.files;
      sequences = sequences;
    })) unit e in
    let b = bound (program_sequences a.0.constants a.0.program)
    (λ sequences. Some (record { files = map (file_text a.0.directories) a.0.files; sequences = sequences })) unit
    a.2 in
    let whole = program_whole a.0.constants a.0.program b.0 b.1 in
    let same : b.0 ≡ unit.sequences = let e2 = b.2 in cc in
    let P : List (SequenceOf Registers) → Type 0 = AllByRecursion (IsWhole state_address) in
    subst P same whole

-- ---- rows behind others are cut out again

placed-map : {R S : Type 0} (see : R → S) (first : ℕ) (sequences : List (SequenceOf R))
    → places_of first (map (sequence_by see) sequences) ≡ places_of first sequences
placed-map see first [] = refl
placed-map see first (s ∷ sequences) = rw (length-map s.rows see, placed-map see (first + length s.rows) sequences) refl

rows_of-map : {R S : Type 0} (see : R → S) (sequences : List (SequenceOf R))
    → rows_of (map (sequence_by see) sequences) ≡ map see (rows_of sequences)
rows_of-map see [] = refl
rows_of-map see (s ∷ sequences) = rw (map-append see s.rows (rows_of sequences), rows_of-map see sequences) refl

cut : {R : Type 0} (front rows back : List R)
    → slice_range (front ++ (rows ++ back)) (length front) (length front + length rows) ≡ rows
cut front rows back =
    let len : length front + length rows - length front ≡ length rows = omega arith in
    rw (drop-append_seam front (rows ++ back), len) (take-append_seam rows back)

cut_again : {R : Type 0} (front : List R) (sequences : List (SequenceOf R))
    → map (sequence_in (front ++ rows_of sequences)) (places_of (length front) sequences) ≡ sequences
cut_again front [] = refl
cut_again front (s ∷ sequences) =
    let head = cut front s.rows (rows_of sequences) in
    let regroup : front ++ (s.rows ++ rows_of sequences) ≡ (front ++ s.rows) ++ rows_of sequences =
    sym (append_assoc front s.rows (rows_of sequences)) in
    let behind : length (front ++ s.rows) ≡ length front + length s.rows = length-append front s.rows in
    let others : map (sequence_in (front ++ (s.rows ++ rows_of sequences)))
    (places_of (length front + length s.rows) sequences) ≡ sequences =
    rw (regroup, ← behind) (cut_again (front ++ s.rows) sequences) in
    rw (head, others) refl

cut_kept : {R : Type 0} (rows more : List R) (first last : ℕ) → first < last → last ≤ length rows
    → slice_range (rows ++ more) first last ≡ slice_range rows first last
cut_kept rows more first last some within =
    let fits : last - first ≤ length (drop first rows) = omega (arith, length-drop first rows) in
    rw (drop-append-le first rows more (omega arith)) (take-append-le (last - first) (drop first rows) more fits)

sequences_kept : {R : Type 0} (rows more : List R) (sequences : List Sequence)
    → AllByRecursion (IsPlaced (length rows)) sequences
    → map (sequence_in (rows ++ more)) sequences ≡ map (sequence_in rows) sequences
sequences_kept rows more [] all = refl
sequences_kept rows more (s ∷ sequences) all =
    rw (cut_kept rows more s.first s.last all.0.0 all.0.1, sequences_kept rows more sequences all.1) refl

-- ---- sequences that rise stay so behind others

kept_rise : (rows more : List Row) (sequences : List Sequence) → AllByRecursion (IsPlaced (length rows)) sequences
    → AllByRecursion (λ s. IsRising row_address (sequence_in rows s)) sequences
    → AllByRecursion (λ s. IsRising row_address (sequence_in (rows ++ more) s)) sequences
kept_rise rows more [] all rise = tt
kept_rise rows more (s ∷ sequences) all rise =
    let same : slice_range (rows ++ more) s.first s.last ≡ slice_range rows s.first s.last =
    cut_kept rows more s.first s.last all.0.0 all.0.1 in (
      subst (λ (xs : List Row). IsRising row_address (record { rows = xs; end = s.end }))
          (sym same) rise.0,
      kept_rise rows more sequences all.1 rise.1,
    )

all_of_map : {X Y : Type 0} (P : Y → Type 0) (f : X → Y) (xs : List X) → AllByRecursion P (map f xs)
    → AllByRecursion (λ x. P (f x)) xs
all_of_map P f [] all = tt
all_of_map P f (x ∷ xs) all = (all.0, all_of_map P f xs all.1)

all_rise : {R : Type 0} (address : R → ℕ) (sequences : List (SequenceOf R)) → AllByRecursion (IsWhole address) sequences
    → AllByRecursion (IsRising address) sequences
all_rise address [] all = tt
all_rise address (s ∷ sequences) all = (all.0.rises, all_rise address sequences all.1)

new_rise : (front : List Row) (sequences : List (SequenceOf Row)) → AllByRecursion (IsWhole row_address) sequences
    → AllByRecursion (λ s. IsRising row_address (sequence_in (front ++ rows_of sequences) s))
    (places_of (length front) sequences)
new_rise front sequences all =
    let places : List Sequence = places_of (length front) sequences in
    let P : List (SequenceOf Row) → Type 0 = AllByRecursion (IsRising row_address) in
    all_of_map (IsRising row_address) (sequence_in (front ++ rows_of sequences)) places
    (subst P (sym (cut_again front sequences)) (all_rise row_address sequences all))

-- ---- texts behind others

within_front : (files more : List (List ℕ)) (i : ℕ) → i < length files → slice_get (files ++ more) i ≡ slice_get files i
within_front [] more i lt = absurd (omega arith)
within_front (f ∷ files) more zero lt = refl
within_front (f ∷ files) more (suc i) lt = within_front files more i (omega arith)

within_back : (files more : List (List ℕ)) (i : ℕ) → slice_get (files ++ more) (length files + i) ≡ slice_get more i
within_back [] more i = rw zero-add refl
within_back (f ∷ files) more i = let e : length (f ∷ files) + i ≡ suc (length files + i) =
    omega arith in rw e (within_back files more i)

texts_kept : (files more : List (List ℕ)) (rows : List Row) → AllByRecursion (λ row. row.file < length files) rows
    → map (with_text (files ++ more)) rows ≡ map (with_text files) rows
texts_kept files more [] all = refl
texts_kept files more (r ∷ rows) all = rw (within_front files more r.file all.0, texts_kept files more rows all.1) refl

new_text : (files more : List (List ℕ)) (state : Registers) (has : Bool) → ltb state.file (length more) ≡ has
    → slice_get files 0 ≡ Some unknown → 0 < length files
    → unwrap_or (slice_get (files ++ more) (cond has (length files + state.file) 0)) unknown
    ≡ unwrap_or (slice_get more state.file) unknown
new_text files more state true is first some = rw (within_back files more state.file) refl
new_text files more state false is first some =
    rw (within_front files more 0 some, first, slice_get_past more state.file (ltb-false _ _ is)) refl

texts_new : (files more : List (List ℕ)) (states : List Registers) → slice_get files 0 ≡ Some unknown → 0 < length files
    → map (with_text (files ++ more)) (map (numbered_row (length files) (length more)) states)
    ≡ map (line_row more) states
texts_new files more [] first some = refl
texts_new files more (s ∷ states) first some =
    rw (new_text files more s (ltb s.file (length more)) refl first some, texts_new files more states first some) refl

-- ---- all places and numbers stay in range

placed_all : {R : Type 0} (address : R → ℕ) (first total : ℕ) (sequences : List (SequenceOf R))
    → AllByRecursion (IsWhole address) sequences → first + length (rows_of sequences) ≤ total
    → AllByRecursion (IsPlaced total) (places_of first sequences)
placed_all address first total [] all fits = tt
placed_all address first total (s ∷ sequences) all fits =
    let len = length-append s.rows (rows_of sequences) in (
      (omega (arith, all.0.has_row), omega arith),
      placed_all address (first + length s.rows) total sequences all.1
          (omega arith),
    )

placed_more : (few many : ℕ) (sequences : List Sequence) → few ≤ many → AllByRecursion (IsPlaced few) sequences
    → AllByRecursion (IsPlaced many) sequences
placed_more few many [] le all = tt
placed_more few many (s ∷ sequences) le all =
    ((all.0.0, omega (arith, all.0.1)), placed_more few many sequences le all.1)

known_more : (few many : ℕ) (rows : List Row) → few ≤ many → AllByRecursion (λ row. row.file < few) rows
    → AllByRecursion (λ row. row.file < many) rows
known_more few many [] le all = tt
known_more few many (r ∷ rows) le all = (omega (arith, all.0), known_more few many rows le all.1)

number_known : (before count file : ℕ) (has : Bool) → ltb file count ≡ has → 0 < before
    → cond has (before + file) 0 < before + count
number_known before count file true is some = omega (arith, ltb-true file count is)
number_known before count file false is some = omega arith

numbers_known : (before count : ℕ) (states : List Registers) → 0 < before
    → AllByRecursion (λ row. row.file < before + count) (map (numbered_row before count) states)
numbers_known before count [] some = tt
numbers_known before count (s ∷ states) some =
    (number_known before count s.file (ltb s.file count) refl some, numbers_known before count states some)

-- ---- units one after the other

pub record IsBuilt (building : Building) : Type 0 where
  pub sequences_placed : AllByRecursion (IsPlaced (length building.matrix.rows)) building.matrix.sequences
  pub sequences_rise : AllByRecursion (λ s. IsRising row_address (sequence_in building.matrix.rows s))
      building.matrix.sequences
  pub files_known : AllByRecursion (λ row. row.file < length building.files) building.matrix.rows
  pub unknown_first : slice_get building.files 0 ≡ Some unknown

has_first : (files : List (List ℕ)) (text : List ℕ) → slice_get files 0 ≡ Some text → 0 < length files
has_first [] text e = absurd cc
has_first (f ∷ files) text e = omega arith

added_built : (old : Building) (unit : LineUnit) → IsBuilt old → AllByRecursion (IsWhole state_address) unit.sequences
    → IsBuilt (with_accepted old unit)
added_built old unit built all =
    let some = has_first old.files unknown built.unknown_first in
    let see = numbered_row (length old.files) (length unit.files) in
    let new : List (SequenceOf Row) = map (sequence_by see) unit.sequences in
    let new_rows : rows_of new ≡ map see (rows_of unit.sequences) = rows_of-map see unit.sequences in
    let total : length (old.matrix.rows ++ rows_of new) ≡ length old.matrix.rows + length (rows_of unit.sequences) =
    omega (
      arith,
      length-append old.matrix.rows (rows_of new),
      ap length new_rows,
      length-map
          (rows_of unit.sequences) see,
    ) in
    let files : length (old.files ++ unit.files) ≡ length old.files + length unit.files =
    length-append old.files unit.files in
    let places : AllByRecursion (IsPlaced (length (old.matrix.rows ++ rows_of new)))
    (places_of (length old.matrix.rows) new) =
    rw (placed-map see (length old.matrix.rows) unit.sequences)
    (placed_all state_address (length old.matrix.rows) (length (old.matrix.rows ++ rows_of new)) unit.sequences all
    (omega (arith, total))) in
    let old_places = placed_more (length old.matrix.rows) (length (old.matrix.rows ++ rows_of new)) old.matrix.sequences
    (omega (arith, total)) built.sequences_placed in
    let new_whole : AllByRecursion (IsWhole row_address) new =
    all_whole_by state_address row_address see (λ state. refl) unit.sequences all in
    let rise = all_append (λ (s : Sequence). IsRising row_address (sequence_in (old.matrix.rows ++ rows_of new) s))
    old.matrix.sequences (places_of (length old.matrix.rows) new)
    (kept_rise old.matrix.rows (rows_of new) old.matrix.sequences built.sequences_placed
    built.sequences_rise) (new_rise old.matrix.rows new new_whole) in
    let numbers : AllByRecursion (λ row. row.file < length (old.files ++ unit.files)) (rows_of new) =
    rw (new_rows, files) (numbers_known (length old.files) (length unit.files) (rows_of unit.sequences) some) in
    let old_numbers = known_more (length old.files) (length (old.files ++ unit.files)) old.matrix.rows
    (omega (arith, files)) built.files_known in
    record {
      sequences_placed = all_append (IsPlaced (length (old.matrix.rows ++ rows_of new))) old.matrix.sequences
          (places_of (length old.matrix.rows) new) old_places places;
      sequences_rise = rise;
      files_known = all_append (λ (row : Row). row.file < length (old.files ++ unit.files)) old.matrix.rows
          (rows_of new) old_numbers numbers;
      unknown_first = within_front old.files unit.files 0 some ∙ built.unknown_first;
    }

added_lines : (old : Building) (unit : LineUnit) → IsBuilt old
    → lines_of (with_accepted old unit) ≡ lines_of old ++ unit_sequences unit
added_lines old unit built =
    let some = has_first old.files unknown built.unknown_first in
    let see = numbered_row (length old.files) (length unit.files) in
    let new : List (SequenceOf Row) = map (sequence_by see) unit.sequences in
    let new_lines = unit_sequences unit in
    let front : List LineRow = map (with_text old.files) old.matrix.rows in
    let back : map (with_text (old.files ++ unit.files)) (rows_of new) ≡ rows_of new_lines =
    rw (
      rows_of-map see unit.sequences,
      texts_new old.files unit.files
          (rows_of unit.sequences) built.unknown_first some,
    ) (sym (rows_of-map (line_row unit.files) unit.sequences)) in
    let rows : map (with_text (old.files ++ unit.files)) (old.matrix.rows ++ rows_of new) ≡ front ++ rows_of new_lines =
    rw (
      map-append (with_text (old.files ++ unit.files)) old.matrix.rows
          (rows_of new),
      texts_kept old.files unit.files old.matrix.rows built.files_known,
      back,
    ) refl in
    let front_len : length front ≡ length old.matrix.rows = length-map old.matrix.rows (with_text old.files) in
    let places : places_of (length old.matrix.rows) new ≡ places_of (length front) new_lines =
    placed-map see (length old.matrix.rows) unit.sequences
    ∙ sym (placed-map (line_row unit.files) (length old.matrix.rows) unit.sequences)
    ∙ ap (λ (n : ℕ). places_of n new_lines) (sym front_len) in
    let kept_places : AllByRecursion (IsPlaced (length front)) old.matrix.sequences =
    rw front_len built.sequences_placed in
    let kept = sequences_kept front (rows_of new_lines) old.matrix.sequences kept_places in
    rw (
      rows,
      places,
      map-append (sequence_in (front ++ rows_of new_lines)) old.matrix.sequences
          (places_of (length front) new_lines),
      kept,
      cut_again front new_lines,
    ) refl

-- what units that follow one another come to
pub record Follows (sections : StringSections) (old new : Building) (units : List LineUnit) : Type 0 where
  pub built : IsBuilt new
  pub lines : lines_of new ≡ lines_of old ++ flat_map unit_sequences units
  pub count : new.unit_count ≡ old.unit_count + length units

one_unit : (sections : StringSections) (body : List ℕ) (bodies : List (List ℕ)) (old : Building)
    (unit : Option LineUnit) → unit_of sections body ≡ unit → IsBuilt old
    → ((next : Building) → IsBuilt next
    → Follows sections next (with_units sections next bodies) (filter_map (unit_of sections) bodies))
    → Follows sections old (with_units sections (with_unit old unit) bodies)
    (cons_option unit (filter_map (unit_of sections) bodies))
one_unit sections body bodies old None is built later = later old built
one_unit sections body bodies old (Some unit) is built later =
    let whole = unit_whole sections body unit is in
    let rest = later (with_accepted old unit) (added_built old unit built whole) in
    let units = filter_map (unit_of sections) bodies in
    record {
      built = rest.built;
      lines = rest.lines ∙ ap (λ (x : List (SequenceOf LineRow)). x ++ flat_map unit_sequences units)
          (added_lines old unit built) ∙ append_assoc (lines_of old) (unit_sequences unit)
          (flat_map unit_sequences units);
      count = omega (arith, rest.count);
    }

pub units_follow : (sections : StringSections) (bodies : List (List ℕ)) (old : Building) → IsBuilt old
    → Follows sections old (with_units sections old bodies) (filter_map (unit_of sections) bodies)
units_follow sections [] old built =
    record { built = built; lines = sym (append-nil (lines_of old)); count = omega arith }
units_follow sections (body ∷ bodies) old built =
    one_unit sections body bodies old (unit_of sections body) refl built
    (λ next built. units_follow sections bodies next built)

pub nothing_built : IsBuilt nothing_read
nothing_built = record {
  sequences_placed = tt;
  sequences_rise = tt;
  files_known = tt;
  unknown_first = refl;
}
