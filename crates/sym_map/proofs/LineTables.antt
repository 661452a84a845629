-- The lines of a whole line table.
use Rattle.std.proofs.Common.{◌≡◌, ℕ, ◌<◌, ◌^◌, List, [], ◌∷◌, length, map, Option, Some, option_map, refl, sym, ap}
use Rattle.std.proofs.Common.{subst, ◌∙◌, Contains, get_or, arith}
use Rattle.std.specs.Prelude.{All, slice_get, flat_map, unwrap_or}
use Rattle.std.specs.Cmp.Lexicographic.{slice_cmp}
use Rattle.std.specs.List.{AllByRecursion}
use Rattle.std.specs.List.Sorted.{IsStrictlySortedBy}
use Rattle.std.specs.Ordering.{nat_cmp}
use Rattle.std.proofs.lemmas.List.{length-map}
use Rattle.std.proofs.lemmas.List.Elements.{recursion_from_All, All-contains, All-contains_itself, All-map, All-weaker}
use Rattle.std.proofs.lemmas.Option.{slice_get-map, slice_get-get_or}
use Rattle.dwarf_line.specs.declared.row.Row.{Row}
use Rattle.dwarf_line.specs.LineRow.{LineRow, row_at}
use Rattle.dwarf_line.specs.Rows.{Rows, IsPlaced, IsRising, with_text, row_address, sequence_in, sequences_of}
use Rattle.dwarf_line.specs.Program.{SequenceOf}
use Rattle.byte_text.specs.Names.{clean_name}
use Rattle.sym_map.specs.declared.range.Cover.{Cover}
use Rattle.sym_map.specs.declared.range.Range.{Range}
use Rattle.name_numbers.specs.Keys.{NumberEach}
use Rattle.sym_map.specs.inner.Lines.{cleaned_file, ShowsLine, AreLinesOf}
use Rattle.byte_text.specs.Names.{unknown as unknown_name}
use Rattle.sym_map.specs.inner.Spans.{cover, IsCutOf}
use Rattle.sym_map.specs.inner.Rows.{RowSpan, IsBounded, all_rows, line_spans, row_spans}
use Rattle.sym_map.proofs.LineSpans.{IsLined, shows_lines}
use Rattle.sym_map.proofs.Members.{Alike, Alike-refl, Alike-trans, Alike-permutation, Alike-cons, Alike-map, All-alike}
use Rattle.sym_map.proofs.Members.{Contains-map}
use Rattle.sym_map.proofs.RowPiles.{row_seen_is, spans_hold, lines_are}

abbrev pub file_of : Row → ℕ
file_of row = row.file

file_texts : (files : List (List ℕ)) (xs : List Row)
    → map (cleaned_file files) (map file_of xs)
    ≡ map (λ (row : LineRow). clean_name row.file) (map (with_text files) xs)
file_texts files [] = refl
file_texts files (x ∷ xs) = ap (λ ys. cleaned_file files x.file ∷ ys) (file_texts files xs)

module _ (table : Rows) (numbers : List ℕ) (alike : Alike numbers (map file_of (all_rows table))) where
  -- the cleaned texts of the numbers are those of the rows
  texts_alike : Alike (map (cleaned_file table.files) numbers)
      (map (λ (row : LineRow). clean_name row.file) (flat_map (λ (s : SequenceOf LineRow). s.rows) (sequences_of table)))
  texts_alike =
      let clean : LineRow → List ℕ = λ (row : LineRow). clean_name row.file in
      let rows : List LineRow = flat_map (λ (s : SequenceOf LineRow). s.rows) (sequences_of table) in
      Alike-trans (map (cleaned_file table.files) numbers)
      (map (cleaned_file table.files) (map file_of (all_rows table))) (map clean rows)
      (Alike-map (cleaned_file table.files) numbers (map file_of (all_rows table)) alike)
      (Alike-refl (map (cleaned_file table.files) (map file_of (all_rows table))) (map clean rows)
      (file_texts table.files (all_rows table) ∙ ap (map clean) (lines_are table)))

  pub numbers_known : All (IsBounded (length table.files)) (all_rows table)
      → All (λ number. number < length table.files) numbers
  numbers_known bounded =
      let P : ℕ → Type 0 = λ number. number < length table.files in
      All-alike P (map file_of (all_rows table)) numbers alike
      (All-map P file_of (all_rows table)
      (All-weaker (IsBounded (length table.files)) (λ row. P (file_of row)) (λ row so. so.0) (all_rows table) bounded))

  module _ (names : List (List ℕ)) (ids by_file : List ℕ)
      (each : NumberEach names ids (map (cleaned_file table.files) numbers))
      (placed : (k : ℕ) → k < length numbers → get_or by_file (get_or numbers k 0) 0 ≡ get_or ids k 0)
      (bounded : All (IsBounded (length table.files)) (all_rows table)) where
    -- the id of each row's file names its text
    named : (row : Row) → Contains (all_rows table) row → IsLined names table.files by_file row
    named row there =
        let among : Contains numbers row.file = (alike row.file).1 (Contains-map file_of (all_rows table) row there) in
        let k : ℕ = among.0 in
        let at : slice_get numbers k ≡ Some (get_or numbers k row.file) = slice_get-get_or numbers k row.file among.1 in
        let long = length-map numbers (cleaned_file table.files) in
        let is : slice_get numbers k ≡ Some row.file = at ∙ ap (λ (n : ℕ). Some n) among.2 in
        let same : get_or numbers k 0 ≡ row.file = ap (λ (o : Option ℕ). unwrap_or o 0) (sym (slice_get-get_or numbers k 0 among.1) ∙ is) in (
          ap (λ n. slice_get names (get_or by_file n 0)) (sym same) ∙ ap (slice_get names) (placed k among.1)
              ∙ each.each k (omega (arith, long, among.1))
              ∙ slice_get-map (cleaned_file table.files) numbers k
              ∙ ap (option_map (cleaned_file table.files)) is,
          refl,
          (All-contains (IsBounded (length table.files)) (all_rows table) row bounded there).1,
        )

    all_named : AllByRecursion (λ (s : RowSpan). IsLined names table.files by_file s.row) (row_spans table)
    all_named =
        let row_of : RowSpan → Row = λ (s : RowSpan). s.row in
        let Q : Row → Type 0 = IsLined names table.files by_file in
        let rows : All Q (all_rows table) = All-weaker (Contains (all_rows table)) Q named (all_rows table)
        (All-contains_itself (all_rows table)) in
        back (row_spans table) (recursion_from_All Q (map row_of (row_spans table))
        (All-alike Q (all_rows table) (map row_of (row_spans table))
        (Alike-permutation (map row_of (row_spans table)) (all_rows table) (spans_hold table)) rows))
      where
        back : (spans : List RowSpan)
            → AllByRecursion (IsLined names table.files by_file) (map (λ (s : RowSpan). s.row) spans)
            → AllByRecursion (λ (s : RowSpan). IsLined names table.files by_file s.row) spans
        back [] all = tt
        back (s ∷ spans) all = (all.0, back spans all.1)

    pub are_lines : (ranges : List Range) (unknown : ℕ) → All (IsPlaced (length table.rows)) table.sequences
        → All (λ sequence. IsRising row_address (sequence_in table.rows sequence)) table.sequences
        → IsStrictlySortedBy (slice_cmp nat_cmp) names → Alike names (unknown_name ∷ map (cleaned_file table.files) numbers)
        → length names < 2 ^ 32 → IsCutOf (line_spans by_file (row_spans table)) ranges
        → slice_get names unknown ≡ Some unknown_name
        → AreLinesOf (sequences_of table) names (record { 0 = unknown }) ranges
    are_lines ranges unknown whole rising rise same few cut at =
        let texts : List (List ℕ) = map (cleaned_file table.files) numbers in
        let rows : List (List ℕ) = map (λ (row : LineRow). clean_name row.file)
        (flat_map (λ (s : SequenceOf LineRow). s.rows) (sequences_of table)) in
        record {
          names_rise = rise;
          names_are = Alike-trans names (unknown_name ∷ texts) (unknown_name ∷ rows) same
              (Alike-cons unknown_name texts rows texts_alike);
          few = few;
          unknown_is = at;
          rise = cut.rise;
          within = cut.within;
          shows = λ a small.
              subst (λ (h : Cover). ShowsLine names h (row_at (sequences_of table) a)) (sym (cut.same a small))
              (subst (λ (o : Option LineRow). ShowsLine names (cover (line_spans by_file (row_spans table)) a) o)
              (row_seen_is table a (recursion_from_All (IsPlaced (length table.rows)) table.sequences whole)
              (recursion_from_All (λ sequence. IsRising row_address (sequence_in table.rows sequence)) table.sequences
              rising)) (shows_lines names table.files by_file (row_spans table) all_named a));
        }
