-- Lines of ranges, by the numbers of their files.
use Rattle.std.specs.Prelude.{◌≡◌, ℕ, ◌<◌, ◌≤◌, ◌^◌, ◌↔◌, List, length, slice_get, Option, Some, unwrap_or, Contains}
use Rattle.std.specs.Cmp.Lexicographic.{slice_cmp}
use Rattle.std.specs.List.Sorted.{IsStrictlySortedBy}
use Rattle.std.specs.Ordering.{nat_cmp}
use Rattle.dwarf_line.specs.Program.{SequenceOf}
use Rattle.dwarf_line.specs.LineRow.{LineRow, row_at}
use Rattle.dwarf_line.specs.FileText.{unknown}
use Rattle.byte_text.specs.Names.{clean_name}
use Rattle.event_costs.specs.declared.numbers.FileId.{FileId}
use Rattle.sym_map.specs.declared.range.Cover.{Cover}
use Rattle.sym_map.specs.declared.range.LineHere.{LineHere}
use Rattle.sym_map.specs.declared.range.Range.{Range}
use Rattle.byte_text.specs.Names.{unknown as unknown_name}
use Rattle.sym_map.specs.Places.{files_of}
use Rattle.sym_map.specs.inner.Ranges.{line_of, cover_at}
use Rattle.sym_map.specs.inner.Rising.{Rise}
use Rattle.sym_map.specs.inner.Shows.{Shows}
use Rattle.sym_map.specs.inner.Spans.{reach}

-- the cleaned text of a file's number
abbrev pub cleaned_file : List (List ℕ) → ℕ → List ℕ
cleaned_file files number = clean_name (unwrap_or (slice_get files number) unknown)

-- a line by its number of the file is that of a row, and has 32 bits
abbrev pub IsLineOf : List (List ℕ) → LineHere → LineRow → Type 0
IsLineOf names here row = (slice_get names here.file.0 ≡ Some (clean_name row.file)) × (here.line ≡ row.line)
    × (here.line < 2 ^ 32)

abbrev pub ShowsRow : List (List ℕ) → Option LineHere → Option LineRow → Type 0
ShowsRow names here row = Shows (IsLineOf names) here row

-- what is seen is the line of a row
abbrev pub ShowsLine : List (List ℕ) → Cover → Option LineRow → Type 0
ShowsLine names cover row = ShowsRow names (line_of cover) row

-- The names of all files in rising order, the number of the unknown one, and the lines of all addresses of 32 bits.
pub record AreLinesOf (lines : List (SequenceOf LineRow)) (names : List (List ℕ)) (unknown_file : FileId)
    (ranges : List Range) : Type 0 where
  pub names_rise : IsStrictlySortedBy (slice_cmp nat_cmp) names
  pub names_are : (name : List ℕ) → Contains names name ↔ Contains (files_of lines) name
  pub few : length names < 2 ^ 32
  pub unknown_is : slice_get names unknown_file.0 ≡ Some unknown_name
  pub rise : Rise ranges
  pub within : reach ranges ≤ 2 ^ 32
  pub shows : (address : ℕ) → address < 2 ^ 32 → ShowsLine names (cover_at ranges address) (row_at lines address)
