-- What was read of a section, as it is handed out: all rows, the sequences by the places of their rows,
-- and the texts of all files.
use Rattle.std.specs.Prelude.{ℕ, ◌<◌, ◌≤◌, List, map, slice_get, slice_range, unwrap_or, All}
use Rattle.std.specs.List.Sorted.{IsNonDecreasingBy}
use Rattle.dwarf_line.specs.declared.row.Row.{Row}
use Rattle.dwarf_line.specs.declared.row.Sequence.{Sequence}
use Rattle.dwarf_line.specs.Program.{SequenceOf}
use Rattle.dwarf_line.specs.FileText.{unknown}
use Rattle.dwarf_line.specs.LineRow.{LineRow}

pub record Rows : Type 0 where
  pub rows : List Row
  pub sequences : List Sequence
  pub files : List (List ℕ)
  pub unit_count : ℕ

-- a row with the text of its file
abbrev pub with_text : List (List ℕ) → Row → LineRow
with_text files row = record {
  address = row.addr;
  file = unwrap_or (slice_get files row.file) unknown;
  line = row.line;
}

-- a sequence with its rows
abbrev pub sequence_in : {R : Type 0} → List R → Sequence → SequenceOf R
sequence_in rows sequence = record { rows = slice_range rows sequence.first sequence.last; end = sequence.end }

-- the sequences in their order, each with its rows and its end
abbrev pub sequences_of : Rows → List (SequenceOf LineRow)
sequences_of table = map (sequence_in (map (with_text table.files) table.rows)) table.sequences

-- a sequence has a row, and all its rows are there
abbrev pub IsPlaced : ℕ → Sequence → Type 0
IsPlaced rows sequence = (sequence.first < sequence.last) × (sequence.last ≤ rows)

abbrev pub row_address : Row → ℕ
row_address row = row.addr

-- the rows of a sequence don't fall, and none lies past its end
pub record IsRising {R : Type 0} (address : R → ℕ) (sequence : SequenceOf R) : Type 0 where
  pub rows_rise : IsNonDecreasingBy address sequence.rows
  pub within_end : All (λ row. address row ≤ sequence.end) sequence.rows
