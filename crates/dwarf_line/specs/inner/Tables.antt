-- What holds of every table of lines, as it is kept.
use Rattle.std.specs.Prelude.{ℕ, ◌+◌, ◌<◌, ◌≤◌, ◌^◌, List, length}
use Rattle.std.specs.List.{AllByRecursion}
use Rattle.dwarf_line.specs.declared.row.Row.{Row}
use Rattle.dwarf_line.specs.declared.row.Sequence.{Sequence}
use Rattle.dwarf_line.specs.Rows.{IsPlaced, IsRising, row_address, sequence_in}

-- All places and all numbers of files are in range, and sequences rise. There are fewer files than 32 bits can number:
-- a unit has no more of them than bytes behind its length, which takes four, and a section is shorter than 2^32 bytes.
pub record IsTable (rows : List Row) (sequences : List Sequence) (files : List (List ℕ)) : Type 0 where
  pub sequences_placed : AllByRecursion (IsPlaced (length rows)) sequences
  pub sequences_rise : AllByRecursion (λ sequence. IsRising row_address (sequence_in rows sequence)) sequences
  pub files_known : AllByRecursion (λ row. row.file < length files) rows
  pub few_files : length files + 4 ≤ 2 ^ 32
