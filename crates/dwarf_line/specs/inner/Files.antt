-- How files are kept: each text once where files side by side share it, and for each file its text's number.
use Rattle.std.specs.Prelude.{◌≡◌, ℕ, ◌<◌, ◌≤◌, List, [], length, map, slice_index, slice_index_or}
use Rattle.std.specs.List.{AllByRecursion}
use Rattle.dwarf_line.specs.declared.row.Row.{Row}
use Rattle.dwarf_line.specs.Rows.{with_text}
use Rattle.dwarf_line.specs.inner.Matrix.{OpenMatrix}

-- each number is that of a text, and no text is without a number
pub record AreNumbered (numbers : List ℕ) (texts : List (List ℕ)) : Type 0 where
  pub in_range : AllByRecursion (λ n. n < length texts) numbers
  pub few : length texts ≤ length numbers

abbrev pub files_by : List ℕ → List (List ℕ) → List (List ℕ)
files_by numbers texts = map (λ n. slice_index_or texts n []) numbers

-- a row that names the text of its file
abbrev pub renamed_row : List ℕ → Row → Row
renamed_row numbers row = record { addr = row.addr; file = slice_index numbers row.file; line = row.line }

-- the rows name texts where they named files, and read as before
pub record IsNamed (files : List (List ℕ)) (old new : OpenMatrix) (texts : List (List ℕ)) : Type 0 where
  pub few : length texts ≤ length files
  pub sequences : new.sequences ≡ old.sequences
  pub same : map (with_text texts) new.rows ≡ map (with_text files) old.rows
  pub files_known : AllByRecursion (λ row. row.file < length texts) new.rows
