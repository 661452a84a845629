-- What was read of a section so far.
use Rattle.std.specs.Prelude.{◌≡◌, ℕ, ◌+◌, List, [], ◌∷◌, ◌++◌, length, map, Option, Some, None}
use Rattle.dwarf_line.specs.Entry.{StringSections}
use Rattle.dwarf_line.specs.LineRow.{LineRow}
use Rattle.dwarf_line.specs.Rows.{sequence_in, with_text}
use Rattle.dwarf_line.specs.Program.{SequenceOf, sequence_by}
use Rattle.dwarf_line.specs.inner.Matrix.{OpenMatrix, numbered_row, with_sequences}
use Rattle.dwarf_line.specs.FileText.{unknown}
use Rattle.dwarf_line.specs.Unit.{LineUnit, unit_of}

-- rows and sequences, the texts of all files, and how many units were accepted
pub record Building : Type 0 where
  pub matrix : OpenMatrix
  pub files : List (List ℕ)
  pub unit_count : ℕ

-- nothing but the text of an unknown file, which has the number 0
abbrev pub nothing_read : Building
nothing_read = record { matrix = record { rows = []; sequences = []; first = 0 }; files = unknown ∷ []; unit_count = 0 }

-- with one unit more
abbrev pub with_accepted : Building → LineUnit → Building
with_accepted old unit = record {
  matrix = with_sequences old.matrix.rows old.matrix.sequences
      (map (sequence_by (numbered_row (length old.files) (length unit.files))) unit.sequences);
  files = old.files ++ unit.files;
  unit_count = old.unit_count + 1;
}

-- a unit that isn't accepted changes nothing
abbrev pub with_unit : Building → Option LineUnit → Building
with_unit old None = old
with_unit old (Some unit) = with_accepted old unit

abbrev pub with_units : StringSections → Building → List (List ℕ) → Building
with_units sections old [] = old
with_units sections old (body ∷ bodies) = with_units sections (with_unit old (unit_of sections body)) bodies

-- a unit was accepted and added
abbrev pub Adds : Option LineUnit → Building → Building → Type 0
Adds None old new = ⊥
Adds (Some unit) old new = new ≡ with_accepted old unit

-- the sequences that a building reads as
abbrev pub lines_of : Building → List (SequenceOf LineRow)
lines_of building = map (sequence_in (map (with_text building.files) building.matrix.rows)) building.matrix.sequences
