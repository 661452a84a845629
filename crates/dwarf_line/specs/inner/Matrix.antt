-- How rows and sequences are kept: all rows one after the other, and for each sequence the places of its
-- rows.
use Rattle.std.specs.Prelude.{ℕ, ◌+◌, ◌≡◌, nat_lt, Bool, true, false, if◌then◌else◌, List, [], ◌∷◌, ◌++◌, length, take}
use Rattle.std.specs.Prelude.{drop, Option, Some, None}
use Rattle.std.specs.List.{flat_map}
use Rattle.dwarf_line.specs.declared.row.Row.{Row}
use Rattle.dwarf_line.specs.declared.row.Sequence.{Sequence}
use Rattle.dwarf_line.specs.declared.registers.Registers.{Registers}
use Rattle.dwarf_line.specs.declared.registers.Outcome.{Outcome}
use Rattle.dwarf_line.specs.declared.registers.Outcome.TheVariants as outcome
use Rattle.dwarf_line.specs.Program.{SequenceOf, allows}
use Rattle.dwarf_line.specs.Rows.{row_address}

-- rows, sequences and the place at which the open sequence begins
pub record OpenMatrix : Type 0 where
  pub rows : List Row
  pub sequences : List Sequence
  pub first : ℕ

-- A row of the registers. The files of the unit have the numbers from `before` on, and a number that the
-- unit doesn't have is 0.
abbrev pub numbered_row : ℕ → ℕ → Registers → Row
numbered_row before count state =
    record {
      addr = state.address;
      file = if nat_lt state.file count then before + state.file else 0;
      line = state.line;
    }

-- the rows of the open sequence
abbrev pub open_rows : OpenMatrix → List Row
open_rows matrix = drop matrix.first matrix.rows

abbrev pub may_follow : OpenMatrix → ℕ → Bool
may_follow matrix address = allows row_address (open_rows matrix) address

abbrev pub with_row : OpenMatrix → Row → OpenMatrix
with_row matrix row = record { rows = matrix.rows ++ row ∷ []; sequences = matrix.sequences; first = matrix.first }

-- the sequence that ends here, where it has rows
abbrev pub ended_sequences : OpenMatrix → ℕ → List Sequence
ended_sequences matrix end = if nat_lt matrix.first
    (length matrix.rows) then record { first = matrix.first; last = length matrix.rows; end = end } ∷ [] else []

abbrev pub with_end : OpenMatrix → ℕ → OpenMatrix
with_end matrix end = record {
  rows = matrix.rows;
  sequences = matrix.sequences ++ ended_sequences matrix end;
  first = length matrix.rows;
}

abbrev pub rows_of : {R : Type 0} → List (SequenceOf R) → List R
rows_of sequences = flat_map (λ sequence. sequence.rows) sequences

-- the places of the sequences' rows, where the first row of all has the place given
abbrev pub places_of : {R : Type 0} → ℕ → List (SequenceOf R) → List Sequence
places_of first [] = []
places_of first (sequence ∷ sequences) =
    record { first = first; last = first + length sequence.rows; end = sequence.end } ∷ places_of
    (first + length sequence.rows) sequences

-- the matrix with these sequences behind, and no sequence open
abbrev pub with_sequences : List Row → List Sequence → List (SequenceOf Row) → OpenMatrix
with_sequences rows kept sequences =
    record {
      rows = rows ++ rows_of sequences;
      sequences = kept ++ places_of (length rows) sequences;
      first = length (rows ++ rows_of sequences);
    }

-- a matrix that was closed has grown by the sequences, of which there are some
abbrev pub Grows : Option (List (SequenceOf Row)) → OpenMatrix → OpenMatrix → Type 0
Grows None old new = ⊥
Grows (Some sequences) old new = new ≡ with_sequences old.rows old.sequences sequences

-- everything that the old matrix holds stands in the new one in front
pub record Keeps (old new : OpenMatrix) : Type 0 where
  pub rows : take (length old.rows) new.rows ≡ old.rows
  pub sequences : take (length old.sequences) new.sequences ≡ old.sequences

-- the matrix takes what an instruction led to
abbrev pub Takes : ℕ → ℕ → Outcome → OpenMatrix → OpenMatrix → Type 0
Takes before count (outcome.Goes state) old new = new ≡ old
Takes before count (outcome.Row state) old new = (may_follow old state.address ≡ true)
    × (new ≡ with_row old (numbered_row before count state))
Takes before count (outcome.End address) old new = (may_follow old address ≡ true) × (new ≡ with_end old address)

-- the matrix doesn't take it
abbrev pub Refuses : Outcome → OpenMatrix → Type 0
Refuses (outcome.Goes state) old = ⊥
Refuses (outcome.Row state) old = may_follow old state.address ≡ false
Refuses (outcome.End address) old = may_follow old address ≡ false
