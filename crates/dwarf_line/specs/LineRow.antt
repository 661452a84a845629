-- Rows as a reader sees them, and the look-up of an address.
use Rattle.std.specs.Prelude.{ℕ, ◌-◌, ◌&&◌, nat_le, nat_lt, Bool, false, List, [], ◌∷◌, length, filter, find, slice_get}
use Rattle.std.specs.Prelude.{Option, Some, None, option_and_then}
use Rattle.dwarf_line.specs.Program.{SequenceOf}
use Rattle.dwarf_line.specs.FileText.{unknown}

-- A row: from its address on the code comes from this line of the file.
pub record LineRow : Type 0 where
  pub address : ℕ
  pub file : List ℕ
  pub line : ℕ

-- a file and a line of it
pub record FileLine : Type 0 where
  pub file : List ℕ
  pub line : ℕ

-- whether rows begin at or below an address
abbrev pub begins_by : {R : Type 0} → (R → ℕ) → List R → ℕ → Bool
begins_by address [] target = false
begins_by address (row ∷ rows) target = nat_le (address row) target

-- A sequence covers the addresses from its first row's up to its end.
abbrev pub covers : {R : Type 0} → (R → ℕ) → ℕ → SequenceOf R → Bool
covers address target sequence = begins_by address sequence.rows target && nat_lt target sequence.end

-- the last of the rows at or below an address
abbrev pub last_at : {R : Type 0} → (R → ℕ) → ℕ → List R → Option R
last_at address target rows = let below =
    filter (λ row. nat_le (address row) target) rows in slice_get below (length below - 1)

abbrev pub line_address : LineRow → ℕ
line_address row = row.address

-- the row of an address: the last one at or below it, in the first sequence that covers it
abbrev pub row_at : List (SequenceOf LineRow) → ℕ → Option LineRow
row_at sequences target = option_and_then (λ sequence. last_at line_address target sequence.rows)
    (find (covers line_address target) sequences)

abbrev pub line_of : Option LineRow → FileLine
line_of None = record { file = unknown; line = 0 }
line_of (Some row) = record { file = row.file; line = row.line }

-- The file and line of an address are those of its row. Where it has none, the file is unknown and the
-- line 0.
abbrev pub line_at : List (SequenceOf LineRow) → ℕ → FileLine
line_at sequences target = line_of (row_at sequences target)
