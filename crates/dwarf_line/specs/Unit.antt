-- The units of a section `.debug_line` (DWARF 5, 6.2.4; the lengths in front of them: 7.4 and 7.5.1).
use Rattle.std.specs.Prelude.{ℕ, zero, suc, ◌==◌, nat_lt, if◌then◌else◌, List, [], ◌∷◌, ◌++◌, length, map, slice_get}
use Rattle.std.specs.Prelude.{Option, Some, None, unwrap_or}
use Rattle.std.specs.List.{filter_map, flat_map}
use Rattle.std.specs.Option.{option_map_or}
use Rattle.dwarf_line.specs.declared.registers.Registers.{Registers}
use Rattle.dwarf_line.specs.Bytes.{◌>>=◌, bytes_at, number_at}
use Rattle.dwarf_line.specs.Entry.{StringSections}
use Rattle.dwarf_line.specs.Table.{table_at}
use Rattle.dwarf_line.specs.Header.{constants_at, parts_of}
use Rattle.dwarf_line.specs.Program.{SequenceOf, sequence_by, program_sequences}
use Rattle.dwarf_line.specs.LineRow.{LineRow}
use Rattle.dwarf_line.specs.UnitContents.{UnitContents}
use Rattle.dwarf_line.specs.FileText.{unknown, file_text}

-- what stands in front of the section: a unit without its length, or one of the 64-bit format
pub data Front : Type 0 where
  body : List ℕ → Front
  wide : Front

-- A unit by its length. Where the length is reserved or the unit ends past the section, reading stops. A
-- unit of the 64-bit format is passed over by its length.
unfoldable pub front_at : List ℕ → Option (Front × List ℕ)
front_at bytes = do
  first ← number_at 4 bytes
  if nat_lt first.0 0xfffffff0
      then (bytes_at first.0 first.1 >>= λ read. Some (body read.0, read.1))
      else (if first.0 == 0xffffffff then
      (number_at 8 first.1 >>= λ count. bytes_at count.0 count.1 >>= λ read. Some (wide, read.1)) else None)

abbrev pub bodies_of : Front → List (List ℕ)
bodies_of (body bytes) = bytes ∷ []
bodies_of wide = []

-- The units of the 32-bit format up to where reading stops. Each takes a byte at least, so as many as
-- there are bytes suffice.
abbrev pub units_within : ℕ → List ℕ → List (List ℕ)
units_within zero bytes = []
units_within (suc limit) bytes =
    option_map_or (λ read. bodies_of read.0 ++ units_within limit read.1) (front_at bytes) []

-- the units of a section, without their lengths
abbrev pub units : List ℕ → List (List ℕ)
units section = units_within (length section) section

-- The tables stand behind the constants, and have to end where the program begins, or before.
unfoldable pub contents_of : StringSections → List ℕ → Option UnitContents
contents_of sections unit = do
  parts ← parts_of unit
  constants ← constants_at parts.0
  directories ← table_at sections constants.1
  files ← table_at sections directories.1
  Some (record { constants = constants.0; program = parts.1; directories = directories.0; files = files.0 })

-- an accepted unit: the texts of its files, and its sequences of rows that are registers
pub record LineUnit : Type 0 where
  pub files : List (List ℕ)
  pub sequences : List (SequenceOf Registers)

-- A unit, where it is accepted.
unfoldable pub unit_of : StringSections → List ℕ → Option LineUnit
unit_of sections unit = do
  contents ← contents_of sections unit
  sequences ← program_sequences contents.constants contents.program
  Some (record { files = map (file_text contents.directories) contents.files; sequences = sequences })

-- the units that are accepted, in their order
abbrev pub accepted_units : StringSections → List ℕ → List LineUnit
accepted_units sections section = filter_map (unit_of sections) (units section)

-- the row of the registers, with the text of its file, which is unknown where the unit lacks the number
abbrev pub line_row : List (List ℕ) → Registers → LineRow
line_row files state = record {
  address = state.address;
  file = unwrap_or (slice_get files state.file) unknown;
  line = state.line;
}

abbrev pub unit_sequences : LineUnit → List (SequenceOf LineRow)
unit_sequences unit = map (sequence_by (line_row unit.files)) unit.sequences

-- The sequences of a section in the order of reading, each with its rows and its end.
abbrev pub line_sequences : StringSections → List ℕ → List (SequenceOf LineRow)
line_sequences sections section = flat_map unit_sequences (accepted_units sections section)
