-- What a unit's header says of its line number program (DWARF 5, 6.2.4).
use Rattle.std.specs.Prelude.{ℕ, ◌-◌, ◌==◌, ◌&&◌, nat_lt, Bool, if◌then◌else◌, List, [], ◌∷◌, Option, Some, None, ℤ}
use Rattle.std.specs.List.{zip, list_all}
use Rattle.std.specs.Int.{w8, cast_signed}
use Rattle.dwarf_line.specs.Bytes.{◌>>=◌, bytes_at, number_at}

-- the constants of a program
pub record LineHeader : Type 0 where
  pub minimum_length : ℕ
  pub line_base : ℤ
  pub line_range : ℕ
  pub opcode_base : ℕ
  -- how many numbers follow each opcode below opcode_base, from 1
  pub operand_counts : List ℕ

-- so many numbers follow the opcodes 1 to 12 (DWARF 5, 6.2.5.2); a header that states others for them is damage
abbrev pub agrees : List ℕ → Bool
agrees counts = list_all (λ pair. pair.0 == pair.1) (zip counts (0 ∷ 1 ∷ 1 ∷ 1 ∷ 1 ∷ 0 ∷ 0 ∷ 0 ∷ 1 ∷ 0 ∷ 0 ∷ 1 ∷ []))

-- The fields from minimum_instruction_length to standard_opcode_lengths (fields 7 to 12). An instruction
-- has one operation; a line_range of 0 and an opcode_base of 0 are damage.
unfoldable pub constants_at : List ℕ → Option (LineHeader × List ℕ)
constants_at bytes = do
  minimum ← number_at 1 bytes
  operations ← number_at 1 minimum.1
  is_statement ← number_at 1 operations.1
  base ← number_at 1 is_statement.1
  range ← number_at 1 base.1
  opcode_base ← number_at 1 range.1
  counts ← if operations.0 == 1 && nat_lt 0 range.0 && nat_lt 0 opcode_base.0 then bytes_at
      (opcode_base.0 - 1) opcode_base.1 else None
  if agrees counts.0
      then Some (
        record {
          minimum_length = minimum.0;
          line_base = cast_signed w8 base.0;
          line_range = range.0;
          opcode_base = opcode_base.0;
          operand_counts = counts.0;
        },
        counts.1,
      )
      else None

-- The fields from version to header_length (fields 2 to 5) of a unit without its length. What follows is
-- cut by header_length into the rest of the header and the program. Of version 5, with addresses of four
-- bytes and without segments, else damage.
unfoldable pub parts_of : List ℕ → Option (List ℕ × List ℕ)
parts_of body = do
  version ← number_at 2 body
  address_size ← number_at 1 version.1
  segment_size ← number_at 1 address_size.1
  header_length ← number_at 4 segment_size.1
  if version.0 == 5 && address_size.0 == 4 && segment_size.0 ==
      0 then bytes_at header_length.0 header_length.1 else None
