-- Line number programs as bytes (DWARF 5, 6.2.5).
use Rattle.std.specs.Prelude.{ℕ, ◌+◌, ◌-◌, ◌/◌, ◌%◌, List, [], ◌∷◌, ◌++◌, filter, replicate}
use Rattle.std.specs.List.{flat_map}
use Rattle.prog_make.specs.declared.function_part.FunctionPart.{FunctionPart}
use Rattle.prog_make.specs.Encoding.{word_bytes}
use Rattle.prog_make.specs.Functions.{has_lines, instruction_count}

-- a number of 32 bits as an SLEB128 of five bytes (7.6)
unfoldable pub padded_leb128 : ℕ → List ℕ
padded_leb128 n = (n % 128 + 128) ∷ (n / 128 % 128 + 128) ∷ (n / 128 / 128 % 128 + 128) ∷
    (n / 128 / 128 / 128 % 128 + 128) ∷ (n / 128 / 128 / 128 / 128) ∷ []

-- the address (DW_LNE_set_address), the only file (DW_LNS_set_file) and the line (DW_LNS_advance_line) are set, and
-- DW_LNS_copy: the row of the first instruction
unfoldable pub first_row_bytes : FunctionPart → List ℕ
first_row_bytes f =
    0 ∷ 5 ∷ 2 ∷ (word_bytes f.addr ++ (4 ∷ 0 ∷ 3 ∷ (padded_leb128 (f.first_line - 1) ++ 1 ∷ [])))

-- the special opcode that goes on by four bytes and one line: the row of each further instruction
abbrev pub next_row : ℕ
next_row = 75

-- on by the last instruction (DW_LNS_advance_pc), and the end (DW_LNE_end_sequence)
unfoldable pub end_bytes : List ℕ
end_bytes = 2 ∷ 4 ∷ 0 ∷ 1 ∷ 1 ∷ []

-- the sequence of a function
abbrev pub sequence_bytes : FunctionPart → List ℕ
sequence_bytes f = first_row_bytes f ++ (replicate (instruction_count f - 1) next_row ++ end_bytes)

-- the sequences of the functions that have lines
abbrev pub program_bytes : List FunctionPart → List ℕ
program_bytes functions = flat_map sequence_bytes (filter has_lines functions)
