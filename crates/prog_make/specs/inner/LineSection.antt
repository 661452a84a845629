-- A section `.debug_line` of one unit as bytes (DWARF 5, 6.2.4).
use Rattle.std.specs.Prelude.{ℕ, List, [], ◌∷◌, ◌++◌, length}
use Rattle.prog_make.specs.declared.function_part.FunctionPart.{FunctionPart}
use Rattle.prog_make.specs.Encoding.{half_bytes, word_bytes}
use Rattle.prog_make.specs.inner.LineProgram.{program_bytes}

-- minimum_instruction_length 1, maximum_operations_per_instruction 1, default_is_stmt 1, line_base -5, line_range 14,
-- opcode_base 13 and the lengths of the standard opcodes
abbrev pub constant_bytes : List ℕ
constant_bytes = 1 ∷ 1 ∷ 1 ∷ 251 ∷ 14 ∷ 13 ∷ 0 ∷ 1 ∷ 1 ∷ 1 ∷ 1 ∷ 0 ∷ 0 ∷ 0 ∷ 1 ∷ 0 ∷ 0 ∷ 1 ∷ []

-- one directory, which is empty, and the format of the one file: each is a path (DW_LNCT_path) that stands there as a
-- string (DW_FORM_string)
abbrev pub table_bytes : List ℕ
table_bytes = 1 ∷ 1 ∷ 0x08 ∷ 1 ∷ 0 ∷ 1 ∷ 1 ∷ 0x08 ∷ 1 ∷ []

-- what stands between header_length and the program
unfoldable pub line_header_bytes : List ℕ → List ℕ
line_header_bytes file = constant_bytes ++ (table_bytes ++ (file ++ 0 ∷ []))

-- a unit without its length: version 5, address_size 4, segment_selector_size 0, header_length, header and program
unfoldable pub unit_bytes : List ℕ → List ℕ → List ℕ
unit_bytes file program = half_bytes 5 ++
    (4 ∷ 0 ∷ (word_bytes (length (line_header_bytes file)) ++ (line_header_bytes file ++ program)))

-- the unit behind its length
abbrev pub line_section : List ℕ → List FunctionPart → List ℕ
line_section file functions = word_bytes (length (unit_bytes file (program_bytes functions))) ++ unit_bytes file
    (program_bytes functions)
