-- How many bytes a file has: the sum of its tables, each by what an entry takes.
use Rattle.std.specs.Prelude.{ℕ, ◌+◌, ◌-◌, ◌*◌, List, [], ◌∷◌, length, filter, sum_by, codes}
use Rattle.elf_read.specs.Standard.{header_len, program_header_len, section_header_len, symbol_len}
use Rattle.prog_make.specs.declared.function_part.FunctionPart.{FunctionPart}
use Rattle.prog_make.specs.Functions.{has_lines, instruction_count}
use Rattle.prog_make.specs.Parts.{Parts, content_len}

-- A sequence of lines (DWARF 5, 6.2.5): DW_LNE_set_address with four bytes of address, DW_LNS_set_file,
-- DW_LNS_advance_line with five bytes of number, and DW_LNS_copy; a special opcode for each instruction but the first;
-- DW_LNS_advance_pc and DW_LNE_end_sequence.
abbrev pub sequence_len : FunctionPart → ℕ
sequence_len f = (3 + 4) + 2 + (1 + 5) + 1 + (instruction_count f - 1) + 2 + 3

-- The line table (DWARF 5, 6.2.4): unit_length; version, address_size, segment_selector_size and header_length; six
-- fields of a byte each and the lengths of twelve standard opcodes; one empty directory and one file, each with its
-- format and count, and the file's text with a zero byte; and the sequences.
abbrev pub line_table_len : Parts → ℕ
line_table_len parts = 4 + (2 + 1 + 1 + 4) + (6 + 12) + 5 + 4 + (length parts.file + 1) +
    sum_by sequence_len (filter has_lines parts.functions)

-- a string with the zero byte that ends it (gABI, String Table)
abbrev pub string_len : List ℕ → ℕ
string_len text = length text + 1

abbrev pub section_names : List (List ℕ)
section_names = codes ".debug_line" ∷ codes ".symtab" ∷ codes ".strtab" ∷ codes ".shstrtab" ∷ codes ".text" ∷
    codes ".data" ∷ []

-- What follows the bytes of segments: the line table; the symbols of functions behind STN_UNDEF; the names of functions
-- and those of sections, each behind the empty one; and the headers of five sections and of one for each segment.
-- Without functions nothing does.
abbrev pub tables_len : Parts → List FunctionPart → ℕ
tables_len parts [] = 0
tables_len parts (f ∷ functions) =
    line_table_len parts + symbol_len * (1 + length parts.functions) +
    (string_len [] + sum_by (λ f. string_len f.name) parts.functions) +
    (string_len [] + sum_by string_len section_names) + section_header_len * (5 + length parts.segments)

-- the ELF header, the program headers, the bytes of segments, and what follows them
abbrev pub file_len : Parts → ℕ
file_len parts = header_len + program_header_len * length parts.segments + content_len parts.segments +
    tables_len parts parts.functions
