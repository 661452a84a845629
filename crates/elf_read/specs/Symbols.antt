-- The symbol table (gABI, Symbol Table).
use Rattle.std.specs.Prelude.{ℕ, ◌+◌, ◌*◌, ◌/◌, ◌%◌, List, Option, Some, None, Bool, slice_index, ◌==◌}
use Rattle.std.specs.List.{find}
use Rattle.elf_read.specs.declared.section.SectionHeader.{SectionHeader}
use Rattle.elf_read.specs.declared.symbol.Symbol.{Symbol}
use Rattle.elf_read.specs.declared.symbol.SymbolTable.{SymbolTable}
use Rattle.elf_read.specs.declared.text.Range.{Range}
use Rattle.elf_read.specs.Standard.{symbol_len}
use Rattle.elf_read.specs.Numbers.{half_at, word_at}
use Rattle.elf_read.specs.Checks.{table}
use Rattle.elf_read.specs.Sections.{section_count, section_header, strings_of}
use Rattle.elf_read.specs.Strings.{nothing, string_at}

-- SHT_SYMTAB
abbrev pub is_symbol_table : SectionHeader → Bool
is_symbol_table h = h.kind == 2

-- the first section of that type
unfoldable pub symbol_section : List ℕ → Option SectionHeader
symbol_section bytes = find is_symbol_table (table (section_header bytes) (section_count bytes))

-- its whole pieces of the length of a symbol, with names in the section sh_link; no symbols where there is no such
-- section
abbrev pub symbol_table_in : List ℕ → Option SectionHeader → SymbolTable
symbol_table_in bytes None = record { place = 0; count = 0; names = nothing }
symbol_table_in bytes (Some h) =
    record { place = h.offset; count = h.size / symbol_len; names = strings_of bytes h.link }

abbrev pub symbol_table_of : List ℕ → SymbolTable
symbol_table_of bytes = symbol_table_in bytes (symbol_section bytes)

-- the fields st_name, st_value, st_size, st_info and st_shndx of the symbol at a place; the type is in the low
-- four bits of st_info, and the binding in the high ones
abbrev pub symbol_at : List ℕ → Range → ℕ → Symbol
symbol_at bytes names place = record {
  name = string_at bytes names (word_at bytes place);
  value = word_at bytes (place + 4);
  size = word_at bytes (place + 8);
  kind = slice_index bytes (place + 12) % 16;
  binding = slice_index bytes (place + 12) / 16;
  section = half_at bytes (place + 14);
}

-- symbol k of a table
unfoldable pub symbol_in : List ℕ → SymbolTable → ℕ → Symbol
symbol_in bytes t k = symbol_at bytes t.names (t.place + symbol_len * k)
