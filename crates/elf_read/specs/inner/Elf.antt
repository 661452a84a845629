-- What is kept of an accepted file.
use Rattle.std.specs.Prelude.{◌≡◌, ℕ, ◌+◌, ◌*◌, ◌%◌, ◌≤◌, ◌<◌, ◌^◌, List, length, None, IsTrue}
use Rattle.std.specs.List.{All, list_any}
use Rattle.elf_read.specs.declared.header.FileHeader.{FileHeader}
use Rattle.elf_read.specs.declared.program.Segment.{Segment}
use Rattle.elf_read.specs.declared.symbol.SymbolTable.{SymbolTable}
use Rattle.elf_read.specs.Header.{header_of}
use Rattle.elf_read.specs.Overlaps.{IsApart}
use Rattle.elf_read.specs.Programs.{segments_of, is_code, IsPlaced}
use Rattle.elf_read.specs.Refusal.{refusal}
use Rattle.elf_read.specs.Sections.{names_of, section_at, section_count, sections_end, IsHeld}
use Rattle.elf_read.specs.inner.Tables.{StringTable}
use Rattle.elf_read.specs.Standard.{symbol_len}
use Rattle.elf_read.specs.Symbols.{symbol_table_of}

pub record IsElf (bytes : List ℕ) (header : FileHeader) (segments : List Segment) (names : StringTable)
    (symbols : SymbolTable) (symbol_names : StringTable) : Type 0 where
  pub accepted : refusal bytes ≡ None
  pub header_is : header ≡ header_of bytes
  pub segments_are : segments ≡ segments_of bytes
  pub names_are : names ≡ record { bytes = bytes; range = names_of bytes }
  pub symbols_are : symbols ≡ symbol_table_of bytes
  pub symbol_names_are : symbol_names ≡ record { bytes = bytes; range = symbols.names }
  pub entry_aligned : header.entry % 4 ≡ 0
  pub entry_in_code : IsTrue (list_any (is_code header.entry) segments)
  pub apart : IsApart segments
  -- what is kept is in the file
  pub segments_placed : All (IsPlaced bytes) segments
  pub sections_whole : 0 < section_count bytes → sections_end bytes ≤ length bytes
  pub sections_held : (k : ℕ) → k < section_count bytes → IsHeld bytes (section_at bytes k)
  pub names_in_file : names.range.end ≤ length bytes
  pub symbols_whole : symbols.place + symbol_len * symbols.count ≤ length bytes
  pub symbol_names_in_file : symbols.names.end ≤ length bytes
  pub few_symbols : symbols.count < 2 ^ 28
