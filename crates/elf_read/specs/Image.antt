-- What a file says: numbers at their places in the list of its bytes.
use Rattle.std.specs.Prelude.{ℕ, List, [], Option}
use Rattle.std.specs.Option.{option_map_or}
use Rattle.std.specs.List.{find}
use Rattle.elf_read.specs.declared.program.Segment.{Segment}
use Rattle.elf_read.specs.declared.section.Section.{Section}
use Rattle.elf_read.specs.declared.symbol.Symbol.{Symbol}
use Rattle.elf_read.specs.Header.{header_of}
use Rattle.elf_read.specs.Programs.{headers_addr_of, segments_of}
use Rattle.elf_read.specs.Sections.{sections_of, bytes_of, is_named}
use Rattle.elf_read.specs.Checks.{table}
use Rattle.elf_read.specs.Symbols.{symbol_in, symbol_table_of}

pub record Image : Type 0 where
  -- the whole file
  pub bytes : List ℕ
  -- the address of the first instruction
  pub entry : ℕ
  -- how many program headers there are
  pub header_count : ℕ
  -- the address of the first program header, where a segment holds them all
  pub headers_addr : Option ℕ
  -- in the order of their program headers
  pub segments : List Segment
  -- in the order of their section headers
  pub sections : List Section
  -- in the order of the symbol table
  pub symbols : List Symbol

-- the bytes of the first section of a name, and none where no section has it
abbrev pub content_of : Image → List ℕ → List ℕ
content_of image name = option_map_or (bytes_of image.bytes) (find (is_named image.bytes name) image.sections) []

abbrev pub image_of : List ℕ → Image
image_of bytes = record {
  bytes = bytes;
  entry = (header_of bytes).entry;
  header_count = (header_of bytes).program_count;
  headers_addr = headers_addr_of (header_of bytes) (segments_of bytes);
  segments = segments_of bytes;
  sections = sections_of bytes;
  symbols = table (symbol_in bytes (symbol_table_of bytes)) (symbol_table_of bytes).count;
}
