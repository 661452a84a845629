-- The section header table as bytes (gABI, Section Header).
use Rattle.std.specs.Prelude.{ℕ, ◌+◌, List, [], ◌∷◌, ◌++◌, map, if◌then◌else◌}
use Rattle.std.specs.List.{flat_map}
use Rattle.elf_read.specs.declared.program.Segment.{Segment}
use Rattle.elf_read.specs.Standard.{pf_w, pf_x, has_flag, symbol_len, sht_progbits, sht_strtab}
use Rattle.elf_read.specs.Standard.{shf_write, shf_alloc}
use Rattle.prog_make.specs.inner.Strings.{lines_name, symbols_name, strings_name, names_name, text_name, data_name}
use Rattle.prog_make.specs.inner.Strings.{section_strings_len}
use Rattle.prog_make.specs.declared.section.SectionHeader.{SectionHeader}
use Rattle.prog_make.specs.declared.section.TableLengths.{TableLengths}
use Rattle.prog_make.specs.Encoding.{words_bytes}

-- sh_name, sh_type, sh_flags, sh_addr, sh_offset, sh_size, sh_link, sh_info, sh_addralign and sh_entsize
unfoldable pub section_bytes : SectionHeader → List ℕ
section_bytes h = words_bytes (h.name ∷ h.kind ∷ h.flags ∷ h.addr ∷ h.offset ∷ h.size ∷ h.link ∷ h.info ∷ 1 ∷
    h.entry_size ∷ [])

-- the first section, which is none
abbrev pub null_section : SectionHeader
null_section = record {
  name = 0;
  kind = 0;
  flags = 0;
  addr = 0;
  offset = 0;
  size = 0;
  link = 0;
  info = 0;
  entry_size = 0;
}

-- a table that isn't loaded
abbrev pub table_section : ℕ → ℕ → ℕ → ℕ → SectionHeader
table_section name kind offset size =
    record {
      name = name;
      kind = kind;
      flags = 0;
      addr = 0;
      offset = offset;
      size = size;
      link = 0;
      info = 0;
      entry_size = 0;
    }

-- the symbol table, whose names stand in section 3 and whose first global symbol is 1
abbrev pub symbol_section : ℕ → ℕ → SectionHeader
symbol_section offset size = record {
  name = symbols_name;
  kind = 2;
  flags = 0;
  addr = 0;
  offset = offset;
  size = size;
  link = 3;
  info = 1;
  entry_size = symbol_len;
}

-- in memory, with instructions where the segment is executable, and writable where it is
abbrev pub segment_section_flags : ℕ → ℕ
segment_section_flags flags = shf_alloc + (if has_flag pf_x flags then 4 else 0) +
    (if has_flag pf_w flags then shf_write else 0)

-- a section with the bytes of a segment, named .text where it is executable and else .data
abbrev pub segment_section : Segment → SectionHeader
segment_section s = record {
  name = if has_flag pf_x s.flags then text_name else data_name;
  kind = sht_progbits;
  flags = segment_section_flags s.flags;
  addr = s.addr;
  offset = s.offset;
  size = s.file_len;
  link = 0;
  info = 0;
  entry_size = 0;
}

-- The sections of tables: the lines, the symbols and the names of both stand one after the other from a place on.
abbrev pub table_sections : ℕ → TableLengths → List SectionHeader
table_sections offset lengths =
    null_section
    ∷ table_section lines_name sht_progbits offset lengths.lines
    ∷ symbol_section (offset + lengths.lines) lengths.symbols
    ∷ table_section strings_name sht_strtab (offset + lengths.lines + lengths.symbols) lengths.strings
    ∷ table_section names_name sht_strtab (offset + lengths.lines + lengths.symbols + lengths.strings)
    section_strings_len
    ∷ []

-- All sections; that of segment i has the number i + 5.
abbrev pub section_headers : ℕ → TableLengths → List Segment → List SectionHeader
section_headers offset lengths segments = table_sections offset lengths ++ map segment_section segments

abbrev pub sections_bytes : List SectionHeader → List ℕ
sections_bytes headers = flat_map section_bytes headers
