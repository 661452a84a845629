-- What follows the bytes of segments: the tables of lines and symbols, names, and the section headers.
use Rattle.std.specs.Prelude.{ℕ, ◌+◌, List, ◌++◌, length}
use Rattle.prog_make.specs.declared.section.SectionHeader.{SectionHeader}
use Rattle.prog_make.specs.declared.section.TableLengths.{TableLengths}
use Rattle.prog_make.specs.Parts.{Parts, content_len}
use Rattle.prog_make.specs.Programs.{file_segments, content_offset}
use Rattle.prog_make.specs.inner.Strings.{name_strings, section_strings, section_strings_len}
use Rattle.prog_make.specs.inner.Sections.{section_headers, sections_bytes}
use Rattle.prog_make.specs.inner.Symbols.{symbol_entries, symbols_bytes}
use Rattle.prog_make.specs.inner.LineSection.{line_section}

abbrev pub table_lengths : Parts → TableLengths
table_lengths parts = record {
  lines = length (line_section parts.file parts.functions);
  symbols = length (symbols_bytes (symbol_entries parts.segments parts.functions));
  strings = length (name_strings parts.functions);
}

-- where the tables begin
abbrev pub tables_offset : Parts → ℕ
tables_offset parts = content_offset parts.segments + content_len parts.segments

-- where the section headers begin
abbrev pub headers_offset : Parts → ℕ
headers_offset parts = tables_offset parts + (table_lengths parts).lines + (table_lengths parts).symbols +
    (table_lengths parts).strings + section_strings_len

abbrev pub headers_of : Parts → List SectionHeader
headers_of parts = section_headers (tables_offset parts) (table_lengths parts) (file_segments parts.segments)

abbrev pub tail_of : Parts → List ℕ
tail_of parts =
    line_section parts.file parts.functions
    ++ (symbols_bytes (symbol_entries parts.segments parts.functions)
    ++ (name_strings parts.functions ++ (section_strings ++ sections_bytes (headers_of parts))))
