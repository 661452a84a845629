-- The sections of tables read back: lines, symbols and names.
use Rattle.std.proofs.Common.{◌≡◌, ℕ, ◌+◌, ◌-◌, ◌<◌, true, false, List, [], ◌++◌, length, drop, get_or, find, Some}
use Rattle.std.proofs.Common.{refl, ap, ◌∙◌, arith}
use Rattle.std.specs.Prelude.{codes}
use Rattle.std.specs.Option.{option_map_or}
use Rattle.std.specs.Str.{bytes_eq}
use Rattle.std.proofs.lemmas.List.{take_at}
use Rattle.elf_read.specs.declared.program.Segment.{Segment}
use Rattle.elf_read.specs.Image.{image_of, content_of}
use Rattle.elf_read.specs.Sections.{bytes_of, section_count, section_header, section_at, section_of, section_name}
use Rattle.elf_read.specs.Sections.{sections_of, is_named, strings_of}
use Rattle.elf_read.specs.Strings.{part_of}
use Rattle.elf_read.specs.Symbols as elf
use Rattle.elf_read.proofs.TableLemmas.{find_goes_on, find_ends}
use Rattle.prog_make.specs.declared.section.TableLengths.{TableLengths}
use Rattle.prog_make.specs.inner.Strings.{section_strings}
use Rattle.prog_make.specs.inner.Sections.{section_headers, null_section, table_section, symbol_section}
use Rattle.prog_make.proofs.SectionsRead.{header_read, HasHeaders, section_header-is, section_count-is, name-is}
use Rattle.prog_make.proofs.SectionsRead.{strings-are}

module _ (file : List ℕ) (tables : ℕ) (lengths : TableLengths) (placed : List Segment) (start names : ℕ)
    (has : HasHeaders file (section_headers tables lengths placed) start names) where
  header-is : (k : ℕ) → k < 5 → section_header file k
      ≡ header_read (get_or (section_headers tables lengths placed) k null_section)
  header-is k lt = section_header-is file (section_headers tables lengths placed) start names has k null_section
      (omega arith)

  -- the symbol table is section 2
  pub symbol_section-is : elf.symbol_section file
      ≡ Some (header_read (symbol_section (tables + lengths.lines) lengths.symbols))
  unfolding elf.symbol_section
  symbol_section-is =
      let no0 : elf.is_symbol_table (section_header file 0) ≡ false =
      ap elf.is_symbol_table (header-is 0 (omega arith)) in
      let no1 : elf.is_symbol_table (section_header file 1) ≡ false =
      ap elf.is_symbol_table (header-is 1 (omega arith)) in
      let yes : elf.is_symbol_table (section_header file 2) ≡ true =
      ap elf.is_symbol_table (header-is 2 (omega arith)) in
      let many : 2 < section_count file = let n =
      section_count-is file (section_headers tables lengths placed) start names has in omega arith in
      find_ends elf.is_symbol_table (section_header file) (section_count file) 2 many
      (find_goes_on elf.is_symbol_table (section_header file) 1
      (find_goes_on elf.is_symbol_table (section_header file) 0 refl no0) no1) yes
      ∙ ap (λ h. Some h) (header-is 2 (omega arith))

  -- the names of symbols are section 3
  pub symbol_strings-are : strings_of file 3
      ≡ record {
        start = tables + lengths.lines + lengths.symbols;
        end = tables + lengths.lines + lengths.symbols + lengths.strings;
      }
  symbol_strings-are = strings-are file (section_headers tables lengths placed) start names has 3 null_section
      (omega arith) refl

  line_name : part_of file (section_name file (header_read (table_section 1 1 tables lengths.lines)))
      ≡ codes ".debug_line"
  unfolding section_strings
  line_name = name-is file (section_headers tables lengths placed) start names has 1 null_section (omega arith) refl

  -- the line table is section 1
  lines_found : find (is_named file (codes ".debug_line")) (sections_of file) ≡ Some (section_at file 1)
  unfolding section_at
  lines_found =
      let name = codes ".debug_line" in
      let no0 : is_named file name (section_at file 0) ≡ false =
      ap (λ h. is_named file name (section_of file h)) (header-is 0 (omega arith)) in
      let yes : is_named file name (section_at file 1) ≡ true =
      ap (λ h. is_named file name (section_of file h)) (header-is 1 (omega arith))
      ∙ ap (λ xs. bytes_eq xs name) line_name in
      let many : 1 < section_count file = let n =
      section_count-is file (section_headers tables lengths placed) start names has in omega arith in
      find_ends (is_named file name) (section_at file) (section_count file) 1 many
      (find_goes_on (is_named file name) (section_at file) 0 refl no0) yes

  pub lines-are : (lines rest : List ℕ) → drop tables file ≡ lines ++ rest → lengths.lines ≡ length lines
      → content_of (image_of file) (codes ".debug_line") ≡ lines
  unfolding section_at
  lines-are lines rest at len =
      let cut : tables + lengths.lines - tables ≡ length lines = omega arith in
      let is : section_at file 1 ≡ section_of file (header_read (table_section 1 1 tables lengths.lines)) =
      ap (section_of file) (header-is 1 (omega arith)) in
      ap (λ o. option_map_or (bytes_of file) o []) (lines_found ∙ ap (λ s. Some s) is)
      ∙ rw (cut, at) (take_at lines rest (length lines) refl)
