-- A file with sections, made and read back.
use Rattle.std.proofs.Common.{◌≡◌, ◌≢◌, ℕ, zero, suc, ◌+◌, ◌*◌, ◌/◌, ◌<◌, ◌≤◌, ◌^◌, ◌&&◌, ◌||◌, not, Bool, true, false}
use Rattle.std.proofs.Common.{cond, eqb, leb, bit_and, nat_eq, List, [], ◌∷◌, ◌++◌, length, drop, map, find, get_or}
use Rattle.std.proofs.Common.{Some, None, refl, sym, ap, ◌∙◌, arith, length-append}
use Rattle.std.specs.Prelude.{codes}
use Rattle.std.specs.List.{All, flat_map, list_any, position_or_len, slice_get, starts_with}
use Rattle.std.specs.Option.{IsSomeAnd, option_map_or}
use Rattle.std.proofs.lemmas.Bool.{leb-true}
use Rattle.std.proofs.lemmas.Bool.Decides.{nat_tests}
use Rattle.std.proofs.lemmas.List.{drop-drop, drop_at, length-map, get_or-map, get_or-append-add}
use Rattle.std.proofs.lemmas.List.Concat.{length-flat_map}
use Rattle.std.proofs.lemmas.List.Sums.{passes_at_first, prefix_len-le-length}
use Rattle.elf_read.specs.declared.program.Segment.{Segment}
use Rattle.elf_read.specs.declared.symbol.SymbolTable.{SymbolTable}
use Rattle.elf_read.specs.declared.text.Range.{Range}
use Rattle.elf_read.specs.Checks.{first_fault, table, whole_fault}
use Rattle.elf_read.specs.Header.{has_sections}
use Rattle.elf_read.specs.Image.{image_of, content_of}
use Rattle.elf_read.specs.Refusal.{refusal}
use Rattle.elf_read.specs.Sections.{section_count, section_header, section_at, section_of, sections_of}
use Rattle.elf_read.specs.Sections.{sections_whole_fault, section_fault, strings_of, bytes_of, is_named, old_compressed}
use Rattle.elf_read.specs.Standard.{has_flag, pf_w, pf_x}
use Rattle.elf_read.specs.Symbols as elf
use Rattle.elf_read.proofs.OverlapLemmas.{no_segment}
use Rattle.elf_read.proofs.StringLemmas.{string_len-le}
use Rattle.elf_read.proofs.TableLemmas.{slice_get-table}
use Rattle.dwarf_line.specs.Entry.{StringSections}
use Rattle.dwarf_line.specs.FileText.{unknown}
use Rattle.dwarf_line.specs.LineRow.{line_at}
use Rattle.dwarf_line.specs.Unit.{line_sequences}
use Rattle.prog_make.specs.declared.function_part.FunctionPart.{FunctionPart}
use Rattle.prog_make.specs.declared.section.SectionHeader.{SectionHeader}
use Rattle.prog_make.specs.declared.section.TableLengths.{TableLengths}
use Rattle.prog_make.specs.SegmentContent.{SegmentContent}
use Rattle.prog_make.specs.Parts.{Parts, content_len}
use Rattle.prog_make.specs.Functions.{holds, lies_in, has_lines, is_executable, IsWhole, section_number}
use Rattle.prog_make.specs.Lengths.{file_len, tables_len}
use Rattle.prog_make.specs.inner.Conditions.{AreFit}
use Rattle.prog_make.specs.inner.Strings.{name_strings, section_strings}
use Rattle.prog_make.specs.Programs.{file_segments, file_segments_from, content_offset}
use Rattle.prog_make.specs.inner.Sections.{section_headers, table_sections, section_bytes, sections_bytes}
use Rattle.prog_make.specs.inner.Sections.{segment_section, null_section, table_section, symbol_section}
use Rattle.prog_make.specs.inner.Symbols.{symbol_entries, symbol_bytes, symbols_bytes, undefined_entry, entries_from}
use Rattle.prog_make.specs.inner.LineSection.{line_section}
use Rattle.prog_make.specs.inner.Tail.{table_lengths, tables_offset, headers_offset, headers_of, tail_of}
use Rattle.prog_make.specs.inner.ElfFile.{full_header, full_file, plain_header, plain_file, file_for, file_of}
use Rattle.prog_make.specs.Contents.{symbol_in, function_symbol, undefined_symbol}
use Rattle.prog_make.specs.Contents.{symbols_for, function_line, HasCode, IsFileOf, lines_of, line_made}
use Rattle.prog_make.proofs.Reading.{length-entries}
use Rattle.prog_make.proofs.SegmentsRead.{All-more, All-rest, IsGood, length-file_segments_from}
use Rattle.prog_make.proofs.ElfRead.{IsSound, length-elf_file, header_is, contents_are, good, refusal-elf_file, segments-elf_file}
use Rattle.prog_make.proofs.Bounds.{tables_fit, entry_in, in_code_below, length-section_strings, length-symbol_bytes}
use Rattle.prog_make.proofs.Bounds.{length-line_section, length-symbols, length-name_strings}
use Rattle.prog_make.proofs.StringsRead.{text_at}
use Rattle.prog_make.proofs.SectionsRead.{IsFine, HasHeaders, header_read, length-section_bytes, section_header-is}
use Rattle.prog_make.proofs.SectionsRead.{section_count-is, sections_are_whole, no_sections_fault}
use Rattle.prog_make.proofs.LinesRead.{FitsIfLined, lined_fit, sequences_are, line_is}
use Rattle.prog_make.proofs.TablesRead.{symbol_section-is, symbol_strings-are, lines-are}
use Rattle.prog_make.proofs.SymbolsRead.{EntryFits, FunctionFits, symbols-are, entries-seen, entries-fit}

-- ---- section headers are fine

All-map : {X Y : Type 0} (P : X → Type 0) (Q : Y → Type 0) (f : X → Y) (xs : List X) → ((x : X) → P x → Q (f x))
    → All P xs → All Q (map f xs)
All-map P Q f [] each all = λ k d lt. absurd (omega arith)
All-map P Q f (x ∷ xs) each all =
    All-more Q (f x) (map f xs) (each x (all 0 x (omega arith))) (All-map P Q f xs each (All-rest P x xs all))

flags_unset : (a b : Bool) → bit_and (2 + cond a 4 0 + cond b 1 0) 0x800 ≡ 0
flags_unset true true = refl
flags_unset true false = refl
flags_unset false true = refl
flags_unset false false = refl

flags_small : (a b : Bool) → 2 + cond a 4 0 + cond b 1 0 < 2 ^ 32
flags_small true true = omega arith
flags_small true false = omega arith
flags_small false true = omega arith
flags_small false false = omega arith

plain_name : (a : Bool) → starts_with nat_eq (text_at section_strings (cond a 39 45)) old_compressed ≡ false
unfolding section_strings old_compressed
plain_name true = refl
plain_name false = refl

low_name : (a : Bool) → cond a 39 45 < 51
low_name true = omega arith
low_name false = omega arith

segment_fine : (len : ℕ) → len < 2 ^ 32 → (s : Segment) → IsGood len s → IsFine len (segment_section s)
segment_fine len short s ok =
    let in_file = ok.in_file in
    record {
      name = low_name (has_flag pf_x s.flags);
      kind = omega arith;
      flags = flags_small (has_flag pf_x s.flags) (has_flag pf_w s.flags);
      addr = ok.fits.addr;
      offset = ok.fits.offset;
      size = ok.fits.file_len;
      link = omega arith;
      in_file = in_file;
      unset = flags_unset (has_flag pf_x s.flags) (has_flag pf_w s.flags);
      plain = plain_name (has_flag pf_x s.flags);
      short = string_len-le (drop (cond (has_flag pf_x s.flags) 39 45) section_strings);
    }

table_fine : (len name kind offset size : ℕ) → len < 2 ^ 32 → name < 51 → kind < 2 ^ 32 → offset + size ≤ len
    → starts_with nat_eq (text_at section_strings name) old_compressed ≡ false
    → IsFine len (table_section name kind offset size)
table_fine len name kind offset size short low fits in_file plain =
    record {
      name = low;
      kind = fits;
      flags = omega arith;
      addr = omega arith;
      offset = omega arith;
      size = omega arith;
      link = omega arith;
      in_file = in_file;
      unset = refl;
      plain = plain;
      short = string_len-le (drop name section_strings);
    }

symbols_fine : (len offset size : ℕ) → len < 2 ^ 32 → offset + size ≤ len
    → starts_with nat_eq (text_at section_strings 13) old_compressed ≡ false → IsFine len (symbol_section offset size)
symbols_fine len offset size short in_file plain =
    record {
      name = omega arith;
      kind = omega arith;
      flags = omega arith;
      addr = omega arith;
      offset = omega arith;
      size = omega arith;
      link = omega arith;
      in_file = in_file;
      unset = refl;
      plain = plain;
      short = string_len-le (drop 13 section_strings);
    }

headers_fine : (len tables : ℕ) (lengths : TableLengths) (segments : List Segment) → len < 2 ^ 32
    → tables + lengths.lines + lengths.symbols + lengths.strings + 51 ≤ len → All (IsGood len) segments
    → All (IsFine len) (section_headers tables lengths segments)
unfolding section_strings old_compressed
headers_fine len tables lengths segments short room goods =
    let segment_headers : List SectionHeader = map segment_section segments in
    let names = table_section 29 3 (tables + lengths.lines + lengths.symbols + lengths.strings) 51 in
    let strings = table_section 21 3 (tables + lengths.lines + lengths.symbols) lengths.strings in
    let symbols = symbol_section (tables + lengths.lines) lengths.symbols in
    let lines = table_section 1 1 tables lengths.lines in
    All-more (IsFine len) null_section (lines ∷ symbols ∷ strings ∷ names ∷ segment_headers)
    (table_fine len 0 0 0 0 short (omega arith) (omega arith) (omega arith) refl)
    (All-more (IsFine len) lines (symbols ∷ strings ∷ names ∷ segment_headers)
    (table_fine len 1 1 tables lengths.lines short (omega arith) (omega arith) (omega arith) refl)
    (All-more (IsFine len) symbols (strings ∷ names ∷ segment_headers)
    (symbols_fine len (tables + lengths.lines) lengths.symbols short (omega arith) refl)
    (All-more (IsFine len) strings (names ∷ segment_headers)
    (table_fine len 21 3 (tables + lengths.lines + lengths.symbols) lengths.strings short (omega arith)
    (omega arith) (omega arith) refl)
    (All-more (IsFine len) names segment_headers
    (table_fine len 29 3 (tables + lengths.lines + lengths.symbols + lengths.strings) 51 short (omega arith)
    (omega arith) (omega arith) refl)
    (All-map (IsGood len) (IsFine len) segment_section segments (segment_fine len short) goods)))))

-- ---- where everything stands

module _ (parts : Parts) (can : AreFit parts) (flags : All (λ s. s.flags < 2 ^ 32) parts.segments) where
  length-headers : length (headers_of parts) ≡ 5 + length parts.segments
  length-headers =
      let a = length-file_segments_from (content_offset parts.segments) parts.segments in
      let b = length-map (file_segments parts.segments) segment_section in
      omega arith

  length-tail : length (tail_of parts)
      ≡ (table_lengths parts).lines + (table_lengths parts).symbols + (table_lengths parts).strings + 51 + 40 *
      (5 + length parts.segments)
  length-tail =
      let lines = line_section parts.file parts.functions in
      let symbols = symbols_bytes (symbol_entries parts.segments parts.functions) in
      let strings = name_strings parts.functions in
      let headers = sections_bytes (headers_of parts) in
      let a = length-append lines (symbols ++ (strings ++ (section_strings ++ headers))) in
      let b = length-append symbols (strings ++ (section_strings ++ headers)) in
      let c = length-append strings (section_strings ++ headers) in
      let d = length-append section_strings headers in
      let e = length-section_strings in
      let f = length-entries section_bytes 40 length-section_bytes (headers_of parts) in
      let g = ap (λ n. 40 * n) length-headers in
      omega arith

  pub sound : IsSound (full_header parts) parts.segments (tail_of parts)
  sound =
      let count = can.segments.count in
      let fit = tables_fit parts can in
      let tail = length-tail in
      record {
        fits = record {
          entry = entry_in parts.entry parts.segments can.segments.placed can.segments.entry_in_code;
          program_count = omega arith;
          section_offset = omega arith;
          section_count = omega arith;
          names_index = omega arith;
        };
        count = refl;
        placed = can.segments.placed;
        flags = flags;
        room = omega arith;
      }

  tail_at : drop (tables_offset parts) (full_file parts) ≡ tail_of parts
  tail_at =
      let len = length-flat_map (λ (s : SegmentContent). s.bytes) parts.segments in
      sym (drop-drop (content_len parts.segments) (content_offset parts.segments) (full_file parts))
      ∙ ap (drop (content_len parts.segments)) (contents_are (full_header parts) parts.segments (tail_of parts) sound)
      ∙ drop_at (flat_map (λ s. s.bytes) parts.segments) (tail_of parts) (content_len parts.segments) len

  -- behind a table that stands at a place
  next : (file front rest : List ℕ) (place : ℕ) → drop place file ≡ front ++ rest
      → drop (place + length front) file ≡ rest
  next file front rest place e = sym (drop-drop (length front) place file) ∙ ap (drop (length front)) e
      ∙ drop_at front rest (length front) refl

  pub symbols_at : drop (tables_offset parts + (table_lengths parts).lines) (full_file parts)
      ≡ symbols_bytes (symbol_entries parts.segments parts.functions) ++
      (name_strings parts.functions ++ (section_strings ++ sections_bytes (headers_of parts)))
  symbols_at = next (full_file parts) (line_section parts.file parts.functions)
      (symbols_bytes (symbol_entries parts.segments parts.functions) ++
      (name_strings parts.functions ++ (section_strings ++ sections_bytes (headers_of parts))))
      (tables_offset parts) tail_at

  pub strings_at : drop (tables_offset parts + (table_lengths parts).lines + (table_lengths parts).symbols)
      (full_file parts) ≡ name_strings parts.functions ++ (section_strings ++ sections_bytes (headers_of parts))
  strings_at = next (full_file parts) (symbols_bytes (symbol_entries parts.segments parts.functions))
      (name_strings parts.functions ++ (section_strings ++ sections_bytes (headers_of parts)))
      (tables_offset parts + (table_lengths parts).lines) symbols_at

  names_at : drop (tables_offset parts + (table_lengths parts).lines + (table_lengths parts).symbols +
      (table_lengths parts).strings) (full_file parts) ≡ section_strings ++ sections_bytes (headers_of parts)
  names_at = next (full_file parts) (name_strings parts.functions)
      (section_strings ++ sections_bytes (headers_of parts))
      (tables_offset parts + (table_lengths parts).lines + (table_lengths parts).symbols) strings_at

  headers_at : drop (headers_offset parts) (full_file parts) ≡ sections_bytes (headers_of parts)
  headers_at = ap (λ n. drop (tables_offset parts + (table_lengths parts).lines + (table_lengths parts).symbols +
      (table_lengths parts).strings + n) (full_file parts)) (sym length-section_strings)
      ∙ next (full_file parts) section_strings (sections_bytes (headers_of parts))
      (tables_offset parts + (table_lengths parts).lines + (table_lengths parts).symbols +
      (table_lengths parts).strings) names_at

  length-file : length (full_file parts) ≡ headers_offset parts + 40 * (5 + length parts.segments)
  length-file = let a = length-elf_file (full_header parts) parts.segments (tail_of parts) in let b =
      length-tail in omega arith

  -- where there are functions
  length-made : (f : FunctionPart) (functions : List FunctionPart) → parts.functions ≡ f ∷ functions
      → length (full_file parts) ≡ file_len parts
  length-made f functions some =
      let file = length-file in
      let lines = length-line_section parts in
      let symbols = length-symbols parts.segments parts.functions in
      let strings = length-name_strings parts.functions in
      let tables = ap (tables_len parts) some in
      omega arith

  pub has_headers : HasHeaders (full_file parts) (headers_of parts) (headers_offset parts)
      (tables_offset parts + (table_lengths parts).lines + (table_lengths parts).symbols +
      (table_lengths parts).strings)
  has_headers =
      let header = header_is (full_header parts) parts.segments (tail_of parts) sound in
      let len = length-file in
      let count = length-headers in
      let fit = tables_fit parts can in
      record {
        offset = ap (λ h. h.section_offset) header;
        count = ap (λ h. h.section_count) header ∙ sym count;
        index = ap (λ h. h.names_index) header;
        not_first = omega arith;
        some = omega arith;
        at = headers_at;
        whole = omega arith;
        fine = headers_fine (length (full_file parts)) (tables_offset parts) (table_lengths parts)
            (file_segments parts.segments) (omega arith) (omega arith)
            (good (full_header parts) parts.segments (tail_of parts) sound);
        names_header = λ d. refl;
        names_rest = sections_bytes (headers_of parts);
        names_at = names_at;
      }

  -- ---- what is read

  accepted : refusal (full_file parts) ≡ None
  accepted = refusal-elf_file (full_header parts) parts.segments
      (tail_of parts) sound can.segments.apart can.segments.entry_aligned can.segments.entry_in_code
      (sections_are_whole (full_file parts) (headers_of parts) (headers_offset parts)
      (tables_offset parts + (table_lengths parts).lines + (table_lengths parts).symbols +
      (table_lengths parts).strings) has_headers)
      (no_sections_fault (full_file parts) (headers_of parts) (headers_offset parts)
      (tables_offset parts + (table_lengths parts).lines + (table_lengths parts).symbols +
      (table_lengths parts).strings) has_headers)

  same_table : (a a' b b' : ℕ) (r r' : Range) → a ≡ a' → b ≡ b' → r ≡ r'
      → ◌≡◌ {A = SymbolTable} (record { place = a; count = b; names = r })
      (record { place = a'; count = b'; names = r' })
  same_table a a' b b' r r' p q s = cc

  section_fits : (f : FunctionPart) → section_number parts.segments f < 2 ^ 16
  section_fits f = let place = prefix_len-le-length (λ s. not (holds f s)) parts.segments in let count =
      can.segments.count in omega arith

  function_fits : All (FunctionFits parts.segments) parts.functions
  function_fits k d lt =
      let f = get_or parts.functions k d in
      let below = in_code_below f parts.segments can.segments.placed (can.functions.in_code k d lt) in
      record {
        none = (can.functions.names k d lt).no_zero;
        addr = omega arith;
        size = omega arith;
        section = section_fits f;
      }

  entries_all : All (EntryFits (name_strings parts.functions)) (symbol_entries parts.segments parts.functions)
  entries_all =
      let fit = tables_fit parts can in
      All-more (EntryFits (name_strings parts.functions)) undefined_entry
      (entries_from 1 parts.segments parts.functions)
      (record {
        name = omega arith;
        name_fits = omega arith;
        value = omega arith;
        size = omega arith;
        section = omega arith;
        short = string_len-le (name_strings parts.functions);
      })
      (entries-fit parts.segments (0 ∷ []) parts.functions (omega arith) function_fits)

  -- the symbols, of which there is at least the undefined one
  symbols : map (symbol_in (full_file parts)) ((image_of (full_file parts)).symbols)
      ≡ undefined_symbol ∷ map (function_symbol parts.segments) parts.functions
  symbols =
      let entries = symbol_entries parts.segments parts.functions in
      let strings = name_strings parts.functions in
      let place = tables_offset parts + (table_lengths parts).lines in
      let names = place + (table_lengths parts).symbols in
      let number = length entries in
      let size : (table_lengths parts).symbols ≡ 16 * length entries =
      length-entries symbol_bytes 16 length-symbol_bytes entries in
      let whole : (table_lengths parts).symbols / 16 ≡ length entries = omega arith in
      let table_is : elf.symbol_table_of (full_file parts)
      ≡ record {
        place = place;
        count = length entries;
        names = record { start = names; end = names + length strings };
      } =
      ap (elf.symbol_table_in (full_file parts))
      (symbol_section-is (full_file parts) (tables_offset parts) (table_lengths parts) (file_segments parts.segments)
      (headers_offset parts) (tables_offset parts + (table_lengths parts).lines + (table_lengths parts).symbols +
      (table_lengths parts).strings) has_headers)
      ∙ same_table place place ((table_lengths parts).symbols / 16) (length entries) (strings_of (full_file parts) 3)
      (record { start = names; end = names + length strings }) refl whole
      (symbol_strings-are (full_file parts) (tables_offset parts) (table_lengths parts) (file_segments parts.segments)
      (headers_offset parts) (tables_offset parts + (table_lengths parts).lines + (table_lengths parts).symbols +
      (table_lengths parts).strings) has_headers) in
      ap (λ t. map (symbol_in (full_file parts)) (table (elf.symbol_in (full_file parts) t) t.count)) table_is
      ∙ symbols-are (full_file parts) strings (section_strings ++ sections_bytes (headers_of parts))
      (strings ++ (section_strings ++ sections_bytes (headers_of parts))) names place entries entries_all strings_at
      symbols_at
      ∙ ap (λ xs. undefined_symbol ∷ xs)
      (entries-seen parts.segments (0 ∷ []) parts.functions (λ k d lt. (can.functions.names k d lt).no_zero))

  -- the section of segment j
  section-is : (j : ℕ) → j < length parts.segments
      → slice_get (sections_of (full_file parts)) (5 + j)
      ≡ Some (section_of (full_file parts)
      (header_read (segment_section (get_or (file_segments parts.segments) j no_segment))))
  unfolding section_at
  section-is j lt =
      let len = length-headers in
      let placed_len = length-file_segments_from (content_offset parts.segments) parts.segments in
      let names = tables_offset parts + (table_lengths parts).lines + (table_lengths parts).symbols +
      (table_lengths parts).strings in
      let count = section_count-is (full_file parts) (headers_of parts) (headers_offset parts) names has_headers in
      let header : get_or (headers_of parts) (5 + j) null_section
      ≡ segment_section (get_or (file_segments parts.segments) j no_segment) =
      get_or-append-add (table_sections (tables_offset parts) (table_lengths parts))
      (map segment_section (file_segments parts.segments)) j null_section
      ∙ get_or-map segment_section (file_segments parts.segments) j no_segment null_section (omega arith) in
      slice_get-table (section_at (full_file parts)) (section_count (full_file parts)) (5 + j) (omega arith)
      ∙ ap (λ h. Some (section_of (full_file parts) h))
      (section_header-is (full_file parts) (headers_of parts) (headers_offset parts) names has_headers
      (5 + j) null_section (omega arith) ∙ ap header_read header)

executable_flags : (a b : Bool) → a ≡ true → bit_and (2 + cond a 4 0 + cond b 1 0) 4 ≢ 0
executable_flags false b e = absurd cc
executable_flags true true e = λ z. absurd cc
executable_flags true false e = λ z. absurd cc

-- the segment in the file has the flags, the address and the bytes of the part
record IsPlacedPart (p : Segment) (s : SegmentContent) : Type 0 where
  flags : p.flags ≡ s.flags
  addr : p.addr ≡ s.addr
  file_len : p.file_len ≡ length s.bytes

placed_part : (offset : ℕ) (segments : List SegmentContent) (j : ℕ) (d : Segment) (e : SegmentContent)
    → j < length segments → IsPlacedPart (get_or (file_segments_from offset segments) j d) (get_or segments j e)
placed_part offset [] j d e lt = absurd (omega arith)
placed_part offset (s ∷ segments) zero d e lt = record { flags = refl; addr = refl; file_len = refl }
placed_part offset (s ∷ segments) (suc j) d e lt = placed_part (offset + length s.bytes) segments j d e (omega arith)

code_in : (file : List ℕ) (p : Segment) (s : SegmentContent) (f : FunctionPart) → IsPlacedPart p s → holds f s ≡ true
    → HasCode (section_of file (header_read (segment_section p))) f
code_in file p s f is held =
    let parts = three (is_executable s) (leb s.addr f.addr) (leb (f.addr + f.size) (s.addr + length s.bytes)) held in
    let executable : has_flag pf_x p.flags ≡ true = ap (has_flag pf_x) is.flags ∙ parts.0 in
    let low = leb-true _ _ parts.1 in
    let high = leb-true _ _ parts.2 in
    let addr = is.addr in
    let len = is.file_len in
    record {
      executable = executable_flags (has_flag pf_x p.flags) (has_flag pf_w p.flags) executable;
      begins = omega arith;
      ends = omega arith;
    }
  where
    three : (a b c : Bool) → (a && b && c) ≡ true → (a ≡ true) × (b ≡ true) × (c ≡ true)
    three true true true e = (refl, refl, refl)
    three true true false e = absurd cc
    three true false c e = absurd cc
    three false b c e = absurd cc

-- a place is found where some element passes
place_found : {X : Type 0} (p : X → Bool) (xs : List X) → list_any p xs ≡ true → position_or_len p xs < length xs
place_found p [] found = absurd cc
place_found p (x ∷ xs) found = go (p x) (place_found p xs) found
  where
    go : (b : Bool) → (list_any p xs ≡ true → position_or_len p xs < length xs) → (b || list_any p xs) ≡ true
        → cond (not b) (1 + position_or_len p xs) 0 < suc (length xs)
    go true rest e = omega arith
    go false rest e = let lt = rest e in omega arith

module _ (parts : Parts) (can : AreFit parts) (flags : All (λ s. s.flags < 2 ^ 32) parts.segments) where
  code : All (λ f. IsSomeAnd (slice_get (sections_of (full_file parts)) (section_number parts.segments f))
      (λ s. HasCode s f)) parts.functions
  code k d lt =
      let f = get_or parts.functions k d in
      let j = position_or_len (holds f) parts.segments in
      let inside : j < length parts.segments = place_found (holds f) parts.segments (can.functions.in_code k d lt) in
      let e : SegmentContent = record { addr = 0; bytes = []; mem_len = 0; flags = 0 } in
      let held : holds f (get_or parts.segments j e) ≡ true = passes_at_first (holds f) parts.segments e inside in
      rw (section-is parts can flags j inside)
      (code_in (full_file parts) (get_or (file_segments parts.segments) j no_segment) (get_or parts.segments j e) f
      (placed_part (content_offset parts.segments) parts.segments j no_segment e inside) held)

  rows_fit : All FitsIfLined parts.functions
  rows_fit k d lt lined =
      let f = get_or parts.functions k d in
      let whole : IsWhole f = can.functions.whole k d lt in
      let size = whole.size_aligned in
      let some = whole.not_empty in
      let fit = whole.lines_fit in
      let below = in_code_below f parts.segments can.segments.placed (can.functions.in_code k d lt) in
      record {
        some = omega arith;
        whole = omega arith;
        end = omega arith;
        first = has_first f.first_line lined;
        last = fit;
      }
    where
      has_first : (n : ℕ) → not (eqb n 0) ≡ true → 0 < n
      has_first n e = grind (arith, nat_tests)

  lines : (a : ℕ) → line_at (lines_of (full_file parts)) a ≡ line_made parts a
  lines a =
      let fit = tables_fit parts can in
      let names = tables_offset parts + (table_lengths parts).lines + (table_lengths parts).symbols +
      (table_lengths parts).strings in
      let tail : drop (tables_offset parts) (full_file parts)
      ≡ line_section parts.file parts.functions ++
      (symbols_bytes (symbol_entries parts.segments parts.functions) ++
      (name_strings parts.functions ++ (section_strings ++ sections_bytes (headers_of parts)))) =
      tail_at parts can flags in
      let bytes : content_of (image_of (full_file parts)) (codes ".debug_line")
      ≡ line_section parts.file parts.functions =
      lines-are (full_file parts) (tables_offset parts) (table_lengths parts) (file_segments parts.segments)
      (headers_offset parts) names (has_headers parts can flags) (line_section parts.file parts.functions)
      (symbols_bytes (symbol_entries parts.segments parts.functions) ++
      (name_strings parts.functions ++ (section_strings ++ sections_bytes (headers_of parts)))) tail refl in
      let sections : StringSections =
      record {
        line_str = content_of (image_of (full_file parts)) (codes ".debug_line_str");
        strings = content_of (image_of (full_file parts)) (codes ".debug_str");
      } in
      ap (λ section. line_at (line_sequences sections section) a) bytes
      ∙ ap (λ sequences. line_at sequences a)
      (sequences_are sections parts.file parts.functions (omega arith) can.file
      (lined_fit parts.functions rows_fit))
      ∙ line_is parts.file a parts.functions rows_fit

full_is_made : (parts : Parts) → AreFit parts → All (λ s. s.flags < 2 ^ 32) parts.segments
    → (f : FunctionPart) (functions : List FunctionPart) → parts.functions ≡ f ∷ functions
    → IsFileOf parts (full_file parts)
full_is_made parts can flags f functions some = record {
  accepted = accepted parts can flags;
  len = length-made parts can flags f functions some;
  entry = ap (λ h. h.entry) (header_is (full_header parts) parts.segments (tail_of parts) (sound parts can flags));
  segments = segments-elf_file (full_header parts) parts.segments (tail_of parts) (sound parts can flags);
  symbols = symbols parts can flags
      ∙ ap (λ fs. undefined_symbol ∷ map (function_symbol parts.segments) fs) some
      ∙ sym (ap (symbols_for parts.segments) some);
  code = code parts can flags;
  lines = lines parts can flags;
}

-- ---- a file without sections

module _ (parts : Parts) (can : AreFit parts) (flags : All (λ s. s.flags < 2 ^ 32) parts.segments)
    (none : parts.functions ≡ []) where
  plain_sound : IsSound (plain_header parts) parts.segments []
  plain_sound =
      let count = can.segments.count in
      let fit = tables_fit parts can in
      record {
        fits = record {
          entry = entry_in parts.entry parts.segments can.segments.placed can.segments.entry_in_code;
          program_count = omega arith;
          section_offset = omega arith;
          section_count = omega arith;
          names_index = omega arith;
        };
        count = refl;
        placed = can.segments.placed;
        flags = flags;
        room = omega arith;
      }

  count_none : section_count (plain_file parts) ≡ 0
  count_none = ap (λ h. cond (has_sections h) h.section_count 0)
      (header_is (plain_header parts) parts.segments [] plain_sound)

  whole_none : sections_whole_fault (plain_file parts) ≡ None
  whole_none = ap (λ h. cond (has_sections h) (whole_fault (plain_file parts) (h.section_offset + 40 * h.section_count))
      None) (header_is (plain_header parts) parts.segments [] plain_sound)

  no_sections : sections_of (plain_file parts) ≡ []
  no_sections = ap (table (section_at (plain_file parts))) count_none

  no_symbols : (image_of (plain_file parts)).symbols ≡ []
  unfolding elf.symbol_section
  no_symbols =
      let absent : elf.symbol_section (plain_file parts) ≡ None =
      ap (λ n. find elf.is_symbol_table (table (section_header (plain_file parts)) n)) count_none in
      ap (λ o. let t = elf.symbol_table_in (plain_file parts) o in table (elf.symbol_in (plain_file parts) t) t.count)
      absent

  no_lines : (a : ℕ) → line_at (lines_of (plain_file parts)) a ≡ record { file = unknown; line = 0 }
  no_lines a =
      let bytes : content_of (image_of (plain_file parts)) (codes ".debug_line") ≡ [] =
      ap (λ sections. option_map_or (bytes_of (plain_file parts))
      (find (is_named (plain_file parts) (codes ".debug_line")) sections) []) no_sections in
      ap (λ section. line_at (line_sequences
      (record {
        line_str = content_of (image_of (plain_file parts)) (codes ".debug_line_str");
        strings = content_of (image_of (plain_file parts)) (codes ".debug_str");
      }) section) a) bytes

  plain_is_made : IsFileOf parts (plain_file parts)
  plain_is_made = record {
    accepted = refusal-elf_file (plain_header parts) parts.segments [] plain_sound can.segments.apart
        can.segments.entry_aligned can.segments.entry_in_code whole_none
        (ap (λ n. first_fault (table (section_fault (plain_file parts)) n)) count_none);
    len = let file = length-elf_file (plain_header parts) parts.segments [] in
        let tables = ap (tables_len parts) none in omega arith;
    entry = ap (λ h. h.entry) (header_is (plain_header parts) parts.segments [] plain_sound);
    segments = segments-elf_file (plain_header parts) parts.segments [] plain_sound;
    symbols = ap (map (symbol_in (plain_file parts))) no_symbols ∙ sym (ap (symbols_for parts.segments) none);
    code = λ k d lt. absurd (let empty = ap length none in omega arith);
    lines = λ a. no_lines a ∙ sym (ap
        (λ functions. option_map_or (function_line parts.file a) (find (λ f. has_lines f && lies_in a f) functions)
        (record { file = unknown; line = 0 })) none);
  }

pub is_made : (parts : Parts) → AreFit parts → All (λ s. s.flags < 2 ^ 32) parts.segments → IsFileOf parts (file_of parts)
is_made parts can flags = go parts.functions refl
  where
    go : (functions : List FunctionPart) → parts.functions ≡ functions → IsFileOf parts (file_for parts functions)
    go [] e = plain_is_made parts can flags e
    go (f ∷ functions) e = full_is_made parts can flags f functions e
