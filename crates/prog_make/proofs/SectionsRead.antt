-- Section headers read back.
use Rattle.std.proofs.Common.{◌≡◌, ℕ, ◌+◌, ◌*◌, ◌<◌, ◌≤◌, ◌^◌, ◌&&◌, not, Bool, true, false, cond, eqb, ltb, min}
use Rattle.std.proofs.Common.{bit_and, List, [], ◌∷◌, ◌++◌, length, drop, get_or, None, refl, sym, ap, ◌∙◌, arith}
use Rattle.std.proofs.Common.{add-zero, nat_eq}
use Rattle.std.specs.List.{All, starts_with}
use Rattle.std.proofs.lemmas.Bool.{le-ltb, lt-ltb}
use Rattle.std.proofs.lemmas.Bool.Decides.{nat_tests}
use Rattle.std.proofs.lemmas.List.{append-nil, drop-drop}
use Rattle.elf_read.specs.declared.section.SectionHeader as reader
use Rattle.elf_read.specs.declared.text.Range.{Range}
use Rattle.elf_read.specs.Checks.{first_fault, table, whole_fault}
use Rattle.elf_read.specs.Header.{header_of, has_sections}
use Rattle.elf_read.specs.Numbers.{word_at}
use Rattle.elf_read.specs.Sections.{section_count, sections_end, section_header, section_header_at, has_bytes}
use Rattle.elf_read.specs.Sections.{content_of, strings_of, names_of, section_name, sections_whole_fault}
use Rattle.elf_read.specs.Sections.{sections_fault, section_fault, content_fault, is_compressed, compressed_fault}
use Rattle.elf_read.specs.Sections.{old_compressed}
use Rattle.elf_read.specs.Strings.{part_of, string_len, nothing}
use Rattle.prog_make.specs.declared.section.SectionHeader.{SectionHeader}
use Rattle.prog_make.specs.inner.Strings.{section_strings}
use Rattle.prog_make.specs.inner.Sections.{section_bytes, sections_bytes, null_section, table_section}
use Rattle.prog_make.proofs.Reading.{cond_same, word_in, entries_behind}
use Rattle.prog_make.proofs.SegmentsRead.{no_faults}
use Rattle.prog_make.proofs.Bounds.{length-section_strings}
use Rattle.prog_make.proofs.StringsRead.{text_at, string-read}

-- the header as it is read
abbrev pub header_read : SectionHeader → reader.SectionHeader
header_read h = record {
  name = h.name;
  kind = h.kind;
  flags = h.flags;
  addr = h.addr;
  offset = h.offset;
  size = h.size;
  link = h.link;
}

-- the fields fit their places, and the section is what a file of so many bytes may have
pub record IsFine (len : ℕ) (h : SectionHeader) : Type 0 where
  pub name : h.name < 51
  pub kind : h.kind < 2 ^ 32
  pub flags : h.flags < 2 ^ 32
  pub addr : h.addr < 2 ^ 32
  pub offset : h.offset < 2 ^ 32
  pub size : h.size < 2 ^ 32
  pub link : h.link < 2 ^ 32
  pub in_file : h.offset + h.size ≤ len
  pub unset : bit_and h.flags 0x800 ≡ 0
  pub plain : starts_with nat_eq (text_at section_strings h.name) old_compressed ≡ false
  pub short : string_len (drop h.name section_strings) ≤ length (drop h.name section_strings)

pub length-section_bytes : (h : SectionHeader) → length (section_bytes h) ≡ 40
unfolding section_bytes
length-section_bytes h = refl

same_section : (a b c d e f g a' b' c' d' e' f' g' : ℕ) → a ≡ a' → b ≡ b' → c ≡ c' → d ≡ d' → e ≡ e' → f ≡ f' → g ≡ g'
    → ◌≡◌ {A = reader.SectionHeader}
    (record { name = a; kind = b; flags = c; addr = d; offset = e; size = f; link = g })
    (record { name = a'; kind = b'; flags = c'; addr = d'; offset = e'; size = f'; link = g' })
same_section a b c d e f g a' b' c' d' e' f' g' p q r s t u v = cc

section_header_at-is : (len : ℕ) (file : List ℕ) (place : ℕ) (h : SectionHeader) (rest : List ℕ) → IsFine len h
    → drop place file ≡ section_bytes h ++ rest → section_header_at file place ≡ header_read h
unfolding section_bytes
section_header_at-is len file place h rest fine e =
    let ws : List ℕ = h.name ∷ h.kind ∷ h.flags ∷ h.addr ∷ h.offset ∷ h.size ∷ h.link ∷ h.info ∷ 1 ∷ h.entry_size ∷
    [] in
    let name : h.name < 2 ^ 32 = let low = fine.name in omega arith in
    same_section _ _ _ _ _ _ _ _ _ _ _ _ _ _
    (ap (word_at file) (sym (add-zero place)) ∙ word_in file place ws rest 0 e (omega arith) name)
    (word_in file place ws rest 1 e (omega arith) fine.kind)
    (word_in file place ws rest 2 e (omega arith) fine.flags)
    (word_in file place ws rest 3 e (omega arith) fine.addr)
    (word_in file place ws rest 4 e (omega arith) fine.offset)
    (word_in file place ws rest 5 e (omega arith) fine.size)
    (word_in file place ws rest 6 e (omega arith) fine.link)

-- a file with these section headers
pub record HasHeaders (file : List ℕ) (headers : List SectionHeader) (start names : ℕ) : Type 0 where
  pub offset : (header_of file).section_offset ≡ start
  pub count : (header_of file).section_count ≡ length headers
  pub index : (header_of file).names_index ≡ 4
  pub not_first : 0 < start
  pub some : 4 < length headers
  pub at : drop start file ≡ sections_bytes headers
  pub whole : start + 40 * length headers ≤ length file
  pub fine : All (IsFine (length file)) headers
  pub names_header : (d : SectionHeader) → get_or headers 4 d ≡ table_section 29 3 names 51
  pub names_rest : List ℕ
  pub names_at : drop names file ≡ section_strings ++ names_rest

module _ (file : List ℕ) (headers : List SectionHeader) (start names : ℕ)
    (has : HasHeaders file headers start names) where
  pub section_header-is : (k : ℕ) (d : SectionHeader) → k < length headers
      → section_header file k ≡ header_read (get_or headers k d)
  unfolding section_header
  section_header-is k d lt =
      let there : drop (start + 40 * k) file
      ≡ section_bytes (get_or headers k d) ++ (sections_bytes (drop (k + 1) headers) ++ []) =
      sym (drop-drop (40 * k) start file) ∙ ap (drop (40 * k)) (has.at ∙ sym (append-nil (sections_bytes headers)))
      ∙ entries_behind section_bytes 40 length-section_bytes headers k d [] lt in
      ap (λ n. section_header_at file (n + 40 * k)) has.offset
      ∙ section_header_at-is (length file) file (start + 40 * k) (get_or headers k d)
      (sections_bytes (drop (k + 1) headers) ++ []) (has.fine k d lt) there

  have_sections : has_sections (header_of file) ≡ true
  have_sections =
      let some = has.some in
      let first = has.not_first in
      let a : eqb (length headers) 0 ≡ false = grind (arith, nat_tests) in
      let b : eqb start 0 ≡ false = grind (arith, nat_tests) in
      ap (λ n. not (eqb n 0) && not (eqb (header_of file).section_offset 0)) has.count
      ∙ ap (λ n. not (eqb (length headers) 0) && not (eqb n 0)) has.offset ∙ rw (a, b) refl

  pub section_count-is : section_count file ≡ length headers
  section_count-is = ap (λ b. cond b (header_of file).section_count 0) have_sections ∙ has.count

  pub sections_are_whole : sections_whole_fault file ≡ None
  sections_are_whole =
      let end : sections_end file ≡ start + 40 * length headers =
      ap (λ n. n + 40 * (header_of file).section_count) has.offset ∙ ap (λ n. start + 40 * n) has.count in
      ap (λ b. cond b (whole_fault file (sections_end file)) None) have_sections ∙ ap (whole_fault file) end
      ∙ rw (le-ltb (length file) (start + 40 * length headers) has.whole) refl

  -- the bytes of a section that has some
  pub content-is : (k : ℕ) (d : SectionHeader) → k < length headers
      → has_bytes (header_read (get_or headers k d)).kind ≡ true
      → content_of file (section_header file k)
      ≡ record {
        start = (get_or headers k d).offset;
        end = (get_or headers k d).offset +
            (get_or headers k d).size;
      }
  content-is k d lt bytes =
      let h = get_or headers k d in
      let in_file = (has.fine k d lt).in_file in
      let end : min (h.offset + h.size) (length file) ≡ h.offset + h.size = omega arith in
      rw (section_header-is k d lt, bytes)
      (ap (λ (n : ℕ). let r : Range = record { start = h.offset; end = n } in r) end)

  pub strings-are : (k : ℕ) (d : SectionHeader) → k < length headers
      → has_bytes (header_read (get_or headers k d)).kind ≡ true
      → strings_of file k ≡ record {
        start = (get_or headers k d).offset;
        end = (get_or headers k d).offset +
            (get_or headers k d).size;
      }
  unfolding strings_of
  strings-are k d lt bytes =
      ap (λ n. cond (ltb k n) (content_of file (section_header file k)) nothing) section_count-is
      ∙ ap (λ b. cond b (content_of file (section_header file k)) nothing) (lt-ltb k (length headers) lt)
      ∙ content-is k d lt bytes

  names-are : names_of file ≡ record { start = names; end = names + 51 }
  names-are =
      let d = null_section in
      let is = has.names_header d in
      let bytes : has_bytes (header_read (get_or headers 4 d)).kind ≡ true =
      ap (λ h. has_bytes (header_read h).kind) is in
      ap (strings_of file) has.index ∙ strings-are 4 d has.some bytes
      ∙ ap (λ h. let r : Range = record { start = h.offset; end = h.offset + h.size } in r) is

  -- the name of a section that has bytes
  pub name-is : (k : ℕ) (d : SectionHeader) → k < length headers
      → has_bytes (header_read (get_or headers k d)).kind ≡ true
      → part_of file (section_name file (header_read (get_or headers k d)))
      ≡ text_at section_strings (get_or headers k d).name
  name-is k d lt bytes =
      let h = get_or headers k d in
      let fine = has.fine k d lt in
      let len = length-section_strings in
      let inside : h.name < length section_strings = let low = fine.name in omega arith in
      let range : names_of file ≡ record { start = names; end = names + length section_strings } = names-are
      ∙ ap (λ (n : ℕ). let r : Range = record { start = names; end = names + n } in r) (sym len) in
      rw (bytes, range) (string-read file section_strings has.names_rest names h.name has.names_at inside fine.short)

  -- no section's name tells of compression
  name_is_plain : (k : ℕ) → k < length headers → (b : Bool)
      → has_bytes (header_read (get_or headers k null_section)).kind ≡ b
      → starts_with nat_eq (part_of file (section_name file (header_read (get_or headers k null_section))))
      old_compressed ≡ false
  unfolding old_compressed
  name_is_plain k lt true e = ap (λ n. starts_with nat_eq n old_compressed) (name-is k null_section lt e)
      ∙ (has.fine k null_section lt).plain
  name_is_plain k lt false e = rw e refl

  no_section_fault : (k : ℕ) → k < length headers → section_fault file k ≡ None
  unfolding section_fault
  no_section_fault k lt =
      let h = get_or headers k null_section in
      let fine = has.fine k null_section lt in
      let in_file : ltb (length file) (h.offset + h.size) ≡ false =
      le-ltb (length file) (h.offset + h.size) fine.in_file in
      let content : content_fault file (header_read h) ≡ None =
      rw in_file (cond_same (has_bytes (header_read h).kind) None) in
      let compressed : is_compressed file (header_read h) ≡ false =
      rw (fine.unset, name_is_plain k lt (has_bytes (header_read h).kind) refl) refl in
      ap (λ r. first_fault (content_fault file r ∷ compressed_fault file k r ∷ []))
      (section_header-is k null_section lt) ∙ rw (content, compressed) refl

  pub no_sections_fault : sections_fault file ≡ None
  no_sections_fault = ap (λ n. first_fault (table (section_fault file) n)) section_count-is
      ∙ no_faults (section_fault file) (length headers) no_section_fault
