-- Section headers and names.
use Rattle.std.proofs.Common.{◌≡◌, ◌≢◌, ℕ, suc, ◌+◌, ◌-◌, ◌*◌, ◌≤◌, ◌<◌, Bool, true, false, not, ◌&&◌, ◌||◌, cond, eqb}
use Rattle.std.proofs.Common.{ltb, min, add-one, List, [], ◌∷◌, length, take, drop, get_or, Option, Some, None, refl}
use Rattle.std.proofs.Common.{sym, ap, ◌∙◌, arith, inl, inr, length-take}
use Rattle.std.specs.Prelude.{bit_and}
use Rattle.std.specs.List.{All, find}
use Rattle.std.specs.Option.{IfSome, IfNone}
use Rattle.std.specs.Str.{bytes_eq}
use Rattle.std.proofs.lemmas.Slice.Eq.{bytes_eq-Decides}
use Rattle.std.proofs.lemmas.Bool.{cases_lt, eqb-true, ne_eqb, ltb-false}
use Rattle.std.proofs.lemmas.List.{take-take, take_all}
use Rattle.elf_read.specs.declared.error.ElfError.{ElfError}
use Rattle.elf_read.specs.declared.error.ElfError.TheVariants.{Short}
use Rattle.elf_read.specs.declared.section.Section.{Section}
use Rattle.elf_read.specs.declared.section.SectionHeader.{SectionHeader}
use Rattle.elf_read.specs.declared.text.Range.{Range}
use Rattle.elf_read.specs.Checks.{table, first_fault, whole_fault}
use Rattle.elf_read.specs.Header.{header_of, has_sections}
use Rattle.elf_read.specs.Sections.{section_header, section_fault, header_fault, section_name, is_compressed}
use Rattle.elf_read.specs.Sections.{old_compressed, is_named, section_of, section_at, section_count, sections_end}
use Rattle.elf_read.specs.Sections.{sections_whole_fault, sections_fault, content_fault, compressed_fault, has_bytes}
use Rattle.elf_read.specs.Sections.{sections_of, IsHeld}
use Rattle.elf_read.specs.inner.Fronts.{front_of}
use Rattle.elf_read.specs.Strings.{part_of}
use Rattle.elf_read.specs.Symbols.{symbol_section, symbol_table_in, symbol_table_of, is_symbol_table}
use Rattle.elf_read.proofs.CheckLemmas.{table_none}
use Rattle.elf_read.proofs.TableLemmas.{All-table, find_element, find_none}

pub section_fault-at : (bytes : List ℕ) (k : ℕ) (h : SectionHeader) → h ≡ section_header bytes k
    → section_fault bytes k ≡ header_fault bytes k h
unfolding section_fault
section_fault-at bytes k h at_header = ap (header_fault bytes k) (sym at_header)

pub section_at-is : (bytes : List ℕ) (k : ℕ) (h : SectionHeader) → h ≡ section_header bytes k
    → section_at bytes k ≡ section_of bytes h
unfolding section_at
section_at-is bytes k h at_header = ap (section_of bytes) (sym at_header)

take-min : (m n k : ℕ) (xs : List ℕ) → k ≡ min m n → take k xs ≡ take m (take n xs)
take-min m n k xs e =
    elim (cases_lt m n) [
      | inl less ↦ let at_m : k ≡ m = omega arith in ap (λ i. take i xs) at_m ∙ sym (take-take m n xs (omega arith))
      | inr more ↦
          let at_n : k ≡ n = omega arith in
          let short : length (take n xs) ≤ m = omega (arith, length-take n xs) in
          ap (λ i. take i xs) at_n ∙ sym (take_all m (take n xs) short)
    ]

-- the bytes of the front of a part
pub part_of-front_of : (bytes : List ℕ) (n : ℕ) (part : Range)
    → part_of bytes (front_of n part) ≡ take n (part_of bytes part)
part_of-front_of bytes n part = take-min n (part.end - part.start) (min part.end (part.start + n) - part.start)
    (drop part.start bytes) (omega arith)

-- where the flag isn't set, the first eight bytes of the name tell
pub is_compressed-by_name : (bytes : List ℕ) (h : SectionHeader) (front : Range) → bit_and h.flags 0x800 ≡ 0
    → front ≡ front_of 8 (section_name bytes h)
    → bytes_eq old_compressed (part_of bytes front) ≡ is_compressed bytes h
unfolding old_compressed
is_compressed-by_name bytes h front unset at_front =
    let needle = old_compressed in
    let same : part_of bytes front ≡ take 8 (part_of bytes (section_name bytes h)) = ap (part_of bytes) at_front
    ∙ part_of-front_of bytes 8 (section_name bytes h) in
    let flag : not (eqb (bit_and h.flags 0x800) 0) ≡ false = ap (λ n. not (eqb n 0)) unset in
    ap (bytes_eq needle) same
    ∙ sym (ap (λ b. b || bytes_eq needle (take 8 (part_of bytes (section_name bytes h)))) flag)

-- one byte more than the name has tells whether the whole is the name
bytes_eq-take : (xs name : List ℕ) → bytes_eq (take (suc (length name)) xs) name ≡ bytes_eq xs name
bytes_eq-take [] name = refl
bytes_eq-take (x ∷ xs) [] = refl
bytes_eq-take (x ∷ xs) (y ∷ name) = ap (λ b. eqb x y && b) (bytes_eq-take xs name)

-- the front of a name tells whether a section has it
pub is_named-by_front : (bytes name : List ℕ) (h : SectionHeader) (front : Range)
    → front ≡ front_of (length name + 1) (section_name bytes h)
    → bytes_eq (part_of bytes front) name ≡ is_named bytes name (section_of bytes h)
is_named-by_front bytes name h front at_front =
    ap (λ r. bytes_eq (part_of bytes r) name) at_front
    ∙ ap (λ xs. bytes_eq xs name) (part_of-front_of bytes (length name + 1) (section_name bytes h))
    ∙ ap (λ n. bytes_eq (take n (part_of bytes (section_name bytes h))) name) (add-one (length name))
    ∙ bytes_eq-take (part_of bytes (section_name bytes h)) name

pub whole_fault-none : (bytes : List ℕ) (need : ℕ) → whole_fault bytes need ≡ None → need ≤ length bytes
whole_fault-none bytes need none = go (ltb (length bytes) need) refl none
  where
    go : (b : Bool) → ltb (length bytes) need ≡ b → cond b (Some (Short need)) None ≡ None → need ≤ length bytes
    go true e h = absurd cc
    go false e h = ltb-false (length bytes) need e

-- the section headers are in the file, if there are any
pub sections_are_whole : (bytes : List ℕ) → sections_whole_fault bytes ≡ None → 0 < section_count bytes
    → sections_end bytes ≤ length bytes
sections_are_whole bytes none some = go (has_sections (header_of bytes)) none some
  where
    go : (b : Bool) → cond b (whole_fault bytes (sections_end bytes)) None ≡ None
        → 0 < cond b (header_of bytes).section_count 0 → sections_end bytes ≤ length bytes
    go true h lt = whole_fault-none bytes (sections_end bytes) h
    go false h lt = absurd (omega arith)

-- a section with bytes in the file has them all
abbrev pub HasContent : List ℕ → SectionHeader → Type 0
HasContent bytes h = has_bytes h.kind ≡ true → h.offset + h.size ≤ length bytes

content-whole : (bytes : List ℕ) (h : SectionHeader) (rest : List (Option ElfError))
    → first_fault (content_fault bytes h ∷ rest) ≡ None → HasContent bytes h
content-whole bytes h rest none = go (has_bytes h.kind) none
  where
    head : (o : Option ElfError) → first_fault (o ∷ rest) ≡ None → o ≡ None
    head None e = refl
    head (Some e) f = absurd cc

    go : (b : Bool) → first_fault (cond b (whole_fault bytes (h.offset + h.size)) None ∷ rest) ≡ None → b ≡ true
        → h.offset + h.size ≤ length bytes
    go true e t = whole_fault-none bytes (h.offset + h.size) (head (whole_fault bytes (h.offset + h.size)) e)
    go false e t = absurd cc

pub contents : (bytes : List ℕ) → sections_fault bytes ≡ None → (k : ℕ) → k < section_count bytes
    → HasContent bytes (section_header bytes k)
contents bytes none k lt =
    content-whole bytes (section_header bytes k) (compressed_fault bytes k (section_header bytes k) ∷ [])
    (sym (section_fault-at bytes k (section_header bytes k) refl)
    ∙ table_none (section_fault bytes) (section_count bytes) k lt none)

-- the symbols are in the file
pub symbols_are_whole : (bytes : List ℕ) → sections_fault bytes ≡ None
    → (symbol_table_of bytes).place + 16 * (symbol_table_of bytes).count ≤ length bytes
unfolding symbol_section
symbols_are_whole bytes none = go (symbol_section bytes) refl
  where
    go : (o : Option SectionHeader) → find is_symbol_table (table (section_header bytes) (section_count bytes)) ≡ o
        → (symbol_table_in bytes o).place + 16 * (symbol_table_in bytes o).count ≤ length bytes
    go None e = omega arith
    go (Some h) e =
        let found =
        find_element (HasContent bytes) is_symbol_table (table (section_header bytes) (section_count bytes)) h
        (All-table (HasContent bytes) (section_header bytes) (section_count bytes) (contents bytes none)) e in
        let kind : h.kind ≡ 2 = eqb-true h.kind 2 found.1 in
        let held : h.offset + h.size ≤ length bytes = found.0 (ap (λ n. not (eqb n 0) && not (eqb n 8)) kind) in
        omega arith

-- a section that isn't of the types without bytes has its bytes in the file
pub sections_are_held : (bytes : List ℕ) → sections_fault bytes ≡ None → (k : ℕ) → k < section_count bytes
    → IsHeld bytes (section_at bytes k)
unfolding section_at
sections_are_held bytes none k lt not_null not_empty =
    let h = section_header bytes k in
    contents bytes none k lt (ap (λ b. not b && not (eqb h.kind 8)) (ne_eqb h.kind 0 not_null)
    ∙ ap (λ b. not false && not b) (ne_eqb h.kind 8 not_empty))

-- the section that is found by its name
pub section-found : (bytes name : List ℕ) (o : Option Section) → o ≡ find (is_named bytes name) (sections_of bytes)
    → ((k : ℕ) → k < section_count bytes → IsHeld bytes (section_at bytes k))
    → IfSome o (λ s. (part_of bytes s.name ≡ name) × IsHeld bytes s)
section-found bytes name None e held = tt
section-found bytes name (Some s) e held =
    let found = find_element (IsHeld bytes) (is_named bytes name) (sections_of bytes) s
    (All-table (IsHeld bytes) (section_at bytes) (section_count bytes) held) (sym e) in
    ((bytes_eq-Decides (part_of bytes s.name) name).0 found.1, found.0)

-- no section has the name where none is found
pub section-none : (bytes name : List ℕ) (o : Option Section) → o ≡ find (is_named bytes name) (sections_of bytes)
    → IfNone o (All (λ s. part_of bytes s.name ≢ name) (sections_of bytes))
section-none bytes name None e =
    λ k d lt same. absurd (let fails = find_none (is_named bytes name) (sections_of bytes) (sym e) k d lt in
    let passes = (bytes_eq-Decides (part_of bytes (get_or (sections_of bytes) k d).name) name).1 same in cc)
section-none bytes name (Some s) e = tt
