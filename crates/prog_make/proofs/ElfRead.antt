-- A whole file read back.
use Rattle.std.proofs.Common.{◌≡◌, ℕ, ◌+◌, ◌*◌, ◌%◌, ◌<◌, ◌≤◌, ◌^◌, ◌&&◌, true, List, [], ◌∷◌, ◌++◌, length, drop, map}
use Rattle.std.proofs.Common.{Option, None, refl, sym, ap, ◌∙◌, arith, length-append}
use Rattle.std.specs.List.{All, flat_map, list_any}
use Rattle.std.proofs.lemmas.Bool.{le-ltb}
use Rattle.std.proofs.lemmas.List.{drop-drop, drop_at, take_all}
use Rattle.std.proofs.lemmas.List.Concat.{length-flat_map}
use Rattle.elf_read.specs.declared.error.ElfError.{ElfError}
use Rattle.elf_read.specs.Checks.{first_fault, table, whole_fault}
use Rattle.elf_read.specs.Header.{header_of}
use Rattle.elf_read.specs.Numbers.{word_at}
use Rattle.elf_read.specs.Overlaps.{apart_fault}
use Rattle.elf_read.specs.Programs as elf
use Rattle.elf_read.specs.Programs.{programs_end, programs_fault, program_fault, segments_of, segments_among}
use Rattle.elf_read.specs.Programs.{entry_fault}
use Rattle.elf_read.specs.Refusal.{refusal}
use Rattle.elf_read.specs.Sections.{sections_whole_fault, sections_fault}
use Rattle.elf_read.proofs.OverlapLemmas.{no_segment}
use Rattle.prog_make.specs.declared.header.Header.{Header}
use Rattle.prog_make.specs.SegmentContent.{SegmentContent}
use Rattle.prog_make.specs.Parts.{content_len}
use Rattle.prog_make.specs.Functions.{is_executable}
use Rattle.prog_make.specs.inner.Conditions.{covers, IsPlaced, AreApart}
use Rattle.prog_make.specs.Contents.{segment_in}
use Rattle.prog_make.specs.inner.FileHeader.{header_bytes}
use Rattle.prog_make.specs.inner.ElfFile.{elf_file}
use Rattle.prog_make.specs.Programs.{file_segments, content_offset}
use Rattle.prog_make.specs.inner.ProgramBytes.{program_bytes, programs_bytes}
use Rattle.prog_make.proofs.Reading.{length-entries}
use Rattle.prog_make.proofs.HeaderRead.{HeaderFits, header_read, header_of-is, length-header_bytes, magic_fault-none}
use Rattle.prog_make.proofs.HeaderRead.{kind_fault-none}
use Rattle.prog_make.proofs.SegmentsRead.{IsGood, length-program_bytes, length-file_segments_from, file_segments_from-good}
use Rattle.prog_make.proofs.SegmentsRead.{segments_among-is, segment_in-file_segments, apart_placed, code_placed}
use Rattle.prog_make.proofs.SegmentsRead.{no_apart_fault, no_faults, no_program_fault}

-- what is asked of them
pub record IsSound (h : Header) (segments : List SegmentContent) (tail : List ℕ) : Type 0 where
  pub fits : HeaderFits h
  pub count : h.program_count ≡ length segments
  pub placed : All IsPlaced segments
  pub flags : All (λ s. s.flags < 2 ^ 32) segments
  pub room : content_offset segments + content_len segments + length tail < 2 ^ 32

pub length-elf_file : (h : Header) (segments : List SegmentContent) (tail : List ℕ)
    → length (elf_file h segments tail) ≡ content_offset segments + content_len segments + length tail
length-elf_file h segments tail =
    let a = length-header_bytes h in
    let b = length-entries program_bytes 32 length-program_bytes (file_segments segments) in
    let c = length-file_segments_from (content_offset segments) segments in
    let d = length-flat_map (λ (s : SegmentContent). s.bytes) segments in
    let e = length-append (header_bytes h)
    (programs_bytes (file_segments segments) ++ (flat_map (λ s. s.bytes) segments ++ tail)) in
    let f = length-append (programs_bytes (file_segments segments)) (flat_map (λ s. s.bytes) segments ++ tail) in
    let g = length-append (flat_map (λ (s : SegmentContent). s.bytes) segments) tail in
    let b' : length (programs_bytes (file_segments segments)) ≡ 32 * length segments = b ∙ ap (λ n. 32 * n) c in
    omega arith

module _ (h : Header) (segments : List SegmentContent) (tail : List ℕ) (sound : IsSound h segments tail) where
  pub header_is : header_of (elf_file h segments tail) ≡ header_read h
  header_is = header_of-is h (programs_bytes (file_segments segments) ++ (flat_map (λ s. s.bytes) segments ++ tail)) sound.fits

  offset_is : word_at (elf_file h segments tail) 28 ≡ 52
  offset_is = ap (λ r. r.program_offset) header_is

  count_is : (header_of (elf_file h segments tail)).program_count ≡ length segments
  count_is = ap (λ r. r.program_count) header_is ∙ sound.count

  programs_are : drop 52 (elf_file h segments tail)
      ≡ programs_bytes (file_segments segments) ++ (flat_map (λ s. s.bytes) segments ++ tail)
  programs_are = drop_at (header_bytes h)
      (programs_bytes (file_segments segments) ++ (flat_map (λ s. s.bytes) segments ++ tail)) 52 (length-header_bytes h)

  pub contents_are : drop (content_offset segments) (elf_file h segments tail) ≡ flat_map (λ s. s.bytes) segments ++ tail
  contents_are =
      let len : length (programs_bytes (file_segments segments)) ≡ 32 * length segments =
      length-entries program_bytes 32 length-program_bytes (file_segments segments)
      ∙ ap (λ n. 32 * n) (length-file_segments_from (content_offset segments) segments) in
      sym (drop-drop (32 * length segments) 52 (elf_file h segments tail)) ∙ ap (drop (32 * length segments)) programs_are
      ∙ drop_at (programs_bytes (file_segments segments)) (flat_map (λ s. s.bytes) segments ++ tail)
      (32 * length segments) len

  pub good : All (IsGood (length (elf_file h segments tail))) (file_segments segments)
  good =
      let len = length-elf_file h segments tail in
      let room = sound.room in
      file_segments_from-good (length (elf_file h segments tail)) (content_offset segments) segments (omega arith)
      (omega arith) sound.placed sound.flags

  pub segments_of-elf_file : segments_of (elf_file h segments tail) ≡ file_segments segments
  segments_of-elf_file =
      let len = length-file_segments_from (content_offset segments) segments in
      let all : length (file_segments segments) ≤ length segments = omega arith in
      ap (segments_among (elf_file h segments tail)) count_is
      ∙ segments_among-is (elf_file h segments tail) (file_segments segments)
      (flat_map (λ s. s.bytes) segments ++ tail) no_segment offset_is programs_are (λ k d lt. (good k d lt).fits)
      (length segments) (omega arith)
      ∙ take_all (length segments) (file_segments segments) all

  pub segments-elf_file : map (segment_in (elf_file h segments tail)) (segments_of (elf_file h segments tail)) ≡ segments
  segments-elf_file = ap (map (segment_in (elf_file h segments tail))) segments_of-elf_file
      ∙ segment_in-file_segments (elf_file h segments tail) (content_offset segments) segments tail contents_are

  no_programs_fault : programs_fault (elf_file h segments tail) ≡ None
  no_programs_fault =
      let len = length-file_segments_from (content_offset segments) segments in
      ap (λ n. first_fault (table (program_fault (elf_file h segments tail)) n)) count_is
      ∙ no_faults (program_fault (elf_file h segments tail)) (length segments)
      (λ k lt. no_program_fault (elf_file h segments tail) (file_segments segments)
      (flat_map (λ s. s.bytes) segments ++ tail) no_segment offset_is programs_are good k (omega arith))

  whole : (need : ℕ) → need ≤ length (elf_file h segments tail) → whole_fault (elf_file h segments tail) need ≡ None
  whole need le = rw (le-ltb (length (elf_file h segments tail)) need le) refl

  ends : programs_end (elf_file h segments tail) ≡ content_offset segments
  ends = ap (λ r. r.program_offset + 32 * r.program_count) header_is ∙ ap (λ n. 52 + 32 * n) sound.count

  no_entry_fault : h.entry % 4 ≡ 0 → list_any (λ s. covers h.entry s && is_executable s) segments ≡ true
      → entry_fault (header_of (elf_file h segments tail)).entry (segments_of (elf_file h segments tail)) ≡ None
  no_entry_fault aligned in_code =
      let code : list_any (elf.is_code h.entry) (file_segments segments) ≡ true =
      code_placed h.entry (content_offset segments) segments ∙ in_code in
      let entry_is : (header_of (elf_file h segments tail)).entry ≡ h.entry = ap (λ r. r.entry) header_is in
      ap (λ n. entry_fault n (segments_of (elf_file h segments tail))) entry_is ∙ ap (entry_fault h.entry) segments_of-elf_file
      ∙ rw (aligned, code) refl

  -- the checks on sections aside, the file is accepted
  pub refusal-elf_file : AreApart segments → h.entry % 4 ≡ 0
      → list_any (λ s. covers h.entry s && is_executable s) segments ≡ true
      → sections_whole_fault (elf_file h segments tail) ≡ None → sections_fault (elf_file h segments tail) ≡ None
      → refusal (elf_file h segments tail) ≡ None
  unfolding refusal
  refusal-elf_file apart aligned in_code whole_sections sections =
      let len = length-elf_file h segments tail in
      let magic = magic_fault-none h (programs_bytes (file_segments segments) ++ (flat_map (λ s. s.bytes) segments ++ tail)) in
      let kind = kind_fault-none h (programs_bytes (file_segments segments) ++ (flat_map (λ s. s.bytes) segments ++ tail)) in
      let short : whole_fault (elf_file h segments tail) (programs_end (elf_file h segments tail)) ≡ None =
      ap (whole_fault (elf_file h segments tail)) ends ∙ whole (content_offset segments) (omega arith) in
      let spread : apart_fault (segments_of (elf_file h segments tail)) ≡ None = ap apart_fault segments_of-elf_file
      ∙ no_apart_fault (file_segments segments) (apart_placed (content_offset segments) segments apart) in
      nine_none _ _ _ _ _ _ _ _ _ (whole 52 (omega arith)) magic kind short no_programs_fault spread whole_sections
      sections (no_entry_fault aligned in_code)
    where
      nine_none : (a b c d e f g i j : Option ElfError) → a ≡ None → b ≡ None → c ≡ None → d ≡ None → e ≡ None
          → f ≡ None → g ≡ None → i ≡ None → j ≡ None
          → first_fault (a ∷ b ∷ c ∷ d ∷ e ∷ f ∷ g ∷ i ∷ j ∷ []) ≡ None
      nine_none a b c d e f g i j p q r s t u v w x = rw (p, q, r, s, t, u, v, w, x) refl
