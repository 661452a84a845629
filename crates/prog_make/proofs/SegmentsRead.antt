-- Segments read back.
use Rattle.std.proofs.Common.{◌≡◌, ℕ, zero, suc, ◌+◌, ◌-◌, ◌*◌, ◌<◌, ◌≤◌, ◌^◌, ◌&&◌, ◌||◌, true, false, cond, eqb, ltb}
use Rattle.std.proofs.Common.{List, [], ◌∷◌, ◌++◌, length, drop, take, map, get_or, Option, None, refl, sym, ap, ◌∙◌}
use Rattle.std.proofs.Common.{arith, add-one, add-zero, append_assoc}
use Rattle.std.specs.List.{All, count_by, flat_map, list_any, slice_range}
use Rattle.std.specs.Option.{option_to_list}
use Rattle.std.proofs.lemmas.Bool.{le-leb, le-ltb}
use Rattle.std.proofs.lemmas.List.{drop-drop, drop_at, take_all, take_at, take_more}
use Rattle.std.proofs.lemmas.List.Sums.{sum_by-cons}
use Rattle.elf_read.specs.declared.error.ElfError.{ElfError}
use Rattle.elf_read.specs.declared.program.ProgramHeader.{ProgramHeader}
use Rattle.elf_read.specs.declared.program.Segment.{Segment}
use Rattle.elf_read.specs.Checks.{first_fault, table}
use Rattle.elf_read.specs.Numbers.{word_at}
use Rattle.elf_read.specs.Overlaps.{apart_fault, IsApart}
use Rattle.elf_read.specs.Programs as elf
use Rattle.elf_read.specs.Programs.{program_header, program_header_at, program_fault, segments_among, segment_of}
use Rattle.elf_read.specs.Programs.{is_placed}
use Rattle.elf_read.proofs.CheckLemmas.{table_goes_on}
use Rattle.elf_read.proofs.OverlapLemmas.{apart-no_fault}
use Rattle.prog_make.specs.SegmentContent.{SegmentContent}
use Rattle.prog_make.specs.Parts.{content_len}
use Rattle.prog_make.specs.Functions.{is_executable}
use Rattle.prog_make.specs.inner.Conditions.{covers, IsPlaced, AreApart}
use Rattle.prog_make.specs.Contents.{segment_in}
use Rattle.prog_make.specs.Programs.{file_segments_from}
use Rattle.prog_make.specs.inner.ProgramBytes.{program_bytes, programs_bytes}
use Rattle.prog_make.proofs.Reading.{word_in, entries_behind}

-- the fields fit their places, and the segment has memory
pub record SegmentFits (s : Segment) : Type 0 where
  pub offset : s.offset < 2 ^ 32
  pub addr : s.addr < 2 ^ 32
  pub file_len : s.file_len < 2 ^ 32
  pub mem_len : s.mem_len < 2 ^ 32
  pub loaded : 0 < s.mem_len
  pub flags : s.flags < 2 ^ 32

-- the program header of a segment as it is read
abbrev pub loaded_header : Segment → ProgramHeader
loaded_header s = record {
  kind = 1;
  offset = s.offset;
  addr = s.addr;
  file_len = s.file_len;
  mem_len = s.mem_len;
  flags = s.flags;
}

pub length-program_bytes : (s : Segment) → length (program_bytes s) ≡ 32
unfolding program_bytes
length-program_bytes s = refl

same_program : (a b c d e f a' b' c' d' e' f' : ℕ) → a ≡ a' → b ≡ b' → c ≡ c' → d ≡ d' → e ≡ e' → f ≡ f'
    → ◌≡◌ {A = ProgramHeader} (record { kind = a; offset = b; addr = c; file_len = d; mem_len = e; flags = f })
    (record { kind = a'; offset = b'; addr = c'; file_len = d'; mem_len = e'; flags = f' })
same_program a b c d e f a' b' c' d' e' f' p q r s t u = cc

program_header_at-is : (file : List ℕ) (place : ℕ) (s : Segment) (rest : List ℕ) → SegmentFits s
    → drop place file ≡ program_bytes s ++ rest → program_header_at file place ≡ loaded_header s
unfolding program_bytes
program_header_at-is file place s rest fits e =
    let ws : List ℕ = 1 ∷ s.offset ∷ s.addr ∷ s.addr ∷ s.file_len ∷ s.mem_len ∷ s.flags ∷ 1 ∷ [] in
    same_program _ _ _ _ _ _ _ _ _ _ _ _
    (ap (word_at file) (sym (add-zero place)) ∙ word_in file place ws rest 0 e (omega arith) (omega arith))
    (word_in file place ws rest 1 e (omega arith) fits.offset)
    (word_in file place ws rest 2 e (omega arith) fits.addr)
    (word_in file place ws rest 4 e (omega arith) fits.file_len)
    (word_in file place ws rest 5 e (omega arith) fits.mem_len)
    (word_in file place ws rest 6 e (omega arith) fits.flags)

-- a file whose program headers are those of these segments
module _ (file : List ℕ) (segments : List Segment) (rest : List ℕ) (d : Segment) (at : word_at file 28 ≡ 52)
    (table : drop 52 file ≡ programs_bytes segments ++ rest) (fit : All SegmentFits segments) where
  pub program_header-is : (k : ℕ) → k < length segments → program_header file k ≡ loaded_header (get_or segments k d)
  unfolding program_header
  program_header-is k lt =
      let there : drop (52 + 32 * k) file
      ≡ program_bytes (get_or segments k d) ++ (programs_bytes (drop (k + 1) segments) ++ rest) =
      sym (drop-drop (32 * k) 52 file) ∙ ap (drop (32 * k)) table
      ∙ entries_behind program_bytes 32 length-program_bytes segments k d rest lt in
      ap (λ n. program_header_at file (n + 32 * k)) at
      ∙ program_header_at-is file (52 + 32 * k) (get_or segments k d)
      (programs_bytes (drop (k + 1) segments) ++ rest) (fit k d lt) there

  pub segments_among-is : (n : ℕ) → n ≤ length segments → segments_among file n ≡ take n segments
  unfolding segments_among
  segments_among-is zero le = refl
  segments_among-is (suc n) le =
      let s = get_or segments n d in
      let unempty : eqb s.mem_len 0 ≡ false = let h = (fit n d (omega arith)).loaded in grind arith in
      let one : option_to_list (segment_of (loaded_header s)) ≡ s ∷ [] = rw unempty refl in
      rw (segments_among-is n (omega arith), program_header-is n (omega arith), one, ← add-one)
      (sym (take_more segments n d (omega arith)))

-- what holds of all but the first
pub All-rest : {X : Type 0} (P : X → Type 0) (x : X) (xs : List X) → All P (x ∷ xs) → All P xs
All-rest P x xs all k d lt = all (suc k) d (omega arith)

pub All-more : {X : Type 0} (P : X → Type 0) (x : X) (xs : List X) → P x → All P xs → All P (x ∷ xs)
All-more P x xs here rest zero d lt = here
All-more P x xs here rest (suc k) d lt = rest k d (omega arith)

pub length-file_segments_from : (offset : ℕ) (segments : List SegmentContent)
    → length (file_segments_from offset segments) ≡ length segments
length-file_segments_from offset [] = refl
length-file_segments_from offset (s ∷ segments) = ap suc (length-file_segments_from (offset + length s.bytes) segments)

-- a segment as a file of so many bytes may hold it
pub record IsGood (len : ℕ) (s : Segment) : Type 0 where
  pub fits : SegmentFits s
  pub placed : is_placed s ≡ true
  pub in_file : s.offset + s.file_len ≤ len

pub file_segments_from-good : (len offset : ℕ) (segments : List SegmentContent) → len < 2 ^ 32
    → offset + content_len segments ≤ len → All IsPlaced segments → All (λ s. s.flags < 2 ^ 32) segments
    → All (IsGood len) (file_segments_from offset segments)
file_segments_from-good len offset [] short room placed flags = λ k d lt. absurd (omega arith)
file_segments_from-good len offset (s ∷ segments) short room placed flags =
    let sum = sum_by-cons (λ (t : SegmentContent). length t.bytes) s segments in
    let here : IsPlaced s = placed 0 s (omega arith) in
    let flag : s.flags < 2 ^ 32 = flags 0 s (omega arith) in
    let a = here.loaded in
    let b = here.sizes in
    let c = here.low in
    let d = here.high in
    All-more (IsGood len) (record {
      offset = offset;
      addr = s.addr;
      file_len = length s.bytes;
      mem_len = s.mem_len;
      flags = s.flags;
    }) (file_segments_from (offset + length s.bytes) segments)
    (record {
      fits = record {
        offset = omega arith;
        addr = omega arith;
        file_len = omega arith;
        mem_len = omega arith;
        loaded = omega arith;
        flags = omega arith;
      };
      placed = rw (
        le-leb (length s.bytes) s.mem_len b,
        le-leb 0x1000 s.addr c,
        le-leb
            (s.addr + s.mem_len) 0x4000_0000 d,
      ) refl;
      in_file = omega arith;
    })
    (file_segments_from-good len (offset + length s.bytes) segments short (omega arith) (All-rest IsPlaced s segments placed)
    (All-rest (λ t. t.flags < 2 ^ 32) s segments flags))

-- the bytes of the segments stand where their headers say
pub segment_in-file_segments : (file : List ℕ) (offset : ℕ) (segments : List SegmentContent) (tail : List ℕ)
    → drop offset file ≡ flat_map (λ s. s.bytes) segments ++ tail
    → map (segment_in file) (file_segments_from offset segments) ≡ segments
segment_in-file_segments file offset [] tail e = refl
segment_in-file_segments file offset (s ∷ segments) tail e =
    let whole : drop offset file ≡ s.bytes ++ (flat_map (λ t. t.bytes) segments ++ tail) = e
    ∙ append_assoc s.bytes (flat_map (λ t. t.bytes) segments) tail in
    let cut : offset + length s.bytes - offset ≡ length s.bytes = omega arith in
    let here : slice_range file offset (offset + length s.bytes) ≡ s.bytes = ap (λ n. take n (drop offset file)) cut
    ∙ ap (take (length s.bytes)) whole
    ∙ take_at s.bytes (flat_map (λ t. t.bytes) segments ++ tail) (length s.bytes) refl in
    let behind : drop (offset + length s.bytes) file ≡ flat_map (λ t. t.bytes) segments ++ tail =
    sym (drop-drop (length s.bytes) offset file) ∙ ap (drop (length s.bytes)) whole
    ∙ drop_at s.bytes (flat_map (λ t. t.bytes) segments ++ tail) (length s.bytes) refl in
    let rest = segment_in-file_segments file (offset + length s.bytes) segments tail behind in
    ap (λ (bytes : List ℕ). let x : SegmentContent =
    record { addr = s.addr; bytes = bytes; mem_len = s.mem_len; flags = s.flags } in x ∷ map (segment_in file)
    (file_segments_from (offset + length s.bytes) segments)) here
    ∙ ap (λ xs. s ∷ xs) rest

-- an address lies in as many segments as the parts have for it
pub count_placed : (a offset : ℕ) (segments : List SegmentContent)
    → count_by (elf.covers a) (file_segments_from offset segments) ≡ count_by (covers a) segments
count_placed a offset [] = refl
count_placed a offset (s ∷ segments) =
    sum_by-cons (λ t. cond (elf.covers a t) 1 0)
    (record { offset = offset; addr = s.addr; file_len = length s.bytes; mem_len = s.mem_len; flags = s.flags })
    (file_segments_from (offset + length s.bytes) segments)
    ∙ ap (λ n. cond (covers a s) 1 0 + n) (count_placed a (offset + length s.bytes) segments)
    ∙ sym (sum_by-cons (λ t. cond (covers a t) 1 0) s segments)

pub apart_placed : (offset : ℕ) (segments : List SegmentContent) → AreApart segments
    → IsApart (file_segments_from offset segments)
apart_placed offset segments apart a = rw (count_placed a offset segments) (apart a)

pub code_placed : (entry offset : ℕ) (segments : List SegmentContent)
    → list_any (elf.is_code entry) (file_segments_from offset segments)
    ≡ list_any (λ s. covers entry s && is_executable s) segments
code_placed entry offset [] = refl
code_placed entry offset (s ∷ segments) =
    ap (λ b. (covers entry s && is_executable s) || b) (code_placed entry (offset + length s.bytes) segments)

pub no_apart_fault : (xs : List Segment) → IsApart xs → apart_fault xs ≡ None
no_apart_fault xs apart = let all : length xs ≤ length xs =
    omega arith in apart-no_fault xs (length xs) all (rw take_all (λ a. apart a))

-- a table of checks without a fault
pub no_faults : (f : ℕ → Option ElfError) (n : ℕ) → ((k : ℕ) → k < n → f k ≡ None) → first_fault (table f n) ≡ None
no_faults f zero each = refl
no_faults f (suc n) each = rw add-one at
    (table_goes_on f n (no_faults f n (λ k lt. each k (omega arith))) (each n (omega arith)))

module _ (file : List ℕ) (segments : List Segment) (rest : List ℕ) (d : Segment) (at : word_at file 28 ≡ 52)
    (table_is : drop 52 file ≡ programs_bytes segments ++ rest) (good : All (IsGood (length file)) segments) where
  pub no_program_fault : (k : ℕ) → k < length segments → program_fault file k ≡ None
  unfolding program_fault
  no_program_fault k lt =
      let s = get_or segments k d in
      let ok : IsGood (length file) s = good k d lt in
      let unempty : eqb s.mem_len 0 ≡ false = let h = ok.fits.loaded in grind arith in
      let inside : ltb (length file) (s.offset + s.file_len) ≡ false =
      le-ltb (length file) (s.offset + s.file_len) ok.in_file in
      rw (
        program_header-is file segments rest d at table_is
            (λ k d lt. (good k d lt).fits) k lt,
        unempty,
        ok.placed,
        inside,
      ) refl
