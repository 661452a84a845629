-- An accepted program is loaded as a lawful guest.
use Rattle.std.proofs.Common.{◌≡◌, ℕ, zero, suc, ◌+◌, ◌≤◌, ◌%◌, Bool, true, false}
use Rattle.std.proofs.Common.{◌&&◌, ◌==◌, if◌then◌else◌, nat_le, List, []}
use Rattle.std.proofs.Common.{◌∷◌, ◌++◌, rules, Option, None, Some, refl, ap, ◌∙◌, arith}
use Rattle.std.specs.List.{AllByRecursion, list_any}
use Rattle.std.specs.List.Sorted.{IsStrictlyIncreasing}
use Rattle.std.specs.Option.{option_to_list}
use Rattle.std.proofs.lemmas.Bool.Decides.{nat_tests}
use Rattle.std.proofs.lemmas.List.{append-nil}
use Rattle.elf_read.specs.Checks.{first_fault, table, whole_fault}
use Rattle.elf_read.specs.Header.{header_of, kind_fault, magic_fault}
use Rattle.elf_read.specs.Image.{Image, image_of}
use Rattle.elf_read.specs.Overlaps.{apart_fault}
use Rattle.elf_read.specs.Sections.{sections_fault, sections_whole_fault}
use Rattle.elf_read.specs.Programs.{programs_end}
use Rattle.elf_read.specs.Programs.{entry_fault, is_code, is_placed, program_fault, program_header, programs_fault}
use Rattle.elf_read.specs.Programs.{segment_fault, segment_of, segments_among, segments_of, loaded_fault}
use Rattle.elf_read.specs.Refusal.{refusal}
use Rattle.elf_read.specs.Standard.{addr_limit, header_len, lowest_addr, pt_interp}
use Rattle.elf_read.specs.declared.error.ElfError.{ElfError}
use Rattle.elf_read.specs.declared.error.ElfError.TheVariants.{BadSegment, Interp, NoEntry}
use Rattle.elf_read.specs.declared.program.Segment.{Segment}
use Rattle.guest_load.specs.First.{guest_at_start, thread_at}
use Rattle.guest_load.specs.Lawful.{IsLawful, IsThread}
use Rattle.guest_load.specs.Segments.{break_of, highest_end}
use Rattle.guest_load.specs.Stack.{stack_pointer}
use Rattle.std.proofs.lemmas.List.Elements.{All-from_recursion}

-- Checks that find nothing

first_none : (fault : Option ElfError) (faults : List (Option ElfError)) → first_fault (fault ∷ faults) ≡ None
    → (fault ≡ None) × (first_fault faults ≡ None)
first_none None faults none = (refl, none)
first_none (Some e) faults none = absurd (cc)

last_none : (faults : List (Option ElfError)) (fault : Option ElfError) → first_fault (faults ++ fault ∷ []) ≡ None
    → (first_fault faults ≡ None) × (fault ≡ None)
last_none [] fault none = (refl, (first_none fault [] none).0)
last_none (None ∷ faults) fault none = last_none faults fault none
last_none (Some e ∷ faults) fault none = absurd (cc)

record Accepts (bytes : List ℕ) : Type 0 where
  programs : programs_fault bytes ≡ None
  entry : entry_fault (header_of bytes).entry (segments_of bytes) ≡ None

nine_none : (a b c d e f g h i : Option ElfError)
    → first_fault (a ∷ b ∷ c ∷ d ∷ e ∷ f ∷ g ∷ h ∷ i ∷ []) ≡ None → (e ≡ None) × (i ≡ None)
nine_none a b c d e f g h i none =
    let at_b = (first_none a (b ∷ c ∷ d ∷ e ∷ f ∷ g ∷ h ∷ i ∷ []) none).1 in
    let at_c = (first_none b (c ∷ d ∷ e ∷ f ∷ g ∷ h ∷ i ∷ []) at_b).1 in
    let at_d = (first_none c (d ∷ e ∷ f ∷ g ∷ h ∷ i ∷ []) at_c).1 in
    let at_e = first_none d (e ∷ f ∷ g ∷ h ∷ i ∷ []) at_d in
    let fifth = first_none e (f ∷ g ∷ h ∷ i ∷ []) at_e.1 in
    let at_g = (first_none f (g ∷ h ∷ i ∷ []) fifth.1).1 in
    let at_h = (first_none g (h ∷ i ∷ []) at_g).1 in
    (fifth.0, (first_none i [] (first_none h (i ∷ []) at_h).1).0)

accepts : (bytes : List ℕ) → refusal bytes ≡ None → Accepts bytes
unfolding refusal
accepts bytes none =
    let both = nine_none (whole_fault bytes header_len) (magic_fault bytes) (kind_fault bytes)
    (whole_fault bytes (programs_end bytes)) (programs_fault bytes) (apart_fault (segments_of bytes))
    (sections_whole_fault bytes) (sections_fault bytes) (entry_fault (header_of bytes).entry (segments_of bytes)) none
    in
    record { programs = both.0; entry = both.1 }

-- The entry is aligned

entry_aligned : (entry : ℕ) (segments : List Segment) → entry_fault entry segments ≡ None → entry % 4 ≡ 0
entry_aligned entry segments none = by (entry % 4 == 0) refl none
  where
    by : (b : Bool) → (entry % 4 == 0) ≡ b
        → (if b && list_any (is_code entry) segments then None else Some NoEntry) ≡ None → entry % 4 ≡ 0
    by true is none = grind (arith, nat_tests)
    by false is none = absurd (cc)

-- Segments are low

abbrev IsLow : Segment → Type 0
IsLow s = s.addr + s.mem_len ≤ addr_limit

second_true : (a b : Bool) → (a && b) ≡ true → b ≡ true
second_true true b is = is
second_true false b is = absurd (cc)

placed_low : (s : Segment) → is_placed s ≡ true → IsLow s
placed_low s placed =
    let high : nat_le (s.addr + s.mem_len) addr_limit ≡ true
    = second_true (nat_le s.file_len s.mem_len && nat_le lowest_addr s.addr) (nat_le (s.addr + s.mem_len) addr_limit)
    placed in
    grind (arith, nat_tests, high)

segment_low : (bytes : List ℕ) (number : ℕ) (s : Segment) → segment_fault bytes number s ≡ None → IsLow s
segment_low bytes number s none = by (is_placed s) refl none
  where
    by : (b : Bool) → is_placed s ≡ b
        → (if b then whole_fault bytes (s.offset + s.file_len) else Some (BadSegment number)) ≡ None → IsLow s
    by true is none = placed_low s is
    by false is none = absurd (cc)

each_more : (xs : List Segment) (s : Segment) → AllByRecursion IsLow xs → IsLow s → AllByRecursion IsLow (xs ++ s ∷ [])
each_more [] s all low = (low, tt)
each_more (x ∷ xs) s all low = (all.0, each_more xs s all.1 low)

one_low : (bytes : List ℕ) (number : ℕ) (found : Option Segment) (xs : List Segment)
    → loaded_fault bytes number found ≡ None → AllByRecursion IsLow xs
    → AllByRecursion IsLow (xs ++ option_to_list found)
one_low bytes number None xs none all = rw (append-nil xs) all
one_low bytes number (Some s) xs none all = each_more xs s all (segment_low bytes number s none)

fault_loaded : (bytes : List ℕ) (number : ℕ) (found : Option Segment) (b : Bool)
    → (if b then Some Interp else loaded_fault bytes number found) ≡ None → loaded_fault bytes number found ≡ None
fault_loaded bytes number found true none = absurd (cc)
fault_loaded bytes number found false none = none

all_low : (bytes : List ℕ) (n : ℕ) → first_fault (table (program_fault bytes) n) ≡ None
    → AllByRecursion IsLow (segments_among bytes n)
unfolding segments_among program_fault
all_low bytes zero none = tt
all_low bytes (suc n) none =
    let both = last_none (table (program_fault bytes) n) (program_fault bytes n) none in
    one_low bytes _ (segment_of (program_header bytes n)) (segments_among bytes n)
    (fault_loaded bytes _ (segment_of (program_header bytes n)) ((program_header bytes n).kind == pt_interp) both.1)
    (all_low bytes n both.0)

highest_low : (segments : List Segment) → AllByRecursion IsLow segments → highest_end segments ≤ addr_limit
highest_low [] all = omega arith
highest_low (s ∷ segments) all = omega (arith, all.0, highest_low segments all.1)

break_low : (segments : List Segment) → AllByRecursion IsLow segments → break_of segments ≤ 0x4000_0000
unfolding break_of
break_low segments all = omega (arith, highest_low segments all)

-- The first state

one_rises : (n : ℕ) → IsStrictlyIncreasing (n ∷ [])
one_rises n = search rules

lawful_image : (image : Image) (args : List (List ℕ)) (input : List ℕ) → image.entry % 4 ≡ 0
    → break_of image.segments ≤ 0x4000_0000 → IsLawful (guest_at_start image args input)
lawful_image image args input aligned low = record {
  read_within = omega arith;
  made_few = omega arith;
  few_live = omega arith;
  rising = one_rises 1;
  each_thread = All-from_recursion (IsThread 1) (thread_at image.entry (stack_pointer image args) ∷ []) (
    record { numbered = omega arith; given = omega arith; aligned = aligned; zero = refl },
    tt,
  );
  break_grown = omega arith;
  break_low = low;
}

pub loaded_lawful : (image : Image) (args : List (List ℕ)) (input : List ℕ) → refusal image.bytes ≡ None
    → image ≡ image_of image.bytes → IsLawful (guest_at_start image args input)
loaded_lawful image args input accepted is =
    let ok = accepts image.bytes accepted in
    lawful_image image args input
    (ap (λ (i : Image). i.entry % 4) is
    ∙ entry_aligned (header_of image.bytes).entry (segments_of image.bytes) ok.entry)
    (let low = break_low (segments_of image.bytes)
    (all_low image.bytes (header_of image.bytes).program_count ok.programs) in
    let same : break_of image.segments ≡ break_of (segments_of image.bytes) =
    ap (λ (i : Image). break_of i.segments) is in
    omega (arith, low, same))
