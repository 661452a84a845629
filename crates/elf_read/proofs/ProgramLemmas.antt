-- The segments among the first program headers.
use Rattle.std.proofs.Common.{◌≡◌, ℕ, zero, suc, true, ◌+◌, ◌≤◌, List, ◌++◌, length, Option, Some, None, refl, ◌∙◌}
use Rattle.std.proofs.Common.{add-one, arith, length-append}
use Rattle.std.specs.Option.{option_to_list, IfSome}
use Rattle.std.specs.List.{All, find}
use Rattle.std.proofs.lemmas.List.{append-nil}
use Rattle.std.proofs.lemmas.List.Elements.{All-push}
use Rattle.elf_read.specs.declared.program.Segment.{Segment}
use Rattle.elf_read.specs.declared.program.ProgramHeader.{ProgramHeader}
use Rattle.std.proofs.lemmas.Bool.Decides.{nat_tests}
use Rattle.elf_read.specs.declared.header.FileHeader.{FileHeader}
use Rattle.elf_read.proofs.TableLemmas.{find_element}
use Rattle.elf_read.specs.Programs.{IsPlaced, holds_headers, headers_end, segments_among, segment_of, program_header}
use Rattle.elf_read.specs.Programs.{program_fault, program_fault_after}

length-option : (o : Option Segment) → length (option_to_list o) ≤ 1
length-option None = omega arith
length-option (Some s) = omega arith

-- no more segments than headers
pub length-segments_among : (bytes : List ℕ) (n : ℕ) → length (segments_among bytes n) ≤ n
unfolding segments_among
length-segments_among bytes zero = omega arith
length-segments_among bytes (suc n) =
    let here = length-option (segment_of (program_header bytes n)) in
    let before = length-segments_among bytes n in
    omega (arith, length-append (segments_among bytes n) (option_to_list (segment_of (program_header bytes n))))

-- what is wrong with header k, by the header and the number of segments before it
pub program_fault-at : (bytes : List ℕ) (k number : ℕ) (h : ProgramHeader) → number ≡ length (segments_among bytes k)
    → h ≡ program_header bytes k
    → program_fault bytes k ≡ program_fault_after bytes number h
unfolding program_fault
program_fault-at bytes k number h at_number at_header = rw (at_number, at_header) refl

-- one more header
pub segments_among-more : (bytes : List ℕ) (k : ℕ) (found more : List Segment) (h : ProgramHeader)
    → found ≡ segments_among bytes k → h ≡ program_header bytes k
    → more ≡ found ++ option_to_list (segment_of h) → more ≡ segments_among bytes (k + 1)
unfolding segments_among
segments_among-more bytes k found more h at_found at_header is = rw (add-one) (is ∙ rw (at_found, at_header) refl)

-- one more element, or none
pub All-push_option : {X : Type 0} (P : X → Type 0) (xs : List X) (o : Option X) → All P xs → IfSome o P
    → All P (xs ++ option_to_list o)
All-push_option P xs None all one = rw append-nil all
All-push_option P xs (Some x) all one = All-push P xs x all one

-- a segment that holds the program headers
pub headers_segment-found : (bytes : List ℕ) (h : FileHeader) (segments : List Segment) (s : Segment)
    → All (IsPlaced bytes) segments → find (holds_headers h) segments ≡ Some s
    → IsPlaced bytes s × (s.offset ≤ h.program_offset) × (headers_end h ≤ s.offset + s.file_len)
headers_segment-found bytes h segments s all found =
    let here = find_element (IsPlaced bytes) (holds_headers h) segments s all found in
    (here.0, holds_begin h s here.1, holds_end h s here.1)
  where
    holds_begin : (h : FileHeader) (s : Segment) → holds_headers h s ≡ true → s.offset ≤ h.program_offset
    holds_begin h s e = grind (arith, nat_tests)

    holds_end : (h : FileHeader) (s : Segment) → holds_headers h s ≡ true → headers_end h ≤ s.offset + s.file_len
    holds_end h s e = grind (arith, nat_tests)
