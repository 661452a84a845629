-- What the memory of a program that begins holds where its stack is.
use Rattle.std.proofs.Common.{◌≡◌, ℕ, ◌+◌, ◌-◌, ◌*◌, ◌<◌, ◌≤◌, ◌^◌, true, false, sym, ◌∙◌, ap, arith, List, length}
use Rattle.std.proofs.Common.{get_or}
use Rattle.std.specs.Prelude.{Some, slice_index}
use Rattle.std.proofs.lemmas.Bool.{cond-true, cond-false}
use Rattle.std.proofs.lemmas.Bool.Decides.{nat_tests}
use Rattle.elf_read.specs.Image.{Image}
use Rattle.guest_mem.specs.Memory.{Memory, in_range, byte_at, bytes_at, cell_byte}
use Rattle.guest_mem.proofs.Memories.{get-memory_of}
use Rattle.guest_mem.proofs.Ranges.{bytes_at-is}
use Rattle.guest_load.specs.Arguments.{arguments_len, arguments_bytes, arguments_start, sixteen_start, sixteen_bytes}
use Rattle.guest_load.specs.First.{first_cell, first_memory}
use Rattle.guest_load.specs.Segments.{segment_cell}
use Rattle.guest_load.specs.Stack.{stack_start, stack_pages, stack_words, stack_pointer, little_endian, overlaid}
use Rattle.guest_load.specs.Stack.{stack_byte, HoldsStack}
use Rattle.guest_load.proofs.StackLemmas.{length-arguments_bytes, length-little_endian, in_order}

-- bytes where they stand, and elsewhere
overlaid-own : (a : ℕ) (bs : List ℕ) (k other : ℕ) → k < length bs → overlaid a bs (a + k) other ≡ get_or bs k 0
overlaid-own a bs k other h =
    let inside : in_range a (length bs) (a + k) ≡ true = grind (arith, nat_tests) in
    let place : a + k - a ≡ k = omega arith in
    cond-true (in_range a (length bs) (a + k)) (slice_index bs (a + k - a)) other inside ∙ ap (slice_index bs) place

overlaid-above : (a : ℕ) (bs : List ℕ) (q other : ℕ) → a + length bs ≤ q → overlaid a bs q other ≡ other
overlaid-above a bs q other h =
    let outside : in_range a (length bs) q ≡ false = grind (arith, nat_tests) in
    cond-false (in_range a (length bs) q) (slice_index bs (q - a)) other outside

-- a byte of the stack
byte_on_stack : (image : Image) (args : List (List ℕ)) (q : ℕ) → stack_start ≤ q → q < stack_start + stack_pages * 4096
    → byte_at (first_memory image args) q ≡ stack_byte image args q
unfolding byte_at first_cell
byte_on_stack image args q from to =
    let below : q < 2 ^ 32 = omega arith in
    let inside : in_range stack_start (stack_pages * 4096) q ≡ true = grind (arith, nat_tests) in
    ap cell_byte (get-memory_of (first_cell image args) q below)
    ∙ ap cell_byte (cond-true (in_range stack_start (stack_pages * 4096) q)
    (Some (record { byte = stack_byte image args q; permission = 3 })) (segment_cell image q) inside)

-- bytes of the stack that are these
bytes_on_stack : (image : Image) (args : List (List ℕ)) (mem : Memory) (a n : ℕ) (bs : List ℕ)
    → mem ≡ first_memory image args → stack_start ≤ a → a + length bs ≤ stack_start + stack_pages * 4096 → length bs ≡ n
    → ((k : ℕ) → k < length bs → stack_byte image args (a + k) ≡ get_or bs k 0) → bytes_at mem a n ≡ bs
bytes_on_stack image args mem a n bs is from to long each =
    (λ i. bytes_at (is i) a (sym long i))
    ∙ bytes_at-is (first_memory image args) a bs
    (λ k h. byte_on_stack image args (a + k) (omega arith) (omega arith) ∙ each k h)

pub holds_stack : (image : Image) (args : List (List ℕ)) (mem : Memory) → arguments_len args ≤ 65536
    → mem ≡ first_memory image args → HoldsStack image args mem
unfolding stack_byte
holds_stack image args mem short is =
    let at = in_order image args short in
    let pointer = stack_pointer image args in
    let words = little_endian (stack_words image args) in
    let start = arguments_start args in
    let arguments = arguments_bytes args in
    let words_long = length-little_endian (stack_words image args) in
    let arguments_long = length-arguments_bytes args in
    record {
      words = bytes_on_stack image args mem pointer (4 * length (stack_words image args)) words is at.in_stack
          (omega (arith, at.words_below, at.arguments_end, words_long)) words_long
          (λ k h. overlaid-own pointer words k _ h);
      arguments = bytes_on_stack image args mem start (arguments_len args) arguments is
          (omega (arith, at.in_stack, at.words_below)) (omega (arith, at.arguments_end, arguments_long)) arguments_long
          (λ k h. overlaid-above pointer words (start + k) _ (omega (arith, at.words_below, words_long))
          ∙ overlaid-own start arguments k _ h);
      sixteen = bytes_on_stack image args mem sixteen_start 16 sixteen_bytes is (omega arith) (omega arith)
          (omega arith)
          (λ k h. overlaid-above pointer words (sixteen_start + k) _
          (omega (arith, at.words_below, words_long, at.arguments_end))
          ∙ overlaid-above start arguments (sixteen_start + k) _ (omega (arith, at.arguments_end, arguments_long))
          ∙ overlaid-own sixteen_start sixteen_bytes k 0 h);
    }
