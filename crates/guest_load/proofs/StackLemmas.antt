-- The stack of a program that begins: how long what stands on it is, and the memory with it.
use Rattle.std.proofs.Common.{◌≡◌, ℕ, ◌+◌, ◌-◌, ◌*◌, ◌/◌, ◌≤◌, ◌^◌, Bool, true, false, cond, refl, sym, ◌∙◌, ap, arith}
use Rattle.std.proofs.Common.{List, [], ◌∷◌, ◌++◌, length, take, length-append}
use Rattle.std.specs.Prelude.{Option, Some, None, slice_index, is_some, ◌||◌, flat_map}
use Rattle.std.specs.Option.{option_map}
use Rattle.std.proofs.lemmas.Bool.Decides.{nat_tests}
use Rattle.std.proofs.lemmas.List.FromFn.{length-map-range_with_len}
use Rattle.std.proofs.lemmas.List.Sums.{sum_by-cons}
use Rattle.elf_read.specs.Image.{Image}
use Rattle.guest_mem.specs.Memory.{Cell, Memory, memory_of, in_range, count_below, page_count, may, granted_permission, with_byte}
use Rattle.guest_mem.specs.Memory.{write_at, zero_range, bytes_of}
use Rattle.guest_mem.proofs.Memories.{memory_of-changed}
use Rattle.guest_mem.proofs.Counts.{count-same}
use Rattle.guest_mem.proofs.Laws.{may-zeroed}
use Rattle.guest_mem.proofs.Ranges.{may-written}
use Rattle.guest_load.specs.Arguments.{arguments_len, arguments_bytes, arguments_start, argument_addresses}
use Rattle.guest_load.specs.Arguments.{sixteen_start, sixteen_bytes}
use Rattle.guest_load.specs.Stack.{stack_start, stack_pages, auxiliary_vector, stack_words, stack_pointer}
use Rattle.guest_load.specs.Stack.{little_endian, overlaid, stack_byte, IsInOrder}
use Rattle.guest_load.specs.Segments.{is_touched, page_permission, segment_byte, segment_cell, is_loaded, pages_of}
use Rattle.guest_load.specs.First.{first_cell, first_memory}
use Rattle.guest_load.proofs.TableLemmas.{page_count-memory_of, count-le}
use Rattle.guest_load.proofs.ArgumentLemmas.{length-le-arguments_len}

-- ---- lengths

pub length-arguments_bytes : (args : List (List ℕ)) → length (arguments_bytes args) ≡ arguments_len args
unfolding arguments_bytes arguments_len
length-arguments_bytes [] = refl
length-arguments_bytes (a ∷ rest) =
    let zero_byte : List ℕ = 0 ∷ [] in
    omega (
      arith,
      length-arguments_bytes rest,
      length-append (a ++ zero_byte)
          (arguments_bytes rest),
      length-append a zero_byte,
      sum_by-cons (λ (b : List ℕ). length b + 1) a rest,
    )

pub length-little_endian : (words : List ℕ) → length (little_endian words) ≡ 4 * length words
length-little_endian [] = refl
length-little_endian (w ∷ words) =
    omega (arith, length-little_endian words, length-append (bytes_of 4 w) (little_endian words))

pub length-stack_words : (image : Image) (args : List (List ℕ)) → length (stack_words image args) ≡ length args + 17
unfolding stack_words argument_addresses
length-stack_words image args =
    let rest : List ℕ = 0 ∷ 0 ∷ flat_map (λ (pair : ℕ × ℕ). pair.0 ∷ pair.1 ∷ []) (auxiliary_vector image) in
    omega (
      arith,
      length-append (argument_addresses args) rest,
      length-map-range_with_len
          (λ k. arguments_start args + arguments_len (take k args)) 0 (length args),
    )

-- ---- the pages

abbrev stack_len : ℕ
stack_len = stack_pages * 4096

-- a stack with these bytes above the program
unfoldable pub stacked : Image → (ℕ → ℕ) → ℕ → Option Cell
stacked image bytes q = cond (in_range stack_start stack_len q) (Some (record { byte = bytes q; permission = 3 }))
    (segment_cell image q)

-- zeros where the stack is
pub zero_stack : (image : Image)
    → zero_range (memory_of (segment_cell image)) stack_start stack_len 3 ≡ memory_of (stacked image (λ _. 0))
unfolding zero_range stacked
zero_stack image = sym (memory_of-changed (segment_cell image) (stacked image (λ _. 0)) stack_start stack_len _
    (λ q h. refl))

-- the program's pages, and the stack's
pub stacked_pages : (image : Image) (m : Memory) → m ≡ memory_of (segment_cell image)
    → page_count (zero_range m stack_start stack_len 3) ≡ pages_of image
unfolding pages_of stacked
stacked_pages image m is =
    ap (λ o. page_count (zero_range o stack_start stack_len 3)) is ∙ ap page_count (zero_stack image)
    ∙ page_count-memory_of (stacked image (λ _. 0))
    ∙ count-same _ _ (2 ^ 20) (λ p h. there p (in_range stack_start stack_len (p * 4096))
    (in_range (stack_start / 4096) stack_pages p) (grind (arith, nat_tests)))
  where
    place : (p : ℕ) → p * 4096 / 4096 ≡ p
    place p = omega arith

    either : (t b : Bool) (c d : Cell) → is_some (cond b (Some c) (cond t (Some d) None)) ≡ (t || b)
    either true true c d = refl
    either true false c d = refl
    either false true c d = refl
    either false false c d = refl

    there : (p : ℕ) (b c : Bool) → b ≡ c
        → is_some (cond b (Some (record { byte = 0; permission = 3 })) (segment_cell image (p * 4096)))
        ≡ (is_touched image.segments p || c)
    there p b c same =
        either (is_touched image.segments (p * 4096 / 4096)) b (record { byte = 0; permission = 3 })
        (record {
          byte = segment_byte image.bytes image.segments (p * 4096);
          permission = granted_permission (page_permission image.segments (p * 4096 / 4096));
        })
        ∙ (λ i. is_touched image.segments (place p i) || same i)

-- the program's pages alone are no more
pub program_pages : (image : Image) → count_below (is_touched image.segments) (2 ^ 20) ≤ pages_of image
unfolding pages_of
program_pages image = count-le _ _ (2 ^ 20) (λ p h. one_or p h)
  where
    one_or : (p : ℕ) → is_touched image.segments p ≡ true → is_loaded image.segments p ≡ true
    one_or p h = (λ i. h i || in_range (stack_start / 4096) stack_pages p)

-- ---- what stands on the stack

-- bytes that are put on the stack
laid : (image : Image) (bytes : ℕ → ℕ) (a : ℕ) (bs : List ℕ) → stack_start ≤ a → a + length bs ≤ stack_start + stack_len
    → write_at (memory_of (stacked image bytes)) a bs ≡ memory_of (stacked image (λ q. overlaid a bs q (bytes q)))
unfolding write_at stacked
laid image bytes a bs from to =
    sym (memory_of-changed (stacked image bytes) (stacked image (λ q. overlaid a bs q (bytes q))) a (length bs) _
    (λ q h. at q (in_range a (length bs) q) (in_range stack_start stack_len q) (inside q)))
  where
    inside : (q : ℕ) → in_range a (length bs) q ≡ true → in_range stack_start stack_len q ≡ true
    inside q h = grind (arith, nat_tests)

    at : (q : ℕ) (b c : Bool) → (b ≡ true → c ≡ true)
        → cond c (Some (record { byte = cond b (slice_index bs (q - a)) (bytes q); permission = 3 }))
        (segment_cell image q)
        ≡ cond b (option_map (with_byte (slice_index bs (q - a)))
        (cond c (Some (record { byte = bytes q; permission = 3 })) (segment_cell image q)))
        (cond c (Some (record { byte = bytes q; permission = 3 })) (segment_cell image q))
    at q true true within = refl
    at q true false within = (let wrong = within refl in cc)
    at q false true within = refl
    at q false false within = refl

-- where what stands on the stack is
pub in_order : (image : Image) (args : List (List ℕ)) → arguments_len args ≤ 65536 → IsInOrder image args
unfolding stack_pointer
in_order image args short =
    let words = length-stack_words image args in
    let few = length-le-arguments_len args in
    record {
      aligned = omega arith;
      in_stack = omega (arith, words, few);
      words_below = omega (arith, words, few);
      greatest = omega (arith, words, few);
      arguments_end = omega arith;
    }

-- the three pieces that are put, one after another
abbrev pub stack_written : Memory → List ℕ → ℕ → List ℕ → ℕ → List ℕ → Memory
stack_written m sixteen start arguments pointer words =
    write_at (write_at (write_at m sixteen_start sixteen) start arguments) pointer words

pub stack_is : (image : Image) (args : List (List ℕ)) → arguments_len args ≤ 65536
    → stack_written (zero_range (memory_of (segment_cell image)) stack_start stack_len 3) sixteen_bytes
    (arguments_start args) (arguments_bytes args) (stack_pointer image args)
    (little_endian (stack_words image args)) ≡ first_memory image args
unfolding first_cell stack_byte stacked
stack_is image args short =
    let at = in_order image args short in
    let words_long = length-little_endian (stack_words image args) in
    let arguments_long = length-arguments_bytes args in
    let pointer = stack_pointer image args in
    let words = little_endian (stack_words image args) in
    let start = arguments_start args in
    let arguments = arguments_bytes args in
    ap (λ m. stack_written m sixteen_bytes start arguments pointer words) (zero_stack image)
    ∙ ap (λ m. write_at (write_at m start arguments) pointer words)
    (laid image (λ _. 0) sixteen_start sixteen_bytes (omega arith) (omega arith))
    ∙ ap (λ m. write_at m pointer words)
    (laid image (λ q. overlaid sixteen_start sixteen_bytes q 0) start arguments
    (omega (arith, at.in_stack, at.words_below)) (omega (arith, at.arguments_end, arguments_long)))
    ∙ laid image (λ q. overlaid start arguments q (overlaid sixteen_start sixteen_bytes q 0)) pointer words at.in_stack
    (omega (arith, at.words_below, at.arguments_end, words_long))

-- how long the words are
pub words_len : (image : Image) (args : List (List ℕ)) (n len : ℕ) (words : List ℕ) → n ≡ arguments_len args → n ≤ 65536
    → len ≡ length words → words ≡ little_endian (stack_words image args) → len ≤ 4 * (65536 + 17)
words_len image args n len words needed short long is =
    omega (
      arith,
      needed,
      short,
      long,
      ap length is,
      length-little_endian
          (stack_words image args),
      length-stack_words image args,
      length-le-arguments_len args,
    )

-- the stack pointer, from the length of the words
pub pointer_is : (image : Image) (args : List (List ℕ)) (n len : ℕ) (words : List ℕ) → n ≡ arguments_len args
    → len ≡ length words → words ≡ little_endian (stack_words image args)
    → (sixteen_start - n - len) / 16 * 16 ≡ stack_pointer image args
unfolding stack_pointer
pointer_is image args n len words needed long is =
    omega (arith, needed, long, ap length is, length-little_endian (stack_words image args))

-- the memory after each step
pub stack_put : (image : Image) (args : List (List ℕ)) (m zeros top upper all : Memory) (arguments words : List ℕ)
    (start pointer : ℕ) → arguments_len args ≤ 65536
    → m ≡ memory_of (segment_cell image) → zeros ≡ zero_range m stack_start stack_len 3
    → top ≡ write_at zeros sixteen_start sixteen_bytes → upper ≡ write_at top start arguments
    → all ≡ write_at upper pointer words
    → arguments ≡ arguments_bytes args → words ≡ little_endian (stack_words image args) → start ≡ arguments_start args
    → pointer ≡ stack_pointer image args → all ≡ first_memory image args
stack_put image args m zeros top upper all arguments words start pointer short before mapped topped uppered alled bs ws
    at_start at_pointer =
    alled ∙ ap (λ o. write_at o pointer words)
    (uppered ∙ ap (λ o. write_at o start arguments)
    (topped ∙ ap (λ o. write_at o sixteen_start sixteen_bytes)
    (mapped ∙ ap (λ o. zero_range o stack_start stack_len 3) before)))
    ∙ (λ i. stack_written (zero_range (memory_of (segment_cell image)) stack_start stack_len 3) sixteen_bytes (at_start i)
    (bs i) (at_pointer i) (ws i))
    ∙ stack_is image args short

-- ---- the stack is mapped

abbrev pub IsLaid : Memory → Type 0
IsLaid m = (a n : ℕ) → stack_start ≤ a → a + n ≤ stack_start + stack_len → may m 0 a n ≡ true

pub laid_zeros : (m zeros : Memory) → zeros ≡ zero_range m stack_start stack_len 3 → IsLaid zeros
laid_zeros m zeros is a n from to = ap (λ o. may o 0 a n) is
    ∙ may-zeroed m stack_start stack_len 3 0 a n (omega arith) from to refl

pub laid_over : (m n : Memory) (a : ℕ) (bs : List ℕ) → n ≡ write_at m a bs → IsLaid m → IsLaid n
laid_over m n a bs is before b count from to = ap (λ o. may o 0 b count) is ∙ may-written m a bs 0 b count
    ∙ before b count from to
