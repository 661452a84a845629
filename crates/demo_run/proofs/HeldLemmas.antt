-- What the first memory of the demonstration holds.
use Rattle.std.proofs.Common.{◌≡◌, ℕ, ◌+◌, ◌*◌, ◌<◌, ◌≤◌, true, List, [], ◌∷◌, ◌++◌, length, get_or, map, refl, ap, ◌∙◌}
use Rattle.std.proofs.Common.{arith, subst}
use Rattle.std.proofs.Common.{◌^◌, ◌⊎◌, inl, inr}
use Rattle.std.specs.List.{range_with_len}
use Rattle.elf_read.specs.Image.{image_of}
use Rattle.elf_read.specs.declared.program.Segment.{Segment}
use Rattle.rv_decode.specs.declared.instr.Instr.{Instr}
use Rattle.guest_mem.specs.Memory.{Memory, allows, allows_at}
use Rattle.demo_run.proofs.Others.{code-fits, length-all, length-code_of, may-from}
use Rattle.guest_load.specs.First.{first_memory}
use Rattle.guest_load.specs.Stack.{stack_start}
use Rattle.prog_make.specs.Code.{code_of}
use Rattle.prog_make.specs.Contents.{IsFileOf, segment_in}
use Rattle.prog_make.specs.SegmentContent.{SegmentContent}
use Rattle.demo_make.specs.Draws.{choice}
use Rattle.demo_make.specs.Functions.{child, function, main}
use Rattle.demo_make.specs.Layout.{child_addr, code_addr, data_addr, data_len, function_addr}
use Rattle.demo_make.specs.Program.{demo, instructions, numbered_routine, routines}
use Rattle.demo_run.proofs.Going.{Holds}
use Rattle.demo_run.proofs.Amid.{IsHeld}
use Rattle.demo_run.proofs.FirstCells.{code_segment, code_stands, stack_allows, zero_segment, zeros_allow}
use Rattle.demo_run.proofs.Stands.{holds_both, holds_function, stands_code}

-- in the segment of zeros, or on the stack of the first thread
abbrev pub IsRoom : ℕ → ℕ → Type 0
IsRoom base len = ((data_addr ≤ base) × (base + len ≤ data_addr + data_len))
    ⊎ ((stack_start ≤ base) × (base + len ≤ 2 ^ 31))

-- ---- the file's two segments

two : (file : List ℕ) (xs : List Segment) (c d : SegmentContent) → map (segment_in file) xs ≡ c ∷ d ∷ []
    → (s : Segment) × (t : Segment) × (xs ≡ s ∷ t ∷ []) × (segment_in file s ≡ c) × (segment_in file t ≡ d)
two file [] c d e = cc
two file (s ∷ []) c d e = cc
two file (s ∷ t ∷ []) c d e = (s, t, refl, ap (λ xs. get_or xs 0 c) e, ap (λ xs. get_or xs 1 d) e)
two file (s ∷ t ∷ u ∷ xs) c d e = cc

-- but for its place in the file
abbrev placed : SegmentContent → Segment → Segment
placed c s = record { offset = s.offset; addr = c.addr; file_len = s.file_len; mem_len = c.mem_len; flags = c.flags }

placed_in : (file : List ℕ) (s : Segment) (c : SegmentContent) → segment_in file s ≡ c → s ≡ placed c s
placed_in file s c is = λ i. placed (is i) s

-- ---- all

module _ (size : ℕ) (file : List ℕ) (args : List (List ℕ)) (most : size ≤ 100000) (is : IsFileOf (demo size) file) where
  abbrev all : List Instr
  all = instructions (routines size)

  abbrev m : Memory
  m = first_memory (image_of file) args

  abbrev code : SegmentContent
  code = record { addr = code_addr; bytes = code_of all; mem_len = 4 * length all; flags = 5 }

  abbrev zeros : SegmentContent
  zeros = record { addr = 0x20000; bytes = []; mem_len = 0x10000; flags = 6 }

  abbrev found : (s : Segment) × (t : Segment) × ((image_of file).segments ≡ s ∷ t ∷ []) × (segment_in file s ≡ code)
      × (segment_in file t ≡ zeros)
  found = two file (image_of file).segments code zeros is.segments

  segments : (image_of file).segments ≡ code_segment found.0.offset found.0.file_len
      ∷ zero_segment found.1.offset found.1.file_len ∷ []
  segments = found.2
      ∙ (λ i. placed_in file found.0 code found.3 i ∷ placed_in file found.1 zeros found.4 i ∷ [])
      ∙ ap (λ l. record {
        offset = found.0.offset;
        addr = 0x10000;
        file_len = found.0.file_len;
        mem_len =
            4 * l;
        flags = 5;
      }
      ∷ zero_segment found.1.offset found.1.file_len ∷ []) (length-all size)

  whole : Holds m code_addr all
  whole = stands_code m code_addr all (code-fits size most)
      (code_stands (image_of file) args found.0.offset found.0.file_len found.1.offset found.1.file_len segments
      (code_of all) (ap (λ (c : SegmentContent). c.bytes) found.3)
      (length-code_of all ∙ ap (λ l. 4 * l) (length-all size)))

  abbrev others : List Instr
  others = instructions (map (numbered_routine size) (range_with_len 0 32))

  main_first : Holds m code_addr (main size) × Holds m child_addr (child size ++ others)
  unfolding routines
  main_first = holds_both m code_addr (main size) (child size ++ others) whole

  function_there : (k : ℕ) → k < 32 → Holds m (function_addr k) (function k (choice size k))
  function_there k lt =
      let number : 0 + k ≡ k = omega arith in
      subst (λ j. Holds m (function_addr k) (function j (choice size j))) number
      (holds_function m (child_addr + 4 * 9) size 0 32 k lt
      (holds_both m child_addr (child size) others main_first.1).1)

  allowed : (want base len : ℕ) → allows want 3 ≡ true → IsRoom base len → (k : ℕ) → k < len
      → allows_at m want (base + k) ≡ true
  allowed want base len given (inl room) k lt =
      let low = room.0 in
      let high = room.1 in
      zeros_allow (image_of file) args found.0.offset found.0.file_len found.1.offset found.1.file_len segments want
      (base + k)
      (omega arith) (omega arith) given
  allowed want base len given (inr room) k lt =
      let low = room.0 in
      let high = room.1 in
      stack_allows (image_of file) args want (base + k) (omega arith) (omega arith) given

  pub held : (base len : ℕ) → IsRoom base len → IsHeld size base len [] m
  held base len room =
      let zeros_room : IsRoom 0x20000 0x10000 = inl (omega arith, omega arith) in
      record {
        code = function_there;
        main = main_first.0;
        child = (holds_both m child_addr (child size) others main_first.1).0;
        reads_stack = may-from m 1 base len (allowed 1 base len refl room);
        writes_stack = may-from m 2 base len (allowed 2 base len refl room);
        reads_data = may-from m 1 0x20000 0x10000 (allowed 1 0x20000 0x10000 refl zeros_room);
        writes_data = may-from m 2 0x20000 0x10000 (allowed 2 0x20000 0x10000 refl zeros_room);
        stored = tt;
        within = tt;
      }
