-- What the first memory of the demonstration has at an address.
use Rattle.std.proofs.Common.{◌≡◌, ℕ, ◌+◌, ◌-◌, ◌*◌, ◌/◌, ◌^◌, ◌<◌, ◌≤◌, true, false, cond, List, [], ◌∷◌, length}
use Rattle.std.proofs.Common.{get_or, refl, sym, ap, ◌∙◌, arith}
use Rattle.std.proofs.Common.{Option, Some, length-take, drop}
use Rattle.std.specs.Prelude.{slice_index, slice_range}
use Rattle.std.proofs.lemmas.Bool.{cond-true, cond-false, lt-ltb, and_from}
use Rattle.std.proofs.lemmas.Bool.Decides.{nat_tests}
use Rattle.std.proofs.lemmas.List.{get_or-take, get_or-drop}
use Rattle.elf_read.specs.Image.{Image}
use Rattle.elf_read.specs.declared.program.Segment.{Segment}
use Rattle.guest_mem.specs.Memory.{Cell, allows, allows_at, byte_at, cell_allows, cell_byte, granted_permission}
use Rattle.guest_mem.specs.Memory.{in_range}
use Rattle.demo_run.proofs.Others.{get-memory_of}
use Rattle.guest_load.specs.First.{first_cell, first_memory}
use Rattle.guest_load.specs.Segments.{gives, has_file_byte, is_touched, segment_byte, touches}
use Rattle.guest_load.specs.Stack.{stack_start, stack_pages, stack_byte}
use Rattle.demo_run.proofs.Stands.{Stands}

-- ---- a cell

allows_by : (image : Image) (args : List (List ℕ)) (want a byte permission : ℕ) → a < 2 ^ 32
    → first_cell image args a ≡ Some (record { byte = byte; permission = permission }) → allows want permission ≡ true
    → allows_at (first_memory image args) want a ≡ true
unfolding allows_at
allows_by image args want a byte permission below is given =
    and_from _ _ (lt-ltb a (2 ^ 32) below)
    (ap (cell_allows want) (get-memory_of (first_cell image args) a below ∙ is) ∙ given)

byte_by : (image : Image) (args : List (List ℕ)) (a byte permission : ℕ) → a < 2 ^ 32
    → first_cell image args a ≡ Some (record { byte = byte; permission = permission })
    → byte_at (first_memory image args) a ≡ byte
unfolding byte_at
byte_by image args a byte permission below is = ap cell_byte (get-memory_of (first_cell image args) a below ∙ is)

-- ---- the stack

pub stack_allows : (image : Image) (args : List (List ℕ)) (want a : ℕ) → stack_start ≤ a → a < 2 ^ 31
    → allows want 3 ≡ true → allows_at (first_memory image args) want a ≡ true
unfolding first_cell
stack_allows image args want a low high given = allows_by image args want a (stack_byte image args a) 3
    (omega arith) there given
  where
    there : first_cell image args a ≡ Some (record { byte = stack_byte image args a; permission = 3 })
    there =
        let inside : in_range stack_start (stack_pages * 4096) a ≡ true = grind (arith, nat_tests) in
        cond-true (in_range stack_start (stack_pages * 4096) a) _ _ inside

-- ---- two segments, of code and of zeros

abbrev pub code_segment : ℕ → ℕ → Segment
code_segment offset len = record { offset = offset; addr = 0x10000; file_len = len; mem_len = 2476; flags = 5 }

abbrev pub zero_segment : ℕ → ℕ → Segment
zero_segment offset len = record { offset = offset; addr = 0x20000; file_len = len; mem_len = 0x10000; flags = 6 }

module _ (image : Image) (args : List (List ℕ)) (o n o' n' : ℕ)
    (segments : image.segments ≡ code_segment o n ∷ zero_segment o' n' ∷ []) where
  abbrev both : List Segment
  both = code_segment o n ∷ zero_segment o' n' ∷ []

  abbrev cell_of : List Segment → ℕ → ℕ → Option Cell
  cell_of ss page byte =
      cond (is_touched ss page)
      (Some (record {
        byte = byte;
        permission = granted_permission
            ((cond (gives 4 ss page) 1 0) + (cond (gives 2 ss page) 2 0) + (cond (gives 1 ss page) 4 0));
      }))
      Option.None

  below_stack : (a : ℕ) → a < stack_start
      → first_cell image args a ≡ cell_of both (a / 4096) (segment_byte image.bytes both a)
  unfolding first_cell
  below_stack a low =
      let outside : in_range stack_start (stack_pages * 4096) a ≡ false = grind (arith, nat_tests) in
      cond-false (in_range stack_start (stack_pages * 4096) a) _ _ outside
      ∙ ap (λ ss. cell_of ss (a / 4096) (segment_byte image.bytes ss a)) segments

  code_cell : (a : ℕ) → 0x10000 ≤ a → a < 0x10000 + 2476
      → first_cell image args a ≡ Some (record { byte = segment_byte image.bytes both a; permission = 5 })
  unfolding is_touched gives
  code_cell a low high =
      let page : a / 4096 ≡ 16 = omega arith in
      below_stack a (omega arith) ∙ ap (λ p. cell_of both p (segment_byte image.bytes both a)) page ∙ there
    where
      there : cell_of both 16 (segment_byte image.bytes both a)
          ≡ Some (record { byte = segment_byte image.bytes both a; permission = 5 })
      there = refl

  zero_cell : (a : ℕ) → 0x20000 ≤ a → a < 0x30000
      → first_cell image args a ≡ Some (record { byte = segment_byte image.bytes both a; permission = 3 })
  unfolding is_touched gives
  zero_cell a low high =
      let past : touches (a / 4096) (code_segment o n) ≡ false = grind (arith, nat_tests) in
      let own : touches (a / 4096) (zero_segment o' n') ≡ true = grind (arith, nat_tests) in
      below_stack a (omega arith) ∙ there (a / 4096) past own
    where
      there : (p : ℕ) → touches p (code_segment o n) ≡ false → touches p (zero_segment o' n') ≡ true
          → cell_of both p (segment_byte image.bytes both a)
          ≡ Some (record { byte = segment_byte image.bytes both a; permission = 3 })
      there p past own = rw (past, own) refl

  pub zeros_allow : (want a : ℕ) → 0x20000 ≤ a → a < 0x30000 → allows want 3 ≡ true
      → allows_at (first_memory image args) want a ≡ true
  zeros_allow want a low high given =
      allows_by image args want a (segment_byte image.bytes both a) 3 (omega arith) (zero_cell a low high) given

  -- the bytes of the first segment, which are so many
  pub code_stands : (bytes : List ℕ) → slice_range image.bytes o (o + n) ≡ bytes → length bytes ≡ 2476
      → Stands (first_memory image args) 0x10000 bytes
  unfolding segment_byte
  code_stands bytes is long = record {
    byte = λ k lt. byte_by image args (0x10000 + k) (segment_byte image.bytes both (0x10000 + k)) 5 (omega arith)
        (code_cell (0x10000 + k) (omega arith) (omega arith)) ∙ byte k lt;
    runs = λ k lt. allows_by image args 4 (0x10000 + k) (segment_byte image.bytes both (0x10000 + k)) 5 (omega arith)
        (code_cell (0x10000 + k) (omega arith) (omega arith)) refl;
  }
    where
      within : length bytes ≤ n
      within =
          let cut = length-take (o + n - o) (drop o image.bytes) in
          let all = ap length is in
          omega arith

      byte : (k : ℕ) → k < length bytes → segment_byte image.bytes both (0x10000 + k) ≡ get_or bytes k 0
      byte k lt =
          let inside : has_file_byte (0x10000 + k) (code_segment o n) ≡ true = let most = within in
          grind (arith, nat_tests) in
          let place : 0x10000 + k - 0x10000 ≡ k = omega arith in
          let near : k < o + n - o = let most = within in omega arith in
          rw inside (ap (λ j. slice_index image.bytes (o + j)) place ∙ sym (get_or-drop o image.bytes k 0)
          ∙ sym (get_or-take (o + n - o) (drop o image.bytes) k 0 near) ∙ ap (λ xs. get_or xs k 0) is)
