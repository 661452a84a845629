-- What stands in memory where segments are apart.
use Rattle.std.proofs.Common.{◌≡◌, ℕ, zero, suc, ◌+◌, ◌-◌, ◌*◌, ◌/◌, ◌<◌, ◌≤◌, ◌^◌, Bool, true, false, cond, refl, ◌∙◌}
use Rattle.std.proofs.Common.{ap, subst, arith, List, [], ◌∷◌, length, get_or}
use Rattle.std.specs.Prelude.{Some, None, slice_index, find, count_by, nat_lt}
use Rattle.std.specs.Option.{option_map_or}
use Rattle.std.specs.List.{All}
use Rattle.std.proofs.lemmas.Bool.{cond-true, cond-false, lt-ltb, le-ltb}
use Rattle.std.proofs.lemmas.Bool.Decides.{nat_tests}
use Rattle.std.proofs.lemmas.List.Folds.{list_any_at}
use Rattle.std.proofs.lemmas.List.Sums.{sum_by-cons, get_or-le-sum_by}
use Rattle.elf_read.specs.Image.{Image}
use Rattle.elf_read.specs.Overlaps.{IsApart}
use Rattle.elf_read.specs.Programs.{IsPlaced, covers}
use Rattle.elf_read.specs.declared.program.Segment.{Segment}
use Rattle.guest_mem.specs.Memory.{Memory, in_range, byte_at, cell_byte, granted_permission}
use Rattle.guest_mem.proofs.Memories.{get-memory_of}
use Rattle.guest_load.specs.First.{first_cell, first_memory, HasItsBytes}
use Rattle.guest_load.specs.Segments.{touches, is_touched, page_permission, has_file_byte, file_byte, segment_byte}
use Rattle.guest_load.specs.Segments.{segment_cell}
use Rattle.guest_load.specs.Stack.{stack_start, stack_pages, stack_byte}
use Rattle.guest_load.proofs.SegmentLemmas.{touches_own}

-- ---- the one segment that has an address

abbrev bit : Bool → ℕ
bit b = cond b 1 0

abbrev one : ℕ → Segment → ℕ
one a s = bit (covers a s)

abbrev AreSized : List Segment → Type 0
AreSized = All (λ s. s.file_len ≤ s.mem_len)

outside : (a : ℕ) (s : Segment) → s.file_len ≤ s.mem_len → one a s ≡ 0 → has_file_byte a s ≡ false
outside a s sized none = go (covers a s) refl none
  where
    go : (b : Bool) → covers a s ≡ b → bit b ≡ 0 → has_file_byte a s ≡ false
    go true is h = cc
    go false is h = grind (arith, nat_tests)

find_none : (a : ℕ) (segments : List Segment) → AreSized segments → count_by (covers a) segments ≡ 0
    → find (has_file_byte a) segments ≡ None
find_none a [] sized none = refl
find_none a (s ∷ rest) sized none =
    let both = sum_by-cons (one a) s rest in
    cond-false (has_file_byte a s) _ _ (outside a s (sized 0 s (omega arith)) (omega (arith, both)))
    ∙ find_none a rest (λ k d h. sized (suc k) d (omega arith)) (omega (arith, both))

find_own : (a : ℕ) (segments : List Segment) (j : ℕ) (d : Segment) → AreSized segments → j < length segments
    → covers a (get_or segments j d) ≡ true → count_by (covers a) segments ≤ 1
    → find (has_file_byte a) segments ≡ cond (has_file_byte a (get_or segments j d)) (Some (get_or segments j d)) None
find_own a [] j d sized h covered apart = absurd (omega arith)
find_own a (s ∷ rest) zero d sized h covered apart =
    let none = find_none a rest (λ k e l. sized (suc k) e (omega arith))
    (omega (arith, sum_by-cons (one a) s rest, ap bit covered)) in
    ap (λ o. cond (has_file_byte a s) (Some s) o) none
find_own a (s ∷ rest) (suc j) d sized h covered apart =
    let both = sum_by-cons (one a) s rest in
    let there = get_or-le-sum_by (one a) rest j d (omega arith) in
    cond-false (has_file_byte a s) _ _
    (outside a s (sized 0 s (omega arith)) (omega (arith, both, there, ap bit covered)))
    ∙ find_own a rest j d (λ k e l. sized (suc k) e (omega arith)) (omega arith) covered (omega (arith, both))

-- ---- the bytes of a segment

chosen : (b : Bool) (f : Segment → ℕ) (s : Segment) → option_map_or f (cond b (Some s) None) 0 ≡ cond b (f s) 0
chosen true f s = refl
chosen false f s = refl

segment_byte-own : (bytes : List ℕ) (segments : List Segment) (a j : ℕ) (d : Segment) → AreSized segments
    → j < length segments → covers a (get_or segments j d) ≡ true → IsApart segments
    → segment_byte bytes segments a
    ≡ cond (has_file_byte a (get_or segments j d)) (file_byte bytes a (get_or segments j d)) 0
unfolding segment_byte
segment_byte-own bytes segments a j d sized h covered apart =
    ap (λ o. option_map_or (file_byte bytes a) o 0) (find_own a segments j d sized h covered (apart a))
    ∙ chosen (has_file_byte a (get_or segments j d)) (file_byte bytes a) (get_or segments j d)

first_byte : (image : Image) (args : List (List ℕ)) (a : ℕ) → a < 0x4000_0000
    → is_touched image.segments (a / 4096) ≡ true
    → byte_at (first_memory image args) a ≡ segment_byte image.bytes image.segments a
unfolding byte_at first_cell
first_byte image args a low touched =
    let below : a < 2 ^ 32 = omega arith in
    let apart : in_range stack_start (stack_pages * 4096) a ≡ false = grind (arith, nat_tests) in
    ap cell_byte (get-memory_of (first_cell image args) a below)
    ∙ ap cell_byte (cond-false (in_range stack_start (stack_pages * 4096) a)
    (Some (record { byte = stack_byte image args a; permission = 3 })) (segment_cell image a) apart)
    ∙ ap cell_byte (cond-true (is_touched image.segments (a / 4096))
    (Some (record {
      byte = segment_byte image.bytes image.segments a;
      permission = granted_permission (page_permission image.segments (a / 4096));
    })) None touched)

own_byte : (image : Image) (args : List (List ℕ)) (j : ℕ) (d : Segment) (k : ℕ)
    → All (IsPlaced image.bytes) image.segments → IsApart image.segments → j < length image.segments
    → k < (get_or image.segments j d).mem_len
    → byte_at (first_memory image args) ((get_or image.segments j d).addr + k)
    ≡ cond (nat_lt k (get_or image.segments j d).file_len)
    (slice_index image.bytes ((get_or image.segments j d).offset + k)) 0
unfolding is_touched
own_byte image args j d k placed apart h within =
    let s : Segment = get_or image.segments j d in
    let a : ℕ = s.addr + k in
    let covered : covers a s ≡ true = grind (arith, nat_tests) in
    let place : s.offset + (a - s.addr) ≡ s.offset + k = omega arith in
    let same : has_file_byte a s ≡ nat_lt k s.file_len = grind (arith, nat_tests) in
    first_byte image args a (omega (arith, (placed j d h).high))
    (list_any_at (touches (a / 4096)) image.segments j d h (touches_own s a (omega arith) (omega arith)))
    ∙ segment_byte-own image.bytes image.segments a j d (λ i e l. (placed i e l).sizes) h covered apart
    ∙ (λ i. cond (same i) (slice_index image.bytes (place i)) 0)

pub each_has_its_bytes : (image : Image) (args : List (List ℕ)) (mem : Memory) (segments : List Segment)
    → mem ≡ first_memory image args → segments ≡ image.segments → All (IsPlaced image.bytes) segments
    → IsApart image.segments → All (HasItsBytes image.bytes mem) image.segments
each_has_its_bytes image args mem segments is same placed apart j d h =
    let all : All (IsPlaced image.bytes) image.segments = subst (All (IsPlaced image.bytes)) same placed in
    let sized : (get_or image.segments j d).file_len ≤ (get_or image.segments j d).mem_len = (all j d h).sizes in
    record {
      from_file = λ k l. ap (λ m. byte_at m ((get_or image.segments j d).addr + k)) is
          ∙ own_byte image args j d k all apart h (omega arith)
          ∙ cond-true (nat_lt k (get_or image.segments j d).file_len)
          (slice_index image.bytes ((get_or image.segments j d).offset + k)) 0
          (lt-ltb k (get_or image.segments j d).file_len l);
      zeros = λ k past within. ap (λ m. byte_at m ((get_or image.segments j d).addr + k)) is
          ∙ own_byte image args j d k all apart h within
          ∙ cond-false (nat_lt k (get_or image.segments j d).file_len)
          (slice_index image.bytes ((get_or image.segments j d).offset + k)) 0
          (le-ltb k (get_or image.segments j d).file_len past);
    }
