-- The memory with the pages of the segments, and then with their bytes.
use Rattle.std.proofs.Common.{◌≡◌, ℕ, zero, suc, ◌+◌, ◌-◌, ◌*◌, ◌/◌, ◌<◌, ◌≤◌, ◌^◌, Bool, true, false, cond, refl, sym}
use Rattle.std.proofs.Common.{◌∙◌, ap, arith, List, [], ◌∷◌, length, drop, get_or, length-take, length-drop}
use Rattle.std.specs.Prelude.{Option, Some, None, slice_index, slice_range, is_some, nat_lt, find}
use Rattle.std.specs.Option.{option_map, option_map_or}
use Rattle.std.proofs.lemmas.Bool.{lt-ltb, and_from}
use Rattle.std.proofs.lemmas.Bool.Decides.{nat_tests}
use Rattle.std.proofs.lemmas.List.{get_or-take, get_or-drop, drop_more, drop_all}
use Rattle.std.proofs.lemmas.List.Folds.{list_any_at}
use Rattle.elf_read.specs.Image.{Image}
use Rattle.elf_read.specs.Programs.{IsPlaced}
use Rattle.elf_read.specs.declared.program.Segment.{Segment}
use Rattle.guest_mem.specs.Memory.{Cell, Memory, memory_of, in_range, count_below, page_count, allows_at, may}
use Rattle.guest_mem.specs.Memory.{cell_allows, granted_permission, with_byte, write_at}
use Rattle.guest_mem.proofs.Memories.{get-memory_of, memory_of-same, memory_of-changed}
use Rattle.guest_mem.proofs.Ranges.{may-from}
use Rattle.guest_mem.proofs.Mapped.{allows_nothing}
use Rattle.guest_load.specs.Segments.{touches, is_touched, page_permission, has_file_byte, file_byte, segment_byte}
use Rattle.guest_load.specs.Segments.{segment_cell, highest_end}
use Rattle.guest_load.specs.inner.Stages.{page_plan, blank, IsTable, table_cell, blank_cell, filled_cell}
use Rattle.guest_load.proofs.TableLemmas.{page_count-memory_of, count-le}

-- ---- the break

-- no segment passes the end of the highest
pub highest_end-above : (segments : List Segment) (k : ℕ) (d : Segment) → k < length segments
    → (get_or segments k d).addr + (get_or segments k d).mem_len ≤ highest_end segments
highest_end-above [] k d h = absurd (omega arith)
highest_end-above (s ∷ segments) zero d h = omega arith
highest_end-above (s ∷ segments) (suc k) d h = omega (arith, highest_end-above segments k d (omega arith))

-- ---- the pages

-- the memory of a table of the segments' pages
pub table-blank : (table : List (Option ℕ)) (segments : List Segment) → IsTable table (page_plan segments)
    → memory_of (table_cell table) ≡ memory_of (blank_cell segments)
unfolding table_cell blank_cell
table-blank table segments is = memory_of-same _ _ (λ q h. ap blank (is (q / 4096)))

pub blank_pages : (segments : List Segment)
    → page_count (memory_of (blank_cell segments)) ≤ count_below (is_touched segments) (2 ^ 20)
unfolding blank_cell
blank_pages segments =
    omega (
      arith,
      page_count-memory_of (blank_cell segments),
      count-le (λ p. is_some (blank_cell segments (p * 4096)))
          (is_touched segments) (2 ^ 20) (λ p h. there p (is_touched segments (p * 4096 / 4096)) refl h),
    )
  where
    there : (p : ℕ) (t : Bool) → is_touched segments (p * 4096 / 4096) ≡ t
        → is_some (blank (cond (is_touched segments (p * 4096 / 4096))
        (Some (page_permission segments (p * 4096 / 4096))) None)) ≡ true → is_touched segments p ≡ true
    there p true is h = (let e : p ≡ p * 4096 / 4096 = omega arith in ap (is_touched segments) e) ∙ is
    there p false is h = cc

-- ---- the bytes

no_bytes : (o : Option ℕ) → blank o ≡ option_map (with_byte 0) (blank o)
no_bytes None = refl
no_bytes (Some permission) = refl

pub filled_none : (bytes : List ℕ) (segments : List Segment)
    → memory_of (blank_cell segments) ≡ memory_of (filled_cell bytes segments (drop (length segments) segments))
unfolding filled_cell segment_byte blank_cell
filled_none bytes segments =
    memory_of-same _ _ (λ q h. no_bytes (page_plan segments (q / 4096))
    ∙ ap (λ some. filled_cell bytes segments some q) (sym (drop_all (length segments) segments (omega arith))))

-- one segment more
rewritten : (b : Bool) (x y z : ℕ) (o : Option Cell) → (b ≡ true → x ≡ z)
    → option_map (with_byte (cond b x y)) o
    ≡ cond b (option_map (with_byte z) (option_map (with_byte y) o)) (option_map (with_byte y) o)
rewritten true x y z None same = refl
rewritten false x y z None same = refl
rewritten true x y z (Some c) same = ap (λ v. Some (with_byte v c)) (same refl)
rewritten false x y z (Some c) same = refl

pub length-file_bytes : (bytes : List ℕ) (s : Segment) → IsPlaced bytes s
    → length (slice_range bytes s.offset (s.offset + s.file_len)) ≡ s.file_len
length-file_bytes bytes s placed = simp (length-take, length-drop) (omega (arith, placed.in_file))

byte_in_file : (bytes : List ℕ) (s : Segment) (q : ℕ) → in_range s.addr s.file_len q ≡ true
    → file_byte bytes q s ≡ slice_index (slice_range bytes s.offset (s.offset + s.file_len)) (q - s.addr)
byte_in_file bytes s q inside =
    let below : q - s.addr < s.offset + s.file_len - s.offset = within in
    sym (get_or-take (s.offset + s.file_len - s.offset) (drop s.offset bytes) (q - s.addr) 0 below
    ∙ get_or-drop s.offset bytes (q - s.addr) 0)
  where
    within : q - s.addr < s.offset + s.file_len - s.offset
    within = grind (arith, nat_tests)

segment_byte-cons : (bytes : List ℕ) (s : Segment) (some : List Segment) (q : ℕ)
    → segment_byte bytes (s ∷ some) q ≡ cond (has_file_byte q s) (file_byte bytes q s) (segment_byte bytes some q)
unfolding segment_byte
segment_byte-cons bytes s some q =
    elim (has_file_byte q s) as (λ b. option_map_or (file_byte bytes q)
    (cond b (Some s) (find (has_file_byte q) some)) 0
    ≡ cond b (file_byte bytes q s) (option_map_or (file_byte bytes q) (find (has_file_byte q) some) 0))
    [ true ↦ refl | false ↦ refl ]

filled_more : (bytes : List ℕ) (segments : List Segment) (n : ℕ) (d : Segment) (bs : List ℕ) → n < length segments
    → IsPlaced bytes (get_or segments n d)
    → bs ≡ slice_range bytes (get_or segments n d).offset
    ((get_or segments n d).offset + (get_or segments n d).file_len)
    → write_at (memory_of (filled_cell bytes segments (drop (n + 1) segments))) (get_or segments n d).addr bs
    ≡ memory_of (filled_cell bytes segments (drop n segments))
unfolding write_at filled_cell
filled_more bytes segments n d bs h placed is =
    let s : Segment = get_or segments n d in
    let rest : List Segment = drop (n + 1) segments in
    sym (memory_of-changed (filled_cell bytes segments rest) (filled_cell bytes segments (drop n segments)) s.addr
    (length bs) _ (λ q below.
    ap (λ some. filled_cell bytes segments some q) (drop_more segments n d h)
    ∙ ap (λ b. option_map (with_byte b) (blank_cell segments q)) (segment_byte-cons bytes s rest q)
    ∙ rewritten (has_file_byte q s) (file_byte bytes q s) (segment_byte bytes rest q) (slice_index bs (q - s.addr))
    (blank_cell segments q) (λ inside. byte_in_file bytes s q inside
    ∙ ap (λ xs. slice_index xs (q - s.addr)) (sym is))
    ∙ ap (λ len. cond (in_range s.addr len q)
    (option_map (with_byte (slice_index bs (q - s.addr))) (filled_cell bytes segments rest q))
    (filled_cell bytes segments rest q)) (sym (ap length is ∙ length-file_bytes bytes s placed))))

all_bytes : (t : Bool) (permission byte : ℕ)
    → option_map (with_byte byte) (blank (cond t (Some permission) None))
    ≡ cond t (Some (record { byte = byte; permission = granted_permission permission })) None
all_bytes true permission byte = refl
all_bytes false permission byte = refl

pub filled_all : (image : Image)
    → memory_of (filled_cell image.bytes image.segments image.segments) ≡ memory_of (segment_cell image)
unfolding filled_cell blank_cell
filled_all image =
    memory_of-same _ _ (λ q h. all_bytes (is_touched image.segments (q / 4096))
    (page_permission image.segments (q / 4096)) (segment_byte image.bytes image.segments q))

-- ---- where the bytes go is mapped

pub touches_own : (s : Segment) (a : ℕ) → s.addr ≤ a → a < s.addr + s.mem_len → touches (a / 4096) s ≡ true
touches_own s a from to =
    and_from (nat_lt (a / 4096 * 4096) (s.addr + s.mem_len)) (nat_lt s.addr ((a / 4096 + 1) * 4096))
    (lt-ltb (a / 4096 * 4096) (s.addr + s.mem_len) (omega arith)) (lt-ltb s.addr ((a / 4096 + 1) * 4096) (omega arith))

allowed_there : (t : Bool) (permission byte : ℕ) → t ≡ true
    → cell_allows 0 (option_map (with_byte byte) (blank (cond t (Some permission) None))) ≡ true
allowed_there true permission byte is = allows_nothing (granted_permission permission)
allowed_there false permission byte is = cc

allowed_filled : (bytes : List ℕ) (segments some : List Segment) (a : ℕ) → a < 2 ^ 32
    → is_touched segments (a / 4096) ≡ true → allows_at (memory_of (filled_cell bytes segments some)) 0 a ≡ true
unfolding allows_at filled_cell blank_cell
allowed_filled bytes segments some a h is =
    and_from (nat_lt a (2 ^ 32)) _ (lt-ltb a (2 ^ 32) h)
    (ap (cell_allows 0) (get-memory_of (filled_cell bytes segments some) a h)
    ∙ allowed_there (is_touched segments (a / 4096)) (page_permission segments (a / 4096))
    (segment_byte bytes some a) is)

may_filled : (bytes : List ℕ) (segments some : List Segment) (n : ℕ) (d : Segment) (bs : List ℕ) → n < length segments
    → IsPlaced bytes (get_or segments n d)
    → bs ≡ slice_range bytes (get_or segments n d).offset
    ((get_or segments n d).offset + (get_or segments n d).file_len)
    → may (memory_of (filled_cell bytes segments some)) 0 (get_or segments n d).addr (length bs) ≡ true
unfolding is_touched
may_filled bytes segments some n d bs h placed is =
    let long = ap length is ∙ length-file_bytes bytes (get_or segments n d) placed in
    may-from _ 0 (get_or segments n d).addr (length bs) (λ k l.
    allowed_filled bytes segments some ((get_or segments n d).addr + k) (omega (arith, long, placed.sizes, placed.high))
    (list_any_at (touches (((get_or segments n d).addr + k) / 4096)) segments n d h
    (touches_own (get_or segments n d) ((get_or segments n d).addr + k) (omega arith)
    (omega (arith, long, placed.sizes)))))

-- ---- a step of the loop: a segment is put before those after it

pub fill_may : (bytes : List ℕ) (segments : List Segment) (left : ℕ) (d : Segment) (bs : List ℕ) (m : Memory) → 0 < left
    → left ≤ length segments → m ≡ memory_of (filled_cell bytes segments (drop left segments))
    → IsPlaced bytes (get_or segments (left - 1) d)
    → bs ≡ slice_range bytes (get_or segments (left - 1) d).offset
    ((get_or segments (left - 1) d).offset + (get_or segments (left - 1) d).file_len)
    → may m 0 (get_or segments (left - 1) d).addr (length bs) ≡ true
fill_may bytes segments left d bs m some within is placed read =
    ap (λ o. may o 0 (get_or segments (left - 1) d).addr (length bs)) is
    ∙ may_filled bytes segments (drop left segments) (left - 1) d bs (omega arith) placed read

pub fill_more : (bytes : List ℕ) (segments : List Segment) (left : ℕ) (d : Segment) (bs : List ℕ) (m n : Memory)
    → 0 < left → left ≤ length segments → m ≡ memory_of (filled_cell bytes segments (drop left segments))
    → IsPlaced bytes (get_or segments (left - 1) d)
    → bs ≡ slice_range bytes (get_or segments (left - 1) d).offset
    ((get_or segments (left - 1) d).offset + (get_or segments (left - 1) d).file_len)
    → n ≡ write_at m (get_or segments (left - 1) d).addr bs
    → n ≡ memory_of (filled_cell bytes segments (drop (left - 1) segments))
fill_more bytes segments left d bs m n some within is placed read after =
    let next : left ≡ left - 1 + 1 = omega arith in
    after ∙ ap (λ o. write_at o (get_or segments (left - 1) d).addr bs)
    (is ∙ ap (λ k. memory_of (filled_cell bytes segments (drop k segments))) next)
    ∙ filled_more bytes segments (left - 1) d bs (omega arith) placed read
