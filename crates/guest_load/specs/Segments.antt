-- The segments of a program in memory (ELF gABI, "Program Header": segments, p_flags; "Program Loading").
use Rattle.std.specs.Prelude.{ℕ, ◌+◌, ◌-◌, ◌*◌, ◌/◌, ◌^◌, ◌&&◌, ◌||◌, Bool, List, [], ◌∷◌, Option, Some, None}
use Rattle.std.specs.Prelude.{slice_index, nat_lt, max, find, if◌then◌else◌}
use Rattle.std.specs.Option.{option_map_or}
use Rattle.std.specs.Int.{next_multiple_of}
use Rattle.std.specs.List.{list_any}
use Rattle.elf_read.specs.Image.{Image}
use Rattle.elf_read.specs.Standard.{pf_r, pf_w, pf_x, has_flag}
use Rattle.elf_read.specs.declared.program.Segment.{Segment}
use Rattle.guest_mem.specs.Memory.{prot_read, prot_write, prot_exec, Cell, granted_permission, in_range, count_below}
use Rattle.guest_load.specs.Stack.{stack_start, stack_pages}

-- ---- pages, by their numbers

-- some byte of the segment lies on the page
abbrev pub touches : ℕ → Segment → Bool
touches page s = nat_lt (page * 4096) (s.addr + s.mem_len) && nat_lt s.addr ((page + 1) * 4096)

unfoldable pub is_touched : List Segment → ℕ → Bool
is_touched segments page = list_any (touches page) segments

-- a segment that touches the page has this flag
unfoldable pub gives : ℕ → List Segment → ℕ → Bool
gives flag segments page = list_any (λ s. touches page s && has_flag flag s.flags) segments

-- a permission of the guest as a number
abbrev pub permission_bits : Bool → Bool → Bool → ℕ
permission_bits read write execute = (if read then prot_read else 0) + (if write then prot_write else 0) +
    (if execute then prot_exec else 0)

-- the union of the permissions of the segments that touch a page
abbrev pub page_permission : List Segment → ℕ → ℕ
page_permission segments page =
    permission_bits (gives pf_r segments page) (gives pf_w segments page) (gives pf_x segments page)

-- how many pages a program has once it is loaded, those of the stack among them
abbrev pub is_loaded : List Segment → ℕ → Bool
is_loaded segments page = is_touched segments page || in_range (stack_start / 4096) stack_pages page

unfoldable pub pages_of : Image → ℕ
pages_of image = count_below (is_loaded image.segments) (2 ^ 20)

-- ---- bytes

-- the file has the segment's byte at the address
abbrev pub has_file_byte : ℕ → Segment → Bool
has_file_byte a s = in_range s.addr s.file_len a

abbrev pub file_byte : List ℕ → ℕ → Segment → ℕ
file_byte bytes a s = slice_index bytes (s.offset + (a - s.addr))

-- the byte that the segments put at an address: the file's, or 0
unfoldable pub segment_byte : List ℕ → List Segment → ℕ → ℕ
segment_byte bytes segments a = option_map_or (file_byte bytes a) (find (has_file_byte a) segments) 0

-- what the segments put at an address
abbrev pub segment_cell : Image → ℕ → Option Cell
segment_cell image a =
    if is_touched image.segments (a / 4096)
    then Some (record {
      byte = segment_byte image.bytes image.segments a;
      permission = granted_permission (page_permission image.segments (a / 4096));
    })
    else None

-- ---- the break

-- the end of the highest segment
abbrev pub highest_end : List Segment → ℕ
highest_end [] = 0
highest_end (s ∷ segments) = max (s.addr + s.mem_len) (highest_end segments)

-- the first page boundary at or after it
unfoldable pub break_of : List Segment → ℕ
break_of segments = next_multiple_of (highest_end segments) 4096
