-- What the memory is while a program is loaded.
use Rattle.std.specs.Prelude.{◌≡◌, ℕ, ◌/◌, List, Option, Some, None, bit_or, unwrap_or, slice_index_or, if◌then◌else◌}
use Rattle.std.specs.Option.{option_map}
use Rattle.elf_read.specs.Standard.{pf_r, pf_w, pf_x, has_flag}
use Rattle.elf_read.specs.declared.program.Segment.{Segment}
use Rattle.guest_mem.specs.Memory.{Cell, granted_permission, with_byte}
use Rattle.guest_load.specs.Segments.{touches, is_touched, permission_bits, page_permission, segment_byte}

-- the permission that a segment gives
abbrev pub segment_permission : Segment → ℕ
segment_permission s = permission_bits (has_flag pf_r s.flags) (has_flag pf_w s.flags) (has_flag pf_x s.flags)

-- the permission of a page, where it has one, once a segment is there too
abbrev pub permission_with : Segment → ℕ → Option ℕ → Option ℕ
permission_with s page old = if touches page s then Some (bit_or (unwrap_or old 0) (segment_permission s)) else old

-- the permission of a page that a segment touches
abbrev pub page_plan : List Segment → ℕ → Option ℕ
page_plan segments page = if is_touched segments page then Some (page_permission segments page) else None

-- a table has this for each page, and nothing past its end
abbrev pub IsTable : List (Option ℕ) → (ℕ → Option ℕ) → Type 0
IsTable table plan = (page : ℕ) → slice_index_or table page None ≡ plan page

-- the zeros of a page that has a permission
abbrev pub blank : Option ℕ → Option Cell
blank = option_map (λ permission. record { byte = 0; permission = granted_permission permission })

-- the pages of a table, from page 0 on, with zeros
unfoldable pub table_cell : List (Option ℕ) → ℕ → Option Cell
table_cell table a = blank (slice_index_or table (a / 4096) None)

-- the pages that the segments touch, with zeros
unfoldable pub blank_cell : List Segment → ℕ → Option Cell
blank_cell segments a = blank (page_plan segments (a / 4096))

-- the same with the bytes of some of the segments
unfoldable pub filled_cell : List ℕ → List Segment → List Segment → ℕ → Option Cell
filled_cell bytes segments some a = option_map (with_byte (segment_byte bytes some a)) (blank_cell segments a)
