-- Segments that share an address.
use Rattle.std.specs.Prelude.{ℕ, ◌+◌, ◌≤◌, List, length, take, slice_get, Option, Bool, nat_lt, max, min}
use Rattle.std.specs.Option.{option_map, option_and_then}
use Rattle.std.specs.List.{position, count_by}
use Rattle.elf_read.specs.declared.error.ElfError.{ElfError}
use Rattle.elf_read.specs.declared.error.ElfError.TheVariants.{Overlap}
use Rattle.elf_read.specs.declared.program.Segment.{Segment}
use Rattle.elf_read.specs.Checks.{table, first_fault}
use Rattle.elf_read.specs.Programs.{covers}

-- some address lies in both: the later beginning is before the earlier end
abbrev pub overlaps : Segment → Segment → Bool
overlaps s t = nat_lt (max s.addr t.addr) (min (s.addr + s.mem_len) (t.addr + t.mem_len))

-- a segment, of number j, shares an address with one of those before it: with the first such
abbrev pub overlap_of : ℕ → List Segment → Segment → Option ElfError
overlap_of j before s = option_map (λ i. Overlap i j) (position (overlaps s) before)

-- segment j shares an address with one before it
unfoldable pub overlap_at : List Segment → ℕ → Option ElfError
overlap_at segments j = option_and_then (overlap_of j (take j segments)) (slice_get segments j)

-- the first segment that shares an address with one before it
abbrev pub apart_fault : List Segment → Option ElfError
apart_fault segments = first_fault (table (overlap_at segments) (length segments))

-- no address lies in two segments
abbrev pub IsApart : List Segment → Type 0
IsApart segments = (a : ℕ) → count_by (covers a) segments ≤ 1
