-- The condition on segments, said of the parts before they have a place in the file.
use Rattle.std.specs.Prelude.{◌≡◌, ℕ, ◌+◌, ◌%◌, ◌^◌, ◌<◌, ◌≤◌, List, length, Bool, ◌&&◌, IsTrue}
use Rattle.std.specs.List.{All, count_by, list_any}
use Rattle.elf_read.specs.Programs as elf
use Rattle.elf_read.specs.Standard.{lowest_addr, addr_limit}
use Rattle.prog_make.specs.SegmentContent.{SegmentContent}
use Rattle.prog_make.specs.Conditions.{AreFunctionsSound}
use Rattle.prog_make.specs.Names.{HasNoZero}
use Rattle.prog_make.specs.Functions.{is_executable}
use Rattle.prog_make.specs.Parts.{Parts, total_len}
use Rattle.prog_make.specs.Programs.{placed_at}

-- the address lies in the segment, wherever in the file it stands
abbrev pub covers : ℕ → SegmentContent → Bool
covers a s = elf.covers a (placed_at 0 s)

-- a segment has memory and no more bytes than memory, and lies among the addresses of segments
pub record IsPlaced (s : SegmentContent) : Type 0 where
  pub loaded : 0 < s.mem_len
  pub sizes : length s.bytes ≤ s.mem_len
  pub low : lowest_addr ≤ s.addr
  pub high : s.addr + s.mem_len ≤ addr_limit

-- no address lies in two segments
abbrev pub AreApart : List SegmentContent → Type 0
AreApart segments = (a : ℕ) → count_by (covers a) segments ≤ 1

-- segments and the entry of a program
pub record AreSegmentsFit (parts : Parts) : Type 0 where
  pub count : length parts.segments ≤ 60000
  pub placed : All IsPlaced parts.segments
  pub apart : AreApart parts.segments
  pub entry_aligned : parts.entry % 4 ≡ 0
  pub entry_in_code : IsTrue (list_any (λ s. covers parts.entry s && is_executable s) parts.segments)

-- parts that a program can be made of
pub record AreFit (parts : Parts) : Type 0 where
  pub segments : AreSegmentsFit parts
  pub functions : AreFunctionsSound parts
  pub file : HasNoZero parts.file
  pub total : total_len parts < 2 ^ 31
