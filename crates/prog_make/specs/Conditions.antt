-- Of which parts a program can be made.
use Rattle.std.specs.Prelude.{◌≡◌, ℕ, ◌%◌, ◌^◌, ◌<◌, ◌≤◌, List, length, IsTrue}
use Rattle.std.specs.List.{All, count_by, list_any}
use Rattle.elf_read.specs.declared.program.Segment.{Segment}
use Rattle.elf_read.specs.Overlaps.{IsApart}
use Rattle.elf_read.specs.Programs.{is_placed, is_code}
use Rattle.prog_make.specs.declared.function_part.FunctionPart.{FunctionPart}
use Rattle.prog_make.specs.Parts.{Parts, total_len}
use Rattle.prog_make.specs.Names.{HasNoZero, IsName}
use Rattle.prog_make.specs.Functions.{holds, lies_in, IsWhole}
use Rattle.prog_make.specs.Programs.{file_segments}

-- a segment has memory, and its sizes and its addresses are those that a reader takes
pub record IsLoadable (s : Segment) : Type 0 where
  pub loaded : 0 < s.mem_len
  pub placed : IsTrue (is_placed s)

-- segments, as they stand in the file, and the entry of a program
pub record AreSegmentsSound (parts : Parts) : Type 0 where
  pub count : length parts.segments ≤ 60000
  pub loadable : All IsLoadable (file_segments parts.segments)
  pub apart : IsApart (file_segments parts.segments)
  -- the entry is the place of an instruction
  pub entry_aligned : parts.entry % 4 ≡ 0
  pub entry_in_code : IsTrue (list_any (is_code parts.entry) (file_segments parts.segments))

-- no address lies in two functions
abbrev pub AreFunctionsApart : List FunctionPart → Type 0
AreFunctionsApart functions = (a : ℕ) → count_by (lies_in a) functions ≤ 1

-- functions of a program
pub record AreFunctionsSound (parts : Parts) : Type 0 where
  -- each is code of one segment
  pub in_code : All (λ f. IsTrue (list_any (holds f) parts.segments)) parts.functions
  pub whole : All IsWhole parts.functions
  pub functions_apart : AreFunctionsApart parts.functions
  pub names : All (λ f. IsName f.name) parts.functions

-- parts that a program can be made of
pub record CanBeMade (parts : Parts) : Type 0 where
  pub segments : AreSegmentsSound parts
  pub functions : AreFunctionsSound parts
  pub file : HasNoZero parts.file
  pub total : total_len parts < 2 ^ 31
