-- Functions and the code that they are.
use Rattle.std.specs.Prelude.{◌≡◌, ℕ, ◌+◌, ◌/◌, ◌%◌, ◌^◌, ◌<◌, List, length, Bool, not, nat_lt, nat_le, ◌==◌, ◌&&◌}
use Rattle.std.specs.List.{position_or_len}
use Rattle.elf_read.specs.Standard.{pf_x, has_flag}
use Rattle.prog_make.specs.declared.function_part.FunctionPart.{FunctionPart}
use Rattle.prog_make.specs.SegmentContent.{SegmentContent}

-- the segment is executable
abbrev pub is_executable : SegmentContent → Bool
is_executable s = has_flag pf_x s.flags

-- the function lies in the bytes of the segment, which is executable
abbrev pub holds : FunctionPart → SegmentContent → Bool
holds f s = is_executable s && nat_le s.addr f.addr && nat_le (f.addr + f.size) (s.addr + length s.bytes)

-- the number of the section with the function's code: those of segments follow the five of tables
abbrev pub section_number : List SegmentContent → FunctionPart → ℕ
section_number segments f = 5 + position_or_len (holds f) segments

-- the address lies in the function
abbrev pub lies_in : ℕ → FunctionPart → Bool
lies_in a f = nat_le f.addr a && nat_lt a (f.addr + f.size)

-- how many instructions the function has
abbrev pub instruction_count : FunctionPart → ℕ
instruction_count f = f.size / 4

-- the function has lines
abbrev pub has_lines : FunctionPart → Bool
has_lines f = not (f.first_line == 0)

-- a function is whole instructions, at least one, and its lines are numbers of 32 bits
pub record IsWhole (f : FunctionPart) : Type 0 where
  pub addr_aligned : f.addr % 4 ≡ 0
  pub size_aligned : f.size % 4 ≡ 0
  pub not_empty : 0 < f.size
  pub lines_fit : f.first_line + instruction_count f < 2 ^ 32
