-- What a program is made of.
use Rattle.std.specs.Prelude.{ℕ, ◌+◌, List, length, sum_by}
use Rattle.prog_make.specs.declared.function_part.FunctionPart.{FunctionPart}
use Rattle.prog_make.specs.SegmentContent.{SegmentContent}

-- the address of the first instruction, segments, functions, and the text of the file that their lines are in
pub record Parts : Type 0 where
  pub entry : ℕ
  pub segments : List SegmentContent
  pub functions : List FunctionPart
  pub file : List ℕ

-- the bytes of all segments
abbrev pub content_len : List SegmentContent → ℕ
content_len segments = sum_by (λ s. length s.bytes) segments

-- the bytes of all segments, names and the file's text, with 1,024 bytes more for each segment and function
abbrev pub total_len : Parts → ℕ
total_len parts =
    sum_by (λ s. length s.bytes + 1024) parts.segments + sum_by
    (λ f. length f.name + 1024) parts.functions + length parts.file
