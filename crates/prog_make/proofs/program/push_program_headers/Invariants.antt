-- What is written, with the segments still to come, is the whole, and so are their bytes.
use Rattle.std.proofs.Common.{◌≡◌, ℕ, ◌+◌, ◌<◌, ◌^◌, ◌++◌, drop, get_or}
use Rattle.prog_make.specs.SegmentContent.{SegmentContent}
use Rattle.prog_make.specs.Parts.{content_len}
use Rattle.prog_make.specs.Programs.{file_segments_from}
use Rattle.prog_make.specs.inner.ProgramBytes.{programs_bytes}
use Rattle.prog_make.proofs.program.push_program_headers.Given as goal

abbrev pub invariant-segments : goal.invariant-segments
invariant-segments l = record {
  written : l.out ++ programs_bytes (file_segments_from l.offset (drop l.segment-index l.segments))
      ≡ l.fn.out ++ programs_bytes (file_segments_from l.initial.offset l.segments);
  flags_fit : (k : ℕ) (d : SegmentContent) → k < l.segment-index → (get_or l.segments k d).flags < 2 ^ 32;
  room : l.offset + content_len (drop l.segment-index l.segments) ≡ l.initial.offset + content_len l.segments;
}
