-- What is written, with the segments still to come, is the whole, and so are their bytes.
use Rattle.std.proofs.Common.{◌≡◌, ◌+◌, ◌++◌, drop, map}
use Rattle.prog_make.specs.Parts.{content_len}
use Rattle.prog_make.specs.Programs.{file_segments_from}
use Rattle.prog_make.specs.inner.Sections.{sections_bytes, segment_section}
use Rattle.prog_make.proofs.section.push_segment_sections.Given as goal

abbrev pub invariant-segments : goal.invariant-segments
invariant-segments l = record {
  written : l.out ++ sections_bytes (map segment_section (file_segments_from l.offset (drop l.segment-index l.segments)))
      ≡ l.fn.out ++ sections_bytes (map segment_section (file_segments_from l.initial.offset l.segments));
  room : l.offset + content_len (drop l.segment-index l.segments) ≡ l.initial.offset + content_len l.segments;
}
