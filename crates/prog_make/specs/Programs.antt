-- Where segments stand in a file that is made (gABI, Program Header).
use Rattle.std.specs.Prelude.{ℕ, ◌+◌, ◌*◌, List, [], ◌∷◌, length}
use Rattle.elf_read.specs.declared.program.Segment.{Segment}
use Rattle.elf_read.specs.Standard.{header_len, program_header_len}
use Rattle.prog_make.specs.SegmentContent.{SegmentContent}

-- the segment whose bytes stand at a place of the file
abbrev pub placed_at : ℕ → SegmentContent → Segment
placed_at offset s = record {
  offset = offset;
  addr = s.addr;
  file_len = length s.bytes;
  mem_len = s.mem_len;
  flags = s.flags;
}

-- the segments whose bytes stand one after the other in the file, from a place on
abbrev pub file_segments_from : ℕ → List SegmentContent → List Segment
file_segments_from offset [] = []
file_segments_from offset (s ∷ segments) = placed_at offset s ∷ file_segments_from (offset + length s.bytes) segments

-- where the bytes of segments begin: behind the ELF header and the program headers
abbrev pub content_offset : List SegmentContent → ℕ
content_offset segments = header_len + program_header_len * length segments

-- the segments in the file
abbrev pub file_segments : List SegmentContent → List Segment
file_segments segments = file_segments_from (content_offset segments) segments
