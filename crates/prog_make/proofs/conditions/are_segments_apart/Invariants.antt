-- The spans of the segments so far.
use Rattle.std.proofs.Common.{◌≡◌, map, take}
use Rattle.prog_make.proofs.SpanLemmas.{segment_span}
use Rattle.prog_make.proofs.conditions.are_segments_apart.Given as goal

abbrev pub invariant-segments : goal.invariant-segments
invariant-segments l = l.spans.items ≡ map segment_span (take l.segment-index l.segments)
