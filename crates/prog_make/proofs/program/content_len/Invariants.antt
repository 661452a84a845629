-- What is counted, with the segments still to come, is the whole.
use Rattle.std.proofs.Common.{◌≡◌, ◌+◌, drop}
use Rattle.prog_make.specs.Parts.{content_len}
use Rattle.prog_make.proofs.program.content_len.Given as goal

abbrev pub invariant-segments : goal.invariant-segments
invariant-segments l = l.len + content_len (drop l.segment-index l.segments) ≡ content_len l.segments
