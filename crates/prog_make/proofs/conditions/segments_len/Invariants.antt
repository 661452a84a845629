-- What the segments so far count.
use Rattle.std.proofs.Common.{◌≡◌, ◌+◌, ◌^◌, length, min, take}
use Rattle.std.specs.List.{sum_by}
use Rattle.prog_make.proofs.conditions.segments_len.Given as goal

abbrev pub invariant-segments : goal.invariant-segments
invariant-segments l = l.len ≡ min (2 ^ 31) (sum_by (λ s. length s.bytes + 1024) (take l.segment-index l.segments))
