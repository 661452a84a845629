-- What is written, with the segments still to come, is the whole.
use Rattle.std.proofs.Common.{◌≡◌, ◌++◌, drop}
use Rattle.std.specs.List.{flat_map}
use Rattle.prog_make.proofs.program.push_contents.Given as goal

abbrev pub invariant-segments : goal.invariant-segments
invariant-segments l = l.out ++ flat_map (λ s. s.bytes) (drop l.segment-index l.segments)
    ≡ l.fn.out ++ flat_map (λ s. s.bytes) l.segments
