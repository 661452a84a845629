use Rattle.std.proofs.Common.{◌<◌, ◌≤◌, ◌-◌, length, take}
use Rattle.elf_read.specs.Overlaps.{IsApart}
use Rattle.elf_read.proofs.overlap.first_sharing.Given as goal

-- the first `apart` segments are apart, and the first `shared` aren't
abbrev pub invariant-halves : goal.invariant-halves
invariant-halves l = record {
  below : l.apart < l.shared;
  within : l.shared ≤ length l.segments;
  front : IsApart (take l.apart l.segments);
  more : IsApart (take l.shared l.segments) → ⊥;
}

abbrev pub decreases-halves : goal.decreases-halves
decreases-halves l = l.shared - l.apart
