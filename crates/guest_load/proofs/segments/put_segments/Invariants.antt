use Rattle.std.proofs.Common.{◌≡◌, ◌≤◌, length, drop}
use Rattle.guest_mem.specs.Memory.{memory_of}
use Rattle.guest_load.specs.inner.Stages.{filled_cell}
use Rattle.guest_load.proofs.segments.put_segments.Given as goal

abbrev pub invariant-segments : goal.invariant-segments
invariant-segments l = record {
  within : l.left ≤ length l.segments;
  memory : l.mem ≡ memory_of (filled_cell l.file l.segments (drop l.left l.segments));
}

abbrev pub decreases-segments : goal.decreases-segments
decreases-segments l = l.left
