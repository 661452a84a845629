use Rattle.std.proofs.Common.{◌≡◌, ◌≤◌, max, drop}
use Rattle.guest_load.specs.Segments.{highest_end}
use Rattle.guest_load.proofs.segments.first_break.Given as goal

abbrev pub invariant-segments : goal.invariant-segments
invariant-segments l = record {
  highest : max l.highest (highest_end (drop l.segment-index l.segments)) ≡ highest_end l.segments;
  low : l.highest ≤ 0x4000_0000;
}
