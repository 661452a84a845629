use Rattle.std.proofs.Common.{◌≡◌, take}
use Rattle.std.specs.List.{All}
use Rattle.elf_read.specs.Programs.{IsPlaced}
use Rattle.guest_load.proofs.segments.segments_of.Given as goal

abbrev pub invariant-segments : goal.invariant-segments
invariant-segments l = record {
  segments : l.segments.items ≡ take l.i l.elf.segments;
  placed : All (IsPlaced l.elf.bytes) l.segments.items;
}
