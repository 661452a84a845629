use Rattle.std.proofs.Common.{◌≡◌, None}
use Rattle.std.specs.List.{All}
use Rattle.elf_read.specs.Checks.{table, first_fault}
use Rattle.elf_read.specs.Programs.{segments_among, program_fault, IsPlaced}
use Rattle.elf_read.proofs.program.segments.Given as goal

abbrev pub invariant-headers : goal.invariant-headers
invariant-headers l = record {
  faults : first_fault (table (program_fault l.bytes) l.k) ≡ None;
  found : l.found.items ≡ segments_among l.bytes l.k;
  placed : All (IsPlaced l.bytes) l.found.items;
}
