use Rattle.elf_read.proofs.OverlapLemmas.{Spread, no_segment}
use Rattle.elf_read.proofs.overlap.is_spread.Given as goal

abbrev pub invariant-segments : goal.invariant-segments
invariant-segments l = Spread l.sorted l.segment-index l.reach no_segment
