use Rattle.std.proofs.Common.{subst, arith}
use Rattle.std.proofs.lemmas.List.{take_all}
use Rattle.elf_read.specs.Overlaps.{IsApart}
use Rattle.elf_read.proofs.OverlapLemmas.{no_segment, Spread-none, Spread-more, Spread-shared}
use Rattle.elf_read.proofs.overlap.is_spread.Goals as goal

pub segments-init : goal.segments-init
segments-init c = Spread-none c.args.sorted.now no_segment

pub returns-then-from-reach-clause-shared : goal.returns-then-from-reach-clause-shared
returns-then-from-reach-clause-shared c apart =
    absurd
    (Spread-shared c.args.sorted.now c.segments.segment-index c.segments.reach no_segment c.segments-test.true
    c.segments.invariant (omega arith) c.requires.sorted c.requires.loaded apart)

pub segments-preserved : goal.segments-preserved
segments-preserved c =
    rw c.end-reach.ensures
    (Spread-more c.args.sorted.now c.segments.segment-index c.segments.reach no_segment c.segments-test.true
    c.segments.invariant (omega arith))

pub returns-clause-apart : goal.returns-clause-apart
returns-clause-apart c _ =
    subst IsApart (take_all c.segments.segment-index c.args.sorted.now c.segments-test.false) c.segments.invariant.apart
