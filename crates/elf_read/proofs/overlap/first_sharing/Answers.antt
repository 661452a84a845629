use Rattle.std.proofs.Common.{◌≡◌, ◌+◌, length, take, subst, arith}
use Rattle.std.proofs.lemmas.List.{take_all}
use Rattle.elf_read.specs.Overlaps.{IsApart}
use Rattle.elf_read.proofs.OverlapLemmas.{some_segment}
use Rattle.elf_read.proofs.overlap.first_sharing.Goals as goal

pub halves-init : goal.halves-init
halves-init c = record {
  below = some_segment c.args.segments.now c.requires.shared;
  within = omega arith;
  front = λ a. omega arith;
  more =
      λ apart. c.requires.shared
      (subst IsApart (take_all (length c.args.segments.now) c.args.segments.now (omega arith)) apart);
}

pub halves-preserved-then-branch : goal.halves-preserved-then-branch
halves-preserved-then-branch c =
    record {
      below = omega arith;
      within = c.halves.invariant.within;
      front = c.in_ok-are_apart.ensures.apart c.if-branch.true;
      more = c.halves.invariant.more;
    }

pub returns-clause-shared : goal.returns-clause-shared
returns-clause-shared c apart =
    let next : c.halves.apart + 1 ≡ c.halves.shared = omega arith in
    c.halves.invariant.more (subst (λ n. IsApart (take n c.args.segments.now)) next apart)
