use Rattle.std.proofs.Common.{arith}
use Rattle.std.proofs.lemmas.List.{drop_all}
use Rattle.std.proofs.Common.{ap}
use Rattle.guest_load.specs.Segments.{highest_end}
use Rattle.guest_load.proofs.SegmentLemmas.{highest_end-above}
use Rattle.guest_load.proofs.segments.first_break.Goals as goal

pub returns-clause-above : goal.returns-clause-above
returns-clause-above c k d h =
    omega (
      arith,
      highest_end-above c.args.segments.now k d h,
      c.segments.invariant.highest,
      ap highest_end
          (drop_all c.segments.segment-index c.args.segments.now c.segments-test.false),
      c.next_multiple_of.ensures.lower_bound,
    )
