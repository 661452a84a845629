use Rattle.std.proofs.Common.{List, subst, sym}
use Rattle.shadow_stack.specs.declared.frame.Frame.{Frame}
use Rattle.shadow_stack.specs.Frames.{StartWithin}
use Rattle.shadow_stack.proofs.FrameLemmas.{StartWithin-grown}
use Rattle.cases_counting.proofs.walk.Walk.step.Goals as goal

pub after-requires-clause-starts : goal.after-requires-clause-starts
after-requires-clause-starts c =
    subst (λ (fs : List Frame). StartWithin c.raise-total.result fs) (sym c.reserve.ensures.same)
    (StartWithin-grown c.raise-total.result c.self.inside.total c.self.inside.stack.frames c.raise-total.ensures
    c.self.invariant)
