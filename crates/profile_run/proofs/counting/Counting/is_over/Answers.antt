use Rattle.std.proofs.Common.{refl, ◌∙◌, arith}
use Rattle.recorder.specs.Accounts.{live}
use Rattle.guest_sched.specs.Machine.{ended}
use Rattle.profile_run.proofs.EndLemmas as ends
use Rattle.profile_run.proofs.counting.Counting.is_over.Goals as goal

pub returns-then-steps-budget-clause-over : goal.returns-then-steps-budget-clause-over
returns-then-steps-budget-clause-over c = λ given.
    let m = c.args.self.now.machine in
    ends.over_spent m given (ended m) refl c.args.budget m.engine.kernel.guest.steps (live c.args.self.now.recorder)
    (omega (arith, c.steps-steps.ensures, c.if-steps-budget.true))

pub returns-then-live-ge-MOST_FRAMES-clause-over : goal.returns-then-live-ge-MOST_FRAMES-clause-over
returns-then-live-ge-MOST_FRAMES-clause-over c = λ given.
    let m = c.args.self.now.machine in
    ends.over_full m given (ended m) refl c.args.budget m.engine.kernel.guest.steps (live c.args.self.now.recorder)
    (omega (arith, c.live_frames-live.ensures.live, c.if-live-ge-MOST_FRAMES.true))

pub returns-clause-over : goal.returns-clause-over
returns-clause-over c = λ given.
    let m = c.args.self.now.machine in
    c.is_some.ensures
    ∙ ends.over_else m given c.ended.result c.ended.ensures c.args.budget m.engine.kernel.guest.steps
    (live c.args.self.now.recorder)
    (λ e. c.if-steps-budget.false (c.steps-steps.ensures ∙ e))
    (omega (arith, c.live_frames-live.ensures.live, c.if-live-ge-MOST_FRAMES.false))
