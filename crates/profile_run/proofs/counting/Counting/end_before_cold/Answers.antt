use Rattle.std.proofs.Common.{◌∙◌, sym, arith}
use Rattle.recorder.specs.Accounts.{live}
use Rattle.profile_run.proofs.EndLemmas as ends
use Rattle.profile_run.proofs.counting.Counting.end_before_cold.Goals as goal

pub returns-then-is_exit : goal.returns-then-is_exit
returns-then-is_exit c = λ given.
    ends.where_exited c.args.self.now.machine given c.ended-ended.result c.ended-ended.ensures c.args.budget
    c.args.self.now.machine.engine.kernel.guest.steps (live c.args.self.now.recorder)
    (sym c.is_exit.ensures ∙ c.if-is_exit.true)

pub returns-then-steps-budget : goal.returns-then-steps-budget
returns-then-steps-budget c = λ given.
    ends.where_spent c.args.self.now.machine given c.ended-ended.result c.ended-ended.ensures c.args.budget
    c.args.self.now.machine.engine.kernel.guest.steps (live c.args.self.now.recorder)
    (sym c.is_exit.ensures ∙ c.if-is_exit.false)
    (omega (arith, c.steps.ensures, c.if-steps-budget.true))

pub returns-then-frames-ge-MOST_FRAMES : goal.returns-then-frames-ge-MOST_FRAMES
returns-then-frames-ge-MOST_FRAMES c = λ given.
    ends.where_full c.args.self.now.machine given c.ended-ended.result c.ended-ended.ensures c.args.budget
    c.args.self.now.machine.engine.kernel.guest.steps (live c.args.self.now.recorder)
    (sym c.is_exit.ensures ∙ c.if-is_exit.false)
    (λ e. c.if-steps-budget.false (c.steps.ensures ∙ e))
    (omega (arith, c.live_frames-frames.ensures.live, c.if-frames-ge-MOST_FRAMES.true))

pub returns : goal.returns
returns c = λ given.
    ends.where_open c.args.self.now.machine given c.ended-ended.result c.ended-ended.ensures c.args.budget
    c.args.self.now.machine.engine.kernel.guest.steps (live c.args.self.now.recorder)
    (sym c.is_exit.ensures ∙ c.if-is_exit.false)
    (λ e. c.if-steps-budget.false (c.steps.ensures ∙ e))
    (omega (arith, c.live_frames-frames.ensures.live, c.if-frames-ge-MOST_FRAMES.false))
