use Rattle.shadow_stack.specs.declared.frame.Frame.{Frame}
use Rattle.std.proofs.Common.{ap, ◌∙◌, sym, subst, List}
use Rattle.shadow_stack.specs.Stacks.{is_rooted}
use Rattle.shadow_stack.specs.Frames.{stack, StartWithin}
use Rattle.shadow_stack.specs.Arenas.{frames, stack_at}
use Rattle.shadow_stack.proofs.ChainLemmas.{leaves_others}
use Rattle.shadow_stack.proofs.FrameLemmas.{stack-frames_after, stands_more, after-rooted, after-end, no_frames}
use Rattle.shadow_stack.proofs.FrameLemmas.{StartWithin-after}
use Rattle.shadow_stack.proofs.held.Held.after_known.Goals as goal

pub returns-clause-stack : goal.returns-clause-stack
returns-clause-stack g c =
    ap stack c.change-head.ensures.frames
    ∙ stack-frames_after c.args.syms.now c.args.total.now
    (frames c.args.self.now.arena.now.slots c.args.self.now.head.now) c.args.event.now

pub returns-clause-others : goal.returns-clause-others
returns-clause-others g c =
    leaves_others c.args.self.now.arena.now.slots c.change-head.new.arena.slots c.args.self.now.head.now
    c.change-head.result c.change-head.ensures.chain

pub returns-clause-root : goal.returns-clause-root
returns-clause-root g c = λ goes_on.
    ap is_rooted
    (ap stack c.change-head.ensures.frames
    ∙ stack-frames_after c.args.syms.now c.args.total.now
    (frames c.args.self.now.arena.now.slots c.args.self.now.head.now) c.args.event.now)
    ∙ after-rooted c.args.syms.now (stack_at c.args.self.now.arena.now.slots c.args.self.now.head.now) c.args.event.now
    (c.args.self.now.lies.rooted c.requires.live) goes_on

pub returns-clause-end : goal.returns-clause-end
returns-clause-end g c = λ ends.
    no_frames (frames c.change-head.new.arena.slots c.change-head.result)
    (ap stack c.change-head.ensures.frames
    ∙ stack-frames_after c.args.syms.now c.args.total.now
    (frames c.args.self.now.arena.now.slots c.args.self.now.head.now) c.args.event.now
    ∙ after-end c.args.syms.now
    (stack_at c.args.self.now.arena.now.slots c.args.self.now.head.now) c.args.event.now ends)

pub returns-clause-stands : goal.returns-clause-stands
returns-clause-stands g c = λ first events same.
    ap stack c.change-head.ensures.frames
    ∙ stack-frames_after c.args.syms.now c.args.total.now
    (frames c.args.self.now.arena.now.slots c.args.self.now.head.now) c.args.event.now
    ∙ stands_more c.args.syms.now first
    (stack_at c.args.self.now.arena.now.slots c.args.self.now.head.now) events c.args.event.now same

pub returns-clause-starts : goal.returns-clause-starts
returns-clause-starts g c =
    subst (λ (fs : List Frame). StartWithin c.args.total.now fs) (sym c.change-head.ensures.frames)
    (StartWithin-after c.args.syms.now c.args.total.now
    (frames c.args.self.now.arena.now.slots c.args.self.now.head.now) c.args.event.now c.requires.starts)
