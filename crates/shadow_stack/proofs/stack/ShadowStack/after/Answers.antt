use Rattle.std.proofs.Common.{◌<◌, length, ap, ◌∙◌, arith, sym, subst, List}
use Rattle.std.proofs.lemmas.List.{length-map}
use Rattle.shadow_stack.specs.declared.frame.Frame.{Frame}
use Rattle.shadow_stack.specs.Stacks.{is_rooted}
use Rattle.shadow_stack.specs.Changes.{after}
use Rattle.shadow_stack.specs.Frames.{stack, StartWithin}
use Rattle.shadow_stack.specs.Arenas.{frames, links}
use Rattle.shadow_stack.proofs.FrameLemmas.{stack-frames_after, stands_more, after-rooted, after-end, no_frames}
use Rattle.shadow_stack.proofs.FrameLemmas.{StartWithin-after}
use Rattle.shadow_stack.proofs.stack.ShadowStack.after.Goals as goal

pub returns-clause-stack : goal.returns-clause-stack
returns-clause-stack g c =
    ap stack c.change-self-inside.ensures.frames
    ∙ stack-frames_after c.args.syms.now c.args.total.now
    (frames c.self.inside.arena.slots c.self.inside.head) c.args.event.now
    ∙ ap (λ s. after c.args.syms.now (stack s.frames) c.args.event.now) c.self.view_is

pub returns-clause-root : goal.returns-clause-root
returns-clause-root g c = λ goes_on.
    let size = length-map (links c.self.inside.arena.slots c.self.inside.head) (λ l. l.node.frame)
    ∙ c.self.invariant.there in
    let same = ap (λ s. s.frames) c.self.view_is in
    let some : 0 < c.self.inside.head.depth = omega (arith, size, ap (length {A = Frame}) same, c.requires.live) in
    ap is_rooted
    (ap stack c.change-self-inside.ensures.frames
    ∙ stack-frames_after c.args.syms.now c.args.total.now
    (frames c.self.inside.arena.slots c.self.inside.head) c.args.event.now)
    ∙ after-rooted c.args.syms.now (stack (frames c.self.inside.arena.slots c.self.inside.head)) c.args.event.now
    (c.self.invariant.rooted some) goes_on

pub returns-clause-end : goal.returns-clause-end
returns-clause-end g c = λ ends.
    no_frames (frames c.change-self-inside.new.arena.slots c.change-self-inside.result)
    (ap stack c.change-self-inside.ensures.frames
    ∙ stack-frames_after c.args.syms.now c.args.total.now
    (frames c.self.inside.arena.slots c.self.inside.head) c.args.event.now
    ∙ after-end c.args.syms.now (stack (frames c.self.inside.arena.slots c.self.inside.head)) c.args.event.now ends)

pub returns-clause-stands : goal.returns-clause-stands
returns-clause-stands g c = λ first events same.
    ap stack c.change-self-inside.ensures.frames
    ∙ stack-frames_after c.args.syms.now c.args.total.now
    (frames c.self.inside.arena.slots c.self.inside.head) c.args.event.now
    ∙ ap (λ s. after c.args.syms.now (stack s.frames) c.args.event.now) c.self.view_is
    ∙ stands_more c.args.syms.now first (stack c.args.self.now.frames) events c.args.event.now same

pub returns-clause-starts : goal.returns-clause-starts
returns-clause-starts g c =
    subst (λ (fs : List Frame). StartWithin c.args.total.now fs) (sym c.change-self-inside.ensures.frames)
    (StartWithin-after c.args.syms.now c.args.total.now
    (frames c.self.inside.arena.slots c.self.inside.head) c.args.event.now
    (subst (λ (fs : List Frame). StartWithin c.args.total.now fs)
    (sym (ap (λ s. s.frames) c.self.view_is)) c.requires.starts))
