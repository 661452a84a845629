use Rattle.shadow_stack.proofs.FrameLemmas.{StartWithin-restarted}
use Rattle.shadow_stack.specs.declared.frame.Frame.{Frame}
use Rattle.std.proofs.Common.{ap, ◌∙◌, sym, subst, List}
use Rattle.shadow_stack.specs.Frames.{stack, StartWithin}
use Rattle.shadow_stack.specs.Arenas.{frames}
use Rattle.shadow_stack.proofs.ChainLemmas.{leaves_others}
use Rattle.shadow_stack.proofs.RestartLemmas.{stack-restarted}
use Rattle.shadow_stack.proofs.held.Held.restart.Goals as goal

pub returns-clause-stack : goal.returns-clause-stack
returns-clause-stack g c =
    ap stack c.restart.ensures.frames
    ∙ stack-restarted c.args.total.now (frames c.args.self.now.arena.now.slots c.args.self.now.head.now)

pub returns-clause-others : goal.returns-clause-others
returns-clause-others g c =
    leaves_others c.args.self.now.arena.now.slots c.restart.new.arena.slots c.args.self.now.head.now
    c.args.self.now.head.now c.restart.ensures.chain

pub returns-clause-starts : goal.returns-clause-starts
returns-clause-starts g c =
    subst (λ (fs : List Frame). StartWithin c.args.total.now fs) (sym c.restart.ensures.frames)
    (StartWithin-restarted c.args.total.now (frames c.args.self.now.arena.now.slots c.args.self.now.head.now))
