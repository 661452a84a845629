use Rattle.std.proofs.Common.{ap, sym, ◌∙◌, ◌&&◌}
use Rattle.shadow_stack.specs.Arenas.{frames}
use Rattle.recorder.specs.inner.Tellers.{is_among_last}
use Rattle.recorder.proofs.EnteredLemmas.{among_last}
use Rattle.recorder.proofs.book.leaves_root.Goals as goal

pub returns : goal.returns
returns c =
    c.has.ensures.among
    ∙ among_last c.args.watched.now (frames c.args.arena.now.slots c.args.head) c.frame_at.result c.frame_at.ensures
    ∙ ap (λ b. b && is_among_last c.args.watched.now (frames c.args.arena.now.slots c.args.head))
    (sym c.if-not-event.false)
