use Rattle.recorder.proofs.ArcLaws.{arc_pushed}
use Rattle.recorder.proofs.laws.arcs_are_pushed.Goals as goal

pub returns : goal.returns
returns c =
    λ syms trace cuts segment thread arc kind piece some. arc_pushed syms trace cuts segment thread arc kind piece some
