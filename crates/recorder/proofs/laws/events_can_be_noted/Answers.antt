use Rattle.recorder.proofs.BoundLemmas.{can_note}
use Rattle.recorder.proofs.laws.events_can_be_noted.Goals as goal

pub returns : goal.returns
returns c =
    λ syms event cost a steps within few unit shallow top. can_note syms event cost a steps within few unit shallow top
