use Rattle.std.proofs.Common.{subst}
use Rattle.recorder.specs.Accounts.{Recording}
use Rattle.recorder.specs.inner.Active.{AreMarked}
use Rattle.recorder.proofs.ActiveLemmas.{unmarked}
use Rattle.recorder.proofs.recorder.Recorder.quiet_from.Goals as goal

pub returns : goal.returns
returns c = λ o low high.
    unmarked c.args.self.now c.self.inside.active.words.items o
    (subst (λ (r : Recording). AreMarked r c.self.inside.active.words.items) c.self.view_is c.self.invariant.2)
    (c.quiet_from.ensures o low high)
