use Rattle.std.proofs.Common.{length, ap, sym, ◌∙◌}
use Rattle.recorder.specs.Accounts.{Ledger}
use Rattle.recorder.proofs.RecordingLemmas as recordings
use Rattle.recorder.proofs.lent.Lent.depth.Goals as goal

pub returns : goal.returns
returns c =
    let r = c.args.self.now.recorder.now in
    let here = recordings.ledger_there r c.args.self.now.thread c.args.self.now.place c.args.self.now.at in
    c.depth_at.ensures ∙ ap (λ (k : Ledger). length k.account.frames) (sym here)
