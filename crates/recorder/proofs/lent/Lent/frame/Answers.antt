use Rattle.std.proofs.Common.{◌<◌, length, reverse, slice_get, ap, subst, ◌∙◌}
use Rattle.recorder.specs.Accounts.{Ledger}
use Rattle.recorder.proofs.RecordingLemmas as recordings
use Rattle.recorder.proofs.lent.Lent.frame.Goals as goal

pub frame_at-requires-clause-some : goal.frame_at-requires-clause-some
frame_at-requires-clause-some c =
    let r = c.args.self.now.recorder.now in
    let here = recordings.ledger_there r c.args.self.now.thread c.args.self.now.place c.args.self.now.at in
    subst (λ (k : Ledger). c.args.i < length k.account.frames) here c.requires

pub returns : goal.returns
returns c =
    let r = c.args.self.now.recorder.now in
    let here = recordings.ledger_there r c.args.self.now.thread c.args.self.now.place c.args.self.now.at in
    ap (λ (k : Ledger). slice_get (reverse k.account.frames) c.args.i) here ∙ c.frame_at.ensures
