use Rattle.std.proofs.Common.{ap, sym, ◌∙◌}
use Rattle.recorder.specs.Accounts.{live, Recording}
use Rattle.recorder.proofs.LedgerLemmas as books
use Rattle.recorder.proofs.LedgerLemmas.{live_is}
use Rattle.recorder.proofs.recorder.Recorder.live_frames.Goals as goal

pub returns-clause-live : goal.returns-clause-live
returns-clause-live c =
    c.self.invariant.0.live ∙ sym (live_is c.self.inside.arena.slots c.self.inside.books.items c.self.invariant.0.each)
    ∙ ap (λ (r : Recording). live r) c.self.view_is

pub returns-clause-depth : goal.returns-clause-depth
returns-clause-depth c = λ thread.
    books.depth_below c.self.inside.arena.slots c.self.inside.threads.keys c.self.inside.books.items
    c.self.inside.entered c.args.self.now thread c.self.invariant.0
    (sym (ap (λ (r : Recording). r.threads) c.self.view_is))
