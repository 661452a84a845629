use Rattle.ctx_costs.proofs.ChangedLemmas.{still_changed}
use Rattle.ctx_costs.proofs.track.Track.change.Goals as goal

pub returns-then-stays : goal.returns-then-stays
returns-then-stays c =
    still_changed c.args.callers c.args.contexts.now.contexts c.args.syms.now c.args.event.now c.args.self.now
    c.requires.framed (c.stays.ensures c.if-stays.true)
