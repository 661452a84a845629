use Rattle.std.proofs.Common.{is_some, ap, sym, subst, ◌∙◌}
use Rattle.recorder.specs.Accounts.{Ledger, Recording}
use Rattle.recorder.proofs.LedgerLemmas as books
use Rattle.recorder.proofs.RecordingLemmas as recordings
use Rattle.recorder.proofs.ActiveLemmas.{unmarked}
use Rattle.recorder.specs.inner.Active.{AreMarked}
use Rattle.recorder.proofs.recorder.Recorder.had_event.Goals as goal

pub returns-then-not-may_have : goal.returns-then-not-may_have
returns-then-not-may_have c =
    sym (unmarked c.args.self.now c.self.inside.active.words.items c.args.thread
    (subst (λ (r : Recording). AreMarked r c.self.inside.active.words.items) c.self.view_is c.self.invariant.2)
    (sym c.may_have.ensures ∙ c.if-not-may_have.true))

pub returns-in-Some : goal.returns-in-Some
returns-in-Some c =
    let slots = c.self.inside.arena.slots in
    let all = c.self.inside.books.items in
    let view = sym (ap (λ (r : Recording). r.threads) c.self.view_is) in
    let at = sym c.place_of.ensures.place ∙ c.in-Some.is in
    let within = books.within_books slots all c.args.self.now c.in-Some.place view
    (recordings.place_within c.args.self.now c.args.thread c.in-Some.place at) in
    sym (ap (λ (k : Ledger). k.account.had_event)
    (recordings.ledger_there c.args.self.now c.args.thread c.in-Some.place at
    ∙ books.ledger_place slots all c.args.self.now c.in-Some.place c.args.thread c.index.result.now view within
    c.index.ensures))

pub returns-in-None : goal.returns-in-None
returns-in-None c =
    sym (ap (λ (k : Ledger). k.account.had_event)
    (recordings.ledger_unknown c.args.self.now c.args.thread
    (sym c.place_of.ensures.found ∙ ap is_some c.in-None.is)))
