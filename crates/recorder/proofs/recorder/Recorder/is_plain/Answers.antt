use Rattle.std.proofs.Common.{◌≡◌, true, ap, sym, subst, ◌∙◌}
use Rattle.sym_map.specs.SymbolMap.{place_of}
use Rattle.shadow_stack.specs.Frames.{stack}
use Rattle.arc_costs.specs.Lines.{has_line}
use Rattle.recorder.specs.Accounts.{account, Ledger, ledger, Recording}
use Rattle.recorder.specs.inner.Books.{ledger_of}
use Rattle.recorder.proofs.LedgerLemmas as books
use Rattle.recorder.proofs.RecordingLemmas as recordings
use Rattle.recorder.proofs.recorder.Recorder.is_plain.Goals as goal

pub returns-in-Some-clause-known : goal.returns-in-Some-clause-known
returns-in-Some-clause-known c =
    λ yes.
    let slots = c.self.inside.arena.slots in
    let all = c.self.inside.books.items in
    let view = sym (ap (λ (r : Recording). r.threads) c.self.view_is) in
    let at = c.in-Some.ensures.at in
    let within = books.within_books slots all c.args.self.now c.in-Some.place view
    (recordings.place_within c.args.self.now c.args.event.now.thread c.in-Some.place at) in
    let here : ledger c.args.self.now c.args.event.now.thread ≡ ledger_of slots c.index.result.now
    = recordings.ledger_there c.args.self.now c.args.event.now.thread c.in-Some.place at
    ∙ books.ledger_place slots all c.args.self.now c.in-Some.place c.args.event.now.thread c.index.result.now view within
    c.index.ensures in
    subst (λ (k : Ledger). has_line (place_of c.args.syms.now c.args.event.now.done.pc) k.account.lines ≡ true) (sym here)
    (c.is_plain.ensures.known yes)

pub returns-in-Some-clause-stays : goal.returns-in-Some-clause-stays
returns-in-Some-clause-stays c =
    λ yes. c.is_plain.ensures.stays yes (stack (account c.args.self.now c.args.event.now.thread).frames)
