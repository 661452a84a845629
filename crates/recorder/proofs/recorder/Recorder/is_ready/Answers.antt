use Rattle.std.proofs.Common.{◌≡◌, ◌≤◌, is_some, ap, sym, subst, ◌∙◌, arith}
use Rattle.recorder.specs.Accounts.{ledger, Ledger, Recording}
use Rattle.recorder.specs.inner.Books.{ledger_of}
use Rattle.recorder.proofs.LedgerLemmas as books
use Rattle.recorder.proofs.RecordingLemmas as recordings
use Rattle.recorder.proofs.recorder.Recorder.is_ready.Goals as goal

pub returns : goal.returns
returns c =
    let slots = c.self.inside.arena.slots in
    let all = c.self.inside.books.items in
    let view = sym (ap (λ (r : Recording). r.threads) c.self.view_is) in
    let at = sym c.place_of.ensures.place ∙ c.in-Some.is in
    let within = books.within_books slots all c.args.self.now c.in-Some.place view
    (recordings.place_within c.args.self.now c.args.thread c.in-Some.place at) in
    let here : ledger c.args.self.now c.args.thread ≡ ledger_of slots c.index.result.now
    = recordings.ledger_there c.args.self.now c.args.thread c.in-Some.place at
    ∙ books.ledger_place slots all c.args.self.now c.in-Some.place c.args.thread c.index.result.now view within
    c.index.ensures in
    let lines = ap (λ (k : Ledger). k.line_room) here in
    let arcs = ap (λ (k : Ledger). k.arc_room) here in
    let frames =
    subst (λ (r : Recording). 1 ≤ r.spare) c.self.view_is (c.has_room.ensures.0 c.if-not-has_room.false) in (
      (λ has. let room = c.has_room-2.ensures.0 has in (
        sym c.place_of.ensures.found ∙ ap is_some c.in-Some.is,
        record { frames = frames; lines = omega (arith, lines, room.0); arcs = omega (arith, arcs, room.1) },
      )),
      (λ both. c.has_room-2.ensures.1 (omega (arith, lines, both.1.lines), omega (arith, arcs, both.1.arcs))),
    )
