use Rattle.std.proofs.Common.{◌≡◌, ◌+◌, ◌<◌, true, ap, sym, subst, arith}
use Rattle.recorder.specs.Accounts.{account, IsReady, knows, live, Recording}
use Rattle.recorder.specs.Notes.{CanNote}
use Rattle.recorder.proofs.BoundLemmas.{can_note}
use Rattle.recorder.proofs.ThreadBounds.{all_same, all_within}
use Rattle.unit_notes.proofs.track.Track.note_ready.Goals as goal

pub note-noted-requires-clause-known : goal.note-noted-requires-clause-known
note-noted-requires-clause-known c =
    subst (λ (r : Recording). knows r c.args.event.now.thread ≡ true) (sym c.is_notable.ensures.same)
    (c.is_notable.ensures.ready c.if-not-is_notable.false).0

pub note-noted-requires-clause-ready : goal.note-noted-requires-clause-ready
note-noted-requires-clause-ready c =
    subst (λ (r : Recording). IsReady r c.args.event.now.thread) (sym c.is_notable.ensures.same)
    (c.is_notable.ensures.ready c.if-not-is_notable.false).1

pub note-noted-requires-clause-few : goal.note-noted-requires-clause-few
note-noted-requires-clause-few c =
    subst (λ (r : Recording). live r < 4194304) (sym c.is_notable.ensures.same)
    (c.is_notable.ensures.live c.if-not-is_notable.false)

pub note-noted-requires-clause-can : goal.note-noted-requires-clause-can
note-noted-requires-clause-can c =
    let t = c.args.event.now.thread in
    subst (λ (r : Recording). CanNote c.args.syms.now c.args.event.now c.unit.result (account r t))
    (sym c.is_notable.ensures.same)
    (can_note c.args.syms.now c.args.event.now c.unit.result (account c.self.inside.recorder t) c.self.inside.steps
    (c.self.invariant t) (omega (arith, c.is_notable.ensures.few c.if-not-is_notable.false)) c.unit.ensures
    (c.is_notable.ensures.shallow c.if-not-is_notable.false) (c.is_notable.ensures.top c.if-not-is_notable.false))

pub invariant_of-self-2 : goal.invariant_of-self-2
invariant_of-self-2 c =
    let t = c.args.event.now.thread in
    let before = all_same c.self.inside.steps c.self.inside.recorder c.is_notable.new.recorder
    (λ o. ap (λ (r : Recording). account r o) c.is_notable.ensures.same) c.self.invariant in
    all_within c.self.inside.steps (c.self.inside.steps + 1) c.is_notable.new.recorder c.note-noted.new.self t
    (omega arith) before
    (c.note-noted.ensures.bounds c.self.inside.steps c.unit.ensures (before t)) c.note-noted.ensures.others
