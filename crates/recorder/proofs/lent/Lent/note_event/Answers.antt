use Rattle.std.proofs.Common.{◌≡◌, ℕ, ◌+◌, ap, sym, subst, ◌∙◌, arith, if◌then◌else◌, length, List}
use Rattle.event_costs.specs.declared.numbers.ThreadNo.{ThreadNo}
use Rattle.sym_map.specs.SymbolMap.{place_of}
use Rattle.shadow_stack.specs.Changes.{drop_count}
use Rattle.shadow_stack.specs.Frames.{count_pushed, pushed_activation, stack}
use Rattle.arc_costs.specs.Lines.{has_line}
use Rattle.recorder.specs.Accounts.{account, Account, ledger, Ledger, Recording}
use Rattle.recorder.specs.Entries.{Notes}
use Rattle.recorder.specs.Notes.{CanNote, account_after_note, noted_answer}
use Rattle.recorder.specs.inner.Books.{Adds}
use Rattle.recorder.specs.inner.Places.{IsAt, ledger_at}
use Rattle.recorder.proofs.RecordingLemmas as recordings
use Rattle.recorder.proofs.RecordingLemmas.{IsUpdated}
use Rattle.recorder.proofs.BoundLemmas.{within_more}
use Rattle.recorder.proofs.EntryLaws.{leads}
use Rattle.recorder.proofs.StandingLemmas as standing
use Rattle.recorder.proofs.lent.Lent.note_event.Given
use Rattle.recorder.proofs.lent.Lent.note_event.Goals as goal

-- ---- before the event

here_before : (g : Given.Over) (c : goal.After-note_at-arg-1 g)
    → ledger c.args.self.now.recorder.now c.args.self.now.thread
    ≡ ledger_at c.args.self.now.recorder.now c.args.self.now.place c.args.event.now.thread
here_before g c =
    recordings.ledger_there c.args.self.now.recorder.now c.args.self.now.thread c.args.self.now.place c.args.self.now.at
    ∙ ap (λ (u : ThreadNo). ledger_at c.args.self.now.recorder.now c.args.self.now.place u) (sym c.requires.thread)

pub note_at-requires-clause-at : goal.note_at-requires-clause-at
note_at-requires-clause-at g c =
    subst (λ (u : ThreadNo). IsAt c.args.self.now.recorder.now u c.args.self.now.place) (sym c.requires.thread)
    c.args.self.now.at

pub note_at-requires-clause-line_room : goal.note_at-requires-clause-line_room
note_at-requires-clause-line_room g c =
    omega (arith, c.requires.ready.lines, ap (λ (k : Ledger). k.line_room) (here_before g c))

pub note_at-requires-clause-arc_room : goal.note_at-requires-clause-arc_room
note_at-requires-clause-arc_room g c =
    omega (arith, c.requires.ready.arcs, ap (λ (k : Ledger). k.arc_room) (here_before g c))

pub note_at-requires-clause-can : goal.note_at-requires-clause-can
note_at-requires-clause-can g c =
    subst (λ (k : Ledger). CanNote c.args.syms.now c.args.event.now (g.C.EventCost.numbers c.args.cost.now) k.account)
    (here_before g c) c.requires.can

-- ---- what holds once the event is noted

abbrev r : (g : Given.Over) (c : goal.After-self-1 g) → Recording
r g c = c.args.self.now.recorder.now

abbrev t : (g : Given.Over) (c : goal.After-self-1 g) → ThreadNo
t g c = c.args.self.now.thread

abbrev new : (g : Given.Over) (c : goal.After-self-1 g) → Ledger
new g c = ledger_at c.note_at.new.self c.args.self.now.place c.args.event.now.thread

abbrev cost : (g : Given.Over) (c : goal.After-self-1 g) → List ℕ
cost g c = g.C.EventCost.numbers c.args.cost.now

was : (g : Given.Over) (c : goal.After-self-1 g)
    → ledger (r g c) (t g c) ≡ ledger_at (r g c) c.args.self.now.place c.args.event.now.thread
was g c =
    recordings.ledger_there (r g c) (t g c) c.args.self.now.place c.args.self.now.at
    ∙ ap (λ (u : ThreadNo). ledger_at (r g c) c.args.self.now.place u) (sym c.requires.thread)

updated : (g : Given.Over) (c : goal.After-self-1 g)
    → IsUpdated (r g c) c.note_at.new.self (t g c) c.args.self.now.place (new g c)
updated g c = record {
  at = c.args.self.now.at;
  thread =
      ap (λ (a : Account). a.thread) c.note_at.ensures.account
      ∙ ap (λ (u : ThreadNo). (ledger_at (r g c) c.args.self.now.place u).account.thread) c.requires.thread
      ∙ recordings.thread_there (r g c) (t g c) c.args.self.now.place c.args.self.now.at;
  threads = c.note_at.ensures.threads;
}

is : (g : Given.Over) (c : goal.After-self-1 g) → ledger c.note_at.new.self (t g c) ≡ new g c
is g c = recordings.ledger_is_new (r g c) c.note_at.new.self (t g c) c.args.self.now.place (new g c) (updated g c)

adds : (g : Given.Over) (c : goal.After-self-1 g)
    → Adds c.args.syms.now c.args.event.now (cost g c) (ledger (r g c) (t g c)).account
    (ledger c.note_at.new.self (t g c)).account
adds g c =
    subst
    (λ (k : Ledger). Adds c.args.syms.now c.args.event.now (cost g c) k.account (ledger c.note_at.new.self (t g c)).account)
    (sym (was g c))
    (subst
    (λ (k : Ledger). Adds c.args.syms.now c.args.event.now (cost g c)
    (ledger_at (r g c) c.args.self.now.place c.args.event.now.thread).account k.account)
    (sym (is g c)) c.note_at.ensures.adds)

-- ---- the answers

pub returns-clause-account : goal.returns-clause-account
returns-clause-account g c =
    ap (λ (k : Ledger). k.account) (is g c) ∙ c.note_at.ensures.account
    ∙ ap (λ (k : Ledger). account_after_note c.args.syms.now c.args.event.now (cost g c) k.account) (sym (was g c))

pub returns-clause-answer : goal.returns-clause-answer
returns-clause-answer g c =
    c.note_at.ensures.answer
    ∙ ap (λ (k : Ledger). noted_answer c.args.syms.now c.args.after.now c.args.event.now k.account.frames)
    (sym (was g c))

pub returns-clause-others : goal.returns-clause-others
returns-clause-others g c =
    recordings.others_kept (r g c) c.note_at.new.self (t g c) c.args.self.now.place (new g c) (updated g c)

pub returns-clause-known : goal.returns-clause-known
returns-clause-known g c =
    recordings.knows_kept (r g c) c.note_at.new.self (t g c) c.args.self.now.place (new g c) (updated g c)

pub returns-clause-stands : goal.returns-clause-stands
returns-clause-stands g c = λ s since stands.
    standing.stands_more c.args.syms.now c.args.event.now (cost g c) (ledger (r g c) (t g c)).account
    (ledger c.note_at.new.self (t g c)).account s since (returns-clause-account g c) (adds g c) stands

pub returns-clause-bounds : goal.returns-clause-bounds
returns-clause-bounds g c = λ steps unit within.
    within_more c.args.syms.now c.args.event.now (cost g c) (ledger (r g c) (t g c)).account
    (ledger c.note_at.new.self (t g c)).account steps (adds g c) unit
    (omega (arith, c.note_at.ensures.shallow, ap (λ (k : Ledger). length k.account.frames) (was g c))) within

pub returns-clause-stands_for : goal.returns-clause-stands_for
returns-clause-stands_for g c = λ s earlier last stands.
    standing.stands_for_more c.args.syms.now c.args.event.now (cost g c) (ledger (r g c) (t g c)).account
    (ledger c.note_at.new.self (t g c)).account s earlier last (returns-clause-account g c) (adds g c) stands

pub returns-clause-frame_room : goal.returns-clause-frame_room
returns-clause-frame_room g c =
    ap (λ (k : Ledger). c.note_at.new.self.spare + count_pushed
    (pushed_activation c.args.syms.now c.args.event.now k.account.frames)) (was g c)
    ∙ c.note_at.ensures.frame_room
    ∙ ap (λ (k : Ledger). (r g c).spare + drop_count c.args.syms.now c.args.event.now (stack k.account.frames)) (sym (was g c))

pub returns-clause-line_room : goal.returns-clause-line_room
returns-clause-line_room g c =
    ap (λ (k : Ledger). k.line_room
    + (if has_line (place_of c.args.syms.now c.args.event.now.done.pc) (ledger (r g c) (t g c)).account.lines then 0
    else 1)) (is g c)
    ∙ ap (λ (k : Ledger). (new g c).line_room
    + (if has_line (place_of c.args.syms.now c.args.event.now.done.pc) k.account.lines then 0 else 1)) (was g c)
    ∙ c.note_at.ensures.line_room ∙ ap (λ (k : Ledger). k.line_room) (sym (was g c))

pub returns-clause-arc_room : goal.returns-clause-arc_room
returns-clause-arc_room g c =
    omega (
      arith,
      c.note_at.ensures.arc_room,
      ap (λ (k : Ledger). k.arc_room) (is g c),
      ap (λ (k : Ledger). k.arc_room) (was g c),
      ap (λ (k : Ledger). count_pushed (pushed_activation c.args.syms.now c.args.event.now k.account.frames)) (was g c),
    )

pub returns-clause-lasting : goal.returns-clause-lasting
returns-clause-lasting g c = λ none.
    let known = has_line (place_of c.args.syms.now c.args.event.now.done.pc) (ledger (r g c) (t g c)).account.lines in
    let pushes_none : count_pushed (pushed_activation c.args.syms.now c.args.event.now (ledger (r g c) (t g c)).account.frames) ≡ 0
    = ap count_pushed none.frames in
    recordings.ready_kept (r g c) c.note_at.new.self (t g c) c.args.self.now.place (new g c) (updated g c)
    (omega (arith, returns-clause-frame_room g c, pushes_none))
    (omega (
      arith,
      recordings.known_room known (ledger c.note_at.new.self (t g c)).line_room (ledger (r g c) (t g c)).line_room
          none.lines (returns-clause-line_room g c),
      ap (λ (k : Ledger). k.line_room) (is g c),
    ))
    (omega (arith, returns-clause-arc_room g c, pushes_none, ap (λ (k : Ledger). k.arc_room) (is g c)))

pub returns-clause-entry : goal.returns-clause-entry
returns-clause-entry g c =
    let event = c.args.event.now in
    leads c.args.syms.now (Notes (record { event = event; cost = cost g c })) (r g c) c.note_at.new.self
    (subst
    (λ (u : ThreadNo). account c.note_at.new.self u ≡ account_after_note c.args.syms.now event (cost g c) (account (r g c) u))
    (sym c.requires.thread) (returns-clause-account g c))
    (λ o differs. returns-clause-others g c o (λ is. differs (is ∙ sym (ap (λ (u : ThreadNo). u.0) c.requires.thread))))

pub returns-clause-live : goal.returns-clause-live
returns-clause-live g c =
    recordings.live_kept (r g c) c.note_at.new.self (t g c) c.args.self.now.place (new g c) (updated g c)
