use Rattle.std.proofs.Common.{◌≡◌, ◌<◌, List, length, get_or, Option, map, set, ap, sym, subst, ◌∙◌, arith, refl, IfOk}
use Rattle.shadow_stack.specs.Arenas.{LeavesOthers}
use Rattle.shadow_stack.specs.Arenas.{Node}
use Rattle.recorder.specs.Accounts.{Account, ledger, Ledger, Recording}
use Rattle.recorder.specs.Notes.{account_after_cut}
use Rattle.recorder.specs.Standing.{IsCutOf, last_events_on_stack, SameSums}
use Rattle.recorder.specs.inner.Books.{account_in, AreSoundBooks, entered_in, ledger_of}
use Rattle.recorder.specs.inner.Places.{IsAt}
use Rattle.recorder.specs.declared.book.Book.{Book}
use Rattle.recorder.proofs.LedgerLemmas as books
use Rattle.recorder.proofs.RecordingLemmas as recordings
use Rattle.recorder.proofs.RecordingLemmas.{IsUpdated}
use Rattle.recorder.proofs.ActiveLemmas.{marked_taken}
use Rattle.recorder.specs.inner.Active.{AreMarked}
use Rattle.recorder.proofs.BoundLemmas.{within_cut, within_same}
use Rattle.recorder.proofs.StandingLemmas as standing
use Rattle.recorder.proofs.StandingLemmas.{either_way, if_err, if_one, if_rows}
use Rattle.recorder.specs.Entries.{Cuts}
use Rattle.recorder.proofs.EntryLaws.{leads}
use Rattle.recorder.proofs.recorder.Recorder.take_rows.Goals as goal

-- ---- what holds once the rows are taken

abbrev book : (c : goal.After-drop-nothing-inside) → Book
book c = c.index_mut.result.now

abbrev new : (c : goal.After-drop-nothing-inside) → Book
new c = c.take_rows-rows.new.self

abbrev all : (c : goal.After-drop-nothing-inside) → List Book
all c = c.self.inside.books.items

abbrev before : (c : goal.After-drop-nothing-inside) → List (Option Node)
before c = c.self.inside.arena.slots

abbrev after : (c : goal.After-drop-nothing-inside) → List (Option Node)
after c = c.take_rows-rows.new.arena.slots

abbrev now : (c : goal.After-drop-nothing-inside) → Recording
now c = record {
  threads = map (ledger_of (after c)) (set (all c) c.in-Some.place (new c));
  spare = c.take_rows-rows.new.arena.spare;
}

view : (c : goal.After-drop-nothing-inside) → c.args.self.now.threads ≡ map (ledger_of (before c)) (all c)
view c = sym (ap (λ (r : Recording). r.threads) c.self.view_is)

is_at : (c : goal.After-drop-nothing-inside) → IsAt c.args.self.now c.args.thread c.in-Some.place
is_at c = sym c.place_of.ensures.place ∙ c.in-Some.is

within : (c : goal.After-drop-nothing-inside) → c.in-Some.place < length (all c)
within c =
    books.within_books (before c) (all c) c.args.self.now c.in-Some.place (view c)
    (recordings.place_within c.args.self.now c.args.thread c.in-Some.place (is_at c))

others : (c : goal.After-drop-nothing-inside)
    → LeavesOthers (before c) (get_or (all c) c.in-Some.place (book c)).head (after c) (new c).head
others c =
    subst (λ (d : Book). LeavesOthers (before c) d.head (after c) (new c).head) c.index_mut.ensures.value
    c.take_rows-rows.ensures.others

same_thread : (c : goal.After-drop-nothing-inside)
    → (new c).thread ≡ (get_or (all c) c.in-Some.place (book c)).thread
same_thread c = c.take_rows-rows.ensures.thread ∙ ap (λ (d : Book). d.thread) c.index_mut.ensures.value

still_kept : (c : goal.After-drop-nothing-inside)
    → AreSoundBooks (after c) c.self.inside.threads.keys (set (all c) c.in-Some.place (new c)) c.self.inside.entered
still_kept c =
    books.replaced (before c) (after c) c.self.inside.threads.keys (all c) c.self.inside.entered
    c.in-Some.place (book c)
    (new c) c.self.invariant.0 (within c) c.take_rows-rows.ensures.kept (others c) (same_thread c) c.self.inside.entered
    (omega (arith, ap entered_in c.index_mut.ensures.value, ap (λ h. h.depth) c.take_rows-rows.ensures.head))
    c.self.invariant.0.few

updated : (c : goal.After-drop-nothing-inside)
    → IsUpdated c.args.self.now (now c) c.args.thread c.in-Some.place (ledger_of (after c) (new c))
updated c =
    books.updated (before c) (after c) c.self.inside.threads.keys (all c) c.self.inside.entered c.in-Some.place (book c)
    (new c) c.self.invariant.0 (within c) c.take_rows-rows.ensures.kept (others c) c.args.self.now (now c) c.args.thread
    (is_at c) (view c) refl (same_thread c)

was : (c : goal.After-drop-nothing-inside) → ledger c.args.self.now c.args.thread ≡ ledger_of (before c) (book c)
was c =
    recordings.ledger_there c.args.self.now c.args.thread c.in-Some.place (is_at c)
    ∙ books.ledger_place (before c) (all c) c.args.self.now c.in-Some.place c.args.thread (book c) (view c) (within c)
    c.index_mut.ensures.value

is : (c : goal.After-drop-nothing-inside) → ledger (now c) c.args.thread ≡ ledger_of (after c) (new c)
is c =
    recordings.ledger_is_new c.args.self.now (now c) c.args.thread c.in-Some.place (ledger_of (after c) (new c)) (updated c)

-- ---- the answers

pub invariant_of-self : goal.invariant_of-self
invariant_of-self c = (
  still_kept c,
  tt,
  marked_taken c.args.self.now (now c) c.self.inside.active.words.items c.clear.new.self.words.items
      (subst (λ (r : Recording). AreMarked r c.self.inside.active.words.items) c.self.view_is c.self.invariant.2)
      c.args.thread
      (recordings.others_kept c.args.self.now (now c) c.args.thread c.in-Some.place (ledger_of (after c) (new c))
      (updated c))
      c.take_rows-rows.result
      (if_one c.take_rows-rows.result c.take_rows-rows.ensures.account
      (λ cut. ap (λ (k : Ledger). k.account.had_event) (is c) ∙ ap (λ (a : Account). a.had_event) cut))
      (if_err c.take_rows-rows.result c.take_rows-rows.ensures.err
      (λ same. ap (λ (k : Ledger). k.account.had_event) (is c) ∙ same.had_event
      ∙ sym (ap (λ (k : Ledger). k.account.had_event) (was c))))
      c.clear.ensures.others
      (λ none. c.clear.ensures.kept (c.is_ok.ensures.value ∙ none)),
  tt,
)

pub returns-clause-rows : goal.returns-clause-rows
returns-clause-rows c =
    subst (λ (k : Ledger). IfOk c.take_rows-rows.result (IsCutOf k.account)) (sym (was c)) c.take_rows-rows.ensures.rows

pub returns-clause-account : goal.returns-clause-account
returns-clause-account c =
    if_one c.take_rows-rows.result c.take_rows-rows.ensures.account
    (λ cut. ap (λ (k : Ledger). k.account) (is c) ∙ cut ∙ ap (λ (k : Ledger). account_after_cut k.account) (sym (was c)))

pub returns-clause-err : goal.returns-clause-err
returns-clause-err c =
    if_err c.take_rows-rows.result c.take_rows-rows.ensures.err
    (λ same. subst (λ (k : Ledger). SameSums k.account (ledger (now c) c.args.thread).account) (sym (was c))
    (subst (λ (k : Ledger). SameSums (account_in (before c) (book c)) k.account) (sym (is c)) same))

pub returns-clause-others : goal.returns-clause-others
returns-clause-others c =
    recordings.others_kept c.args.self.now (now c) c.args.thread c.in-Some.place (ledger_of (after c) (new c)) (updated c)

pub returns-clause-known : goal.returns-clause-known
returns-clause-known c =
    recordings.knows_kept c.args.self.now (now c) c.args.thread c.in-Some.place (ledger_of (after c) (new c)) (updated c)

pub returns-clause-lasting : goal.returns-clause-lasting
returns-clause-lasting c =
    recordings.ready_kept c.args.self.now (now c) c.args.thread c.in-Some.place (ledger_of (after c) (new c)) (updated c)
    (omega (arith, c.take_rows-rows.ensures.room, ap (λ (r : Recording). r.spare) c.self.view_is))
    (omega (arith, ap (λ (k : Ledger). k.line_room) (was c), c.take_rows-rows.ensures.line_room))
    (omega (arith, ap (λ (k : Ledger). k.arc_room) (was c), c.take_rows-rows.ensures.arc_room))

pub returns-clause-live : goal.returns-clause-live
returns-clause-live c =
    books.live_now (after c) c.self.inside.threads.keys (set (all c) c.in-Some.place (new c))
    c.self.inside.entered (now c)
    (still_kept c) refl
    ∙ sym (books.live_now (before c) c.self.inside.threads.keys (all c) c.self.inside.entered c.args.self.now
    c.self.invariant.0 (view c))

pub returns-clause-stands : goal.returns-clause-stands
returns-clause-stands c = λ syms s since stands.
    if_rows c.take_rows-rows.result (returns-clause-rows c)
    (λ rows is. standing.rows_stand syms s since (ledger c.args.self.now c.args.thread).account rows is stands)

pub returns-clause-own_rows : goal.returns-clause-own_rows
returns-clause-own_rows c = λ syms s earlier last stands.
    if_rows c.take_rows-rows.result (returns-clause-rows c)
    (λ rows is. standing.rows_stand syms (standing.all_stack syms s earlier last) (last_events_on_stack syms s earlier last)
    (ledger c.args.self.now c.args.thread).account rows is stands.since)

pub returns-clause-stands_for : goal.returns-clause-stands_for
returns-clause-stands_for c = λ syms s earlier last stands.
    if_one c.take_rows-rows.result (returns-clause-account c)
    (λ is. standing.stands_for_cut syms s earlier last (ledger c.args.self.now c.args.thread).account _ is stands)

pub returns-clause-still_stands : goal.returns-clause-still_stands
returns-clause-still_stands c = λ syms s earlier last stands.
    if_err c.take_rows-rows.result (returns-clause-err c)
    (λ same. standing.still_stands_for syms s earlier last (ledger c.args.self.now c.args.thread).account _ same stands)

pub returns-clause-bounds : goal.returns-clause-bounds
returns-clause-bounds c = λ steps within.
    either_way c.take_rows-rows.result (returns-clause-account c) (returns-clause-err c)
    (λ is. within_cut (ledger c.args.self.now c.args.thread).account _ steps is within)
    (λ same. within_same (ledger c.args.self.now c.args.thread).account _ steps same within)

pub returns-clause-entry : goal.returns-clause-entry
returns-clause-entry c = λ syms.
    if_one c.take_rows-rows.result (returns-clause-account c)
    (λ cut. leads syms (Cuts c.args.thread) c.args.self.now (now c) cut (returns-clause-others c))
