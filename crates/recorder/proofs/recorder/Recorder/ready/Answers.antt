use Rattle.std.proofs.Common.{◌≡◌, ◌<◌, List, length, get_or, Option, map, set, ap, sym, subst, ◌∙◌, arith, refl}
use Rattle.std.proofs.Common.{Result, Ok, Err, OnOk}
use Rattle.shadow_stack.specs.Arenas.{LeavesOthers}
use Rattle.shadow_stack.specs.Arenas.{Node}
use Rattle.recorder.specs.Accounts.{account, ledger, Ledger, Recording}
use Rattle.recorder.specs.inner.Books.{account_in, entered_in, IsSoundBook, ledger_of}
use Rattle.recorder.specs.inner.Places.{IsAt}
use Rattle.recorder.specs.declared.book.Book.{Book}
use Rattle.recorder.proofs.LedgerLemmas as books
use Rattle.recorder.proofs.RecordingLemmas as recordings
use Rattle.recorder.proofs.RecordingLemmas.{IsUpdated}
use Rattle.recorder.proofs.ActiveLemmas.{marks_stay}
use Rattle.recorder.specs.inner.Active.{AreMarked}
use Rattle.event_costs.specs.declared.numbers.ThreadNo.{ThreadNo}
use Rattle.recorder.proofs.recorder.Recorder.ready.Goals as goal

-- ---- what holds once there is room

abbrev book : (c : goal.After-self-2-1) → Book
book c = c.index_mut.result.now

abbrev new : (c : goal.After-self-2-1) → Book
new c = record (book c) { rows = c.reserve-2.new.self }

abbrev all : (c : goal.After-self-2-1) → List Book
all c = c.self.inside.books.items

abbrev before : (c : goal.After-self-2-1) → List (Option Node)
before c = c.self.inside.arena.slots

abbrev after : (c : goal.After-self-2-1) → List (Option Node)
after c = c.reserve.new.self.slots

abbrev now : (c : goal.After-self-2-1) → Recording
now c = record {
  threads = map (ledger_of (after c)) (set (all c) c.in-Some.place (new c));
  spare = c.reserve.new.self.spare;
}

view : (c : goal.After-self-2-1) → c.args.self.now.threads ≡ map (ledger_of (before c)) (all c)
view c = sym (ap (λ (r : Recording). r.threads) c.self.view_is)

is_at : (c : goal.After-self-2-1) → IsAt c.args.self.now c.args.thread c.in-Some.place
is_at c = sym c.place_of.ensures.place ∙ c.in-Some.is

within : (c : goal.After-self-2-1) → c.in-Some.place < length (all c)
within c =
    books.within_books (before c) (all c) c.args.self.now c.in-Some.place (view c)
    (recordings.place_within c.args.self.now c.args.thread c.in-Some.place (is_at c))

is_kept : (c : goal.After-self-2-1) → IsSoundBook (after c) (new c)
is_kept c =
    books.ledger_in_same (before c) (after c) (new c) c.in_ok-reserve.ensures.same
    (books.ledger_with_rows (before c) (book c) c.reserve-2.new.self c.reserve-2.ensures.lines c.reserve-2.ensures.arcs
    (subst (λ (d : Book). IsSoundBook (before c) d) (sym c.index_mut.ensures.value)
    (c.self.invariant.0.each c.in-Some.place (book c) (within c))))

others : (c : goal.After-self-2-1)
    → LeavesOthers (before c) (get_or (all c) c.in-Some.place (book c)).head (after c) (book c).head
others c =
    subst (λ (d : Book). LeavesOthers (before c) d.head (after c) (book c).head) c.index_mut.ensures.value
    (books.leaves_same (before c) (after c) (book c).head c.in_ok-reserve.ensures.same)

updated : (c : goal.After-self-2-1)
    → IsUpdated c.args.self.now (now c) c.args.thread c.in-Some.place (ledger_of (after c) (new c))
updated c =
    books.updated (before c) (after c) c.self.inside.threads.keys (all c) c.self.inside.entered c.in-Some.place (book c)
    (new c) c.self.invariant.0 (within c) (is_kept c) (others c) c.args.self.now (now c) c.args.thread (is_at c)
    (view c)
    refl (ap (λ (d : Book). d.thread) c.index_mut.ensures.value)

was : (c : goal.After-self-2-1) → ledger c.args.self.now c.args.thread ≡ ledger_of (before c) (book c)
was c =
    recordings.ledger_there c.args.self.now c.args.thread c.in-Some.place (is_at c)
    ∙ books.ledger_place (before c) (all c) c.args.self.now c.in-Some.place c.args.thread (book c) (view c) (within c)
    c.index_mut.ensures.value

is : (c : goal.After-self-2-1) → ledger (now c) c.args.thread ≡ ledger_of (after c) (new c)
is c =
    recordings.ledger_is_new c.args.self.now (now c) c.args.thread c.in-Some.place (ledger_of (after c) (new c)) (updated c)

same_accounts : (c : goal.After-self-2-1) → (o : ThreadNo) → account (now c) o ≡ account c.args.self.now o
same_accounts c =
    let same : account_in (after c) (new c) ≡ account_in (before c) (book c)
    = ap (λ s. account_in s (new c)) c.in_ok-reserve.ensures.same
    ∙ ap (λ ls. record (account_in (before c) (new c)) { lines = ls }) c.reserve-2.ensures.lines
    ∙ ap (λ rs. record (account_in (before c) (book c)) { arcs = rs }) c.reserve-2.ensures.arcs in
    recordings.accounts_kept c.args.self.now (now c) c.args.thread c.in-Some.place (ledger_of (after c) (new c))
    (updated c)
    (same ∙ sym (ap (λ (k : Ledger). k.account) (was c)))

-- ---- the answers

pub invariant_of-self-2 : goal.invariant_of-self-2
invariant_of-self-2 c = (
  books.replaced (before c) (after c) c.self.inside.threads.keys (all c) c.self.inside.entered
      c.in-Some.place (book c)
      (new c) c.self.invariant.0 (within c) (is_kept c) (others c)
      (ap (λ (d : Book). d.thread) c.index_mut.ensures.value)
      c.self.inside.entered (omega (arith, ap entered_in c.index_mut.ensures.value)) c.self.invariant.0.few,
  tt,
  marks_stay c.args.self.now (now c) c.self.inside.active.words.items c.self.inside.active.words.items
      (subst (λ (r : Recording). AreMarked r c.self.inside.active.words.items) c.self.view_is c.self.invariant.2)
      (λ o is. is)
      (λ o had. sym (ap (λ a. a.had_event) (same_accounts c o)) ∙ had),
  tt,
)

pub returns-clause-ready : goal.returns-clause-ready
returns-clause-ready c =
    by c.reserve-2.result c.reserve-2.ensures.line_room c.reserve-2.ensures.arc_room (λ lines arcs. record {
      frames = c.in_ok-reserve.ensures.room;
      lines = omega (arith, lines, ap (λ (k : Ledger). k.line_room) (is c));
      arcs = omega (arith, arcs, ap (λ (k : Ledger). k.arc_room) (is c));
    })
  where
    by : {U E : Type 0} (r : Result U E) {L A T : Type 0} → OnOk r L → OnOk r A → (L → A → T) → OnOk r T
    by (Ok u) lines arcs make = make lines arcs
    by (Err e) lines arcs make = tt

pub returns-clause-accounts : goal.returns-clause-accounts
returns-clause-accounts c = same_accounts c

pub returns-clause-known : goal.returns-clause-known
returns-clause-known c =
    recordings.knows_kept c.args.self.now (now c) c.args.thread c.in-Some.place (ledger_of (after c) (new c)) (updated c)

pub returns-clause-kept : goal.returns-clause-kept
returns-clause-kept c =
    recordings.ready_kept c.args.self.now (now c) c.args.thread c.in-Some.place (ledger_of (after c) (new c)) (updated c)
    (omega (arith, c.in_ok-reserve.ensures.kept, ap (λ (r : Recording). r.spare) c.self.view_is))
    (omega (arith, ap (λ (k : Ledger). k.line_room) (was c), c.reserve-2.ensures.line_room_kept))
    (omega (arith, ap (λ (k : Ledger). k.arc_room) (was c), c.reserve-2.ensures.arc_room_kept))

pub returns-clause-live : goal.returns-clause-live
returns-clause-live c =
    books.live_now (after c) c.self.inside.threads.keys (set (all c) c.in-Some.place (new c))
    c.self.inside.entered (now c)
    (invariant_of-self-2 c).0 refl
    ∙ sym (books.live_now (before c) c.self.inside.threads.keys (all c) c.self.inside.entered c.args.self.now
    c.self.invariant.0 (view c))
