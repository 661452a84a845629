use Rattle.std.proofs.Common.{◌≡◌, ℕ, ◌+◌, ◌<◌, ◌≤◌, map, set, get_or, ap, sym, subst}
use Rattle.std.proofs.Common.{◌∙◌, arith, List, Option, Some, refl, length, true, false}
use Rattle.std.proofs.Common.{if◌then◌else◌}
use Rattle.sym_map.specs.SymbolMap.{place_of}
use Rattle.event_costs.specs.declared.numbers.ThreadNo.{ThreadNo}
use Rattle.shadow_stack.specs.Arenas.{frames, LeavesOthers}
use Rattle.shadow_stack.specs.Arenas.{Node}
use Rattle.shadow_stack.specs.Frames.{count_pushed, pushed_activation, stack}
use Rattle.shadow_stack.specs.Stacks.{top_of}
use Rattle.arc_costs.specs.Lines.{has_line}
use Rattle.recorder.specs.Accounts.{Account, IsReady, Ledger, live, Recording}
use Rattle.recorder.specs.Notes.{account_after_note}
use Rattle.recorder.specs.inner.Books.{account_in, Adds, entered_in, ledger_of}
use Rattle.recorder.specs.inner.Places.{IsReadyAt, IsRemembered, ledger_at}
use Rattle.recorder.specs.declared.book.Book.{Book}
use Rattle.recorder.proofs.LedgerLemmas as books
use Rattle.recorder.proofs.ActiveLemmas.{marked_after, ready_marked}
use Rattle.recorder.specs.inner.Active.{AreMarked, IsMarkedReady, may_have}
use Rattle.recorder.proofs.ReadyLemmas.{known_at, one_element, remembered_after}
use Rattle.std.proofs.lemmas.Option.{IfSome_then}
use Rattle.recorder.specs.declared.recorder.ReadyThread.{ReadyThread}
use Rattle.recorder.proofs.RecordingLemmas as recordings
use Rattle.recorder.proofs.RecordingLemmas.{IsUpdated}
use Rattle.recorder.proofs.Others.{none_pushed}
use Rattle.recorder.proofs.recorder.Recorder.note_at.Given
use Rattle.recorder.proofs.recorder.Recorder.note_at.Goals as goal

-- ---- what holds once the event is noted

abbrev book : (g : Given.Over) (c : goal.After-keep_where g) → Book
book g c = c.index_mut-book.result.now

abbrev new : (g : Given.Over) (c : goal.After-keep_where g) → Book
new g c = c.note-noted.new.self

abbrev all : (g : Given.Over) (c : goal.After-keep_where g) → List Book
all g c = c.self.inside.books.items

abbrev before : (g : Given.Over) (c : goal.After-keep_where g) → List (Option Node)
before g c = c.self.inside.arena.slots

abbrev after : (g : Given.Over) (c : goal.After-keep_where g) → List (Option Node)
after g c = c.note-noted.new.arena.slots

abbrev now : (g : Given.Over) (c : goal.After-keep_where g) → Recording
now g c = record {
  threads = map (ledger_of (after g c)) (set (all g c) c.args.place (new g c));
  spare = c.note-noted.new.arena.spare;
}

abbrev cost : (g : Given.Over) (c : goal.After-keep_where g) → List ℕ
cost g c = g.C.EventCost.numbers c.args.cost.now

view : (g : Given.Over) (c : goal.After-keep_where g) → c.args.self.now.threads ≡ map (ledger_of (before g c)) (all g c)
view g c = sym (ap (λ (r : Recording). r.threads) c.self.view_is)

within : (g : Given.Over) (c : goal.After-keep_where g) → c.args.place < length (all g c)
within g c = books.within_books (before g c) (all g c) c.args.self.now c.args.place (view g c) c.requires.within

others : (g : Given.Over) (c : goal.After-keep_where g)
    → LeavesOthers (before g c) (get_or (all g c) c.args.place (book g c)).head (after g c) (new g c).head
others g c =
    subst (λ (d : Book). LeavesOthers (before g c) d.head (after g c) (new g c).head) c.index_mut-book.ensures.value
    c.note-noted.ensures.others

-- the live frames of all books, and of this one
count : (g : Given.Over) (c : goal.After-keep_where g) → live c.args.self.now ≡ c.self.inside.entered
count g c =
    books.live_now (before g c) c.self.inside.threads.keys (all g c) c.self.inside.entered c.args.self.now
    c.self.invariant.0 (view g c)

one : (g : Given.Over) (c : goal.After-keep_where g)
    → entered_in (get_or (all g c) c.args.place (book g c)) ≤ c.self.inside.entered
one g c =
    books.live_of_one (before g c) c.self.inside.threads.keys (all g c) c.self.inside.entered c.args.place (book g c)
    c.self.invariant.0 (within g c)

was : (g : Given.Over) (c : goal.After-keep_where g)
    → ledger_at c.args.self.now c.args.place c.args.event.now.thread ≡ ledger_of (before g c) (book g c)
was g c =
    books.ledger_place (before g c) (all g c) c.args.self.now c.args.place c.args.event.now.thread (book g c) (view g c)
    (within g c) c.index_mut-book.ensures.value

is : (g : Given.Over) (c : goal.After-keep_where g)
    → ledger_at (now g c) c.args.place c.args.event.now.thread ≡ ledger_of (after g c) (new g c)
is g c =
    books.ledger_place (after g c) (set (all g c) c.args.place (new g c)) (now g c) c.args.place c.args.event.now.thread
    (new g c) refl (books.now_within (all g c) c.args.place (new g c) (within g c))
    (books.now_at (all g c) c.args.place (new g c) (within g c))

same_thread : (g : Given.Over) (c : goal.After-keep_where g)
    → (new g c).thread ≡ (get_or (all g c) c.args.place (book g c)).thread
same_thread g c =
    ap (λ (a : Account). a.thread) c.note-noted.ensures.account
    ∙ ap (λ (d : Book). d.thread) c.index_mut-book.ensures.value

-- ---- what is remembered

ledger_is_new : (g : Given.Over) (c : goal.After-keep_where g) → IsUpdated c.args.self.now (now g c) c.args.event.now.thread
    c.args.place (ledger_of (after g c) (new g c))
ledger_is_new g c =
    books.updated (before g c) (after g c) c.self.inside.threads.keys (all g c) c.self.inside.entered c.args.place
    (book g c) (new g c) c.self.invariant.0 (within g c) c.note-noted.ensures.kept (others g c) c.args.self.now
    (now g c) c.args.event.now.thread c.requires.at (view g c) refl (same_thread g c)

same_book : (g : Given.Over) (c : goal.After-keep_where g) → c.index.result.now ≡ book g c
same_book g c =
    c.index.ensures ∙ one_element (all g c) c.args.place c.index.result.now (book g c) (within g c)
    ∙ sym c.index_mut-book.ensures.value

-- an event that is plain uses no room
plain_ready : (g : Given.Over) (c : goal.After-keep_where g) → c.is_plain-plain.result ≡ true → (other : ThreadNo)
    → IsReady c.args.self.now other → IsReady (now g c) other
plain_ready g c plain =
    let syms = c.args.syms.now in
    let event = c.args.event.now in
    let here = recordings.ledger_there c.args.self.now event.thread c.args.place c.requires.at ∙ was g c in
    let top =
    subst (λ (k : Ledger). top_of (stack k.account.frames) ≡ Some (place_of syms event.done.pc).func) (was g c)
    c.requires.can.top in
    let none : count_pushed (pushed_activation syms event (frames (before g c) (book g c).head)) ≡ 0
    = ap count_pushed (none_pushed syms event (frames (before g c) (book g c).head)
    (c.is_plain-plain.ensures.stays plain (stack (frames (before g c) (book g c).head)) top)) in
    let same = same_book g c in
    let line : has_line (place_of syms event.done.pc) (book g c).rows.lines ≡ true
    = subst (λ (d : Book). has_line (place_of syms event.done.pc) d.rows.lines ≡ true) same
    (c.is_plain-plain.ensures.known plain) in
    recordings.ready_kept c.args.self.now (now g c) event.thread c.args.place (ledger_of (after g c) (new g c))
    (ledger_is_new g c)
    (omega (arith, c.note-noted.ensures.room, none, ap (λ (r : Recording). r.spare) c.self.view_is))
    (omega (
      arith,
      recordings.known_room (has_line (place_of syms event.done.pc) (book g c).rows.lines) (new g c).rows.line_room
          (book g c).rows.line_room line c.note-noted.ensures.line_room,
      ap (λ (k : Ledger). k.line_room) here,
    ))
    (omega (arith, c.note-noted.ensures.arc_room, none, ap (λ (k : Ledger). k.arc_room) here))

new_book : (g : Given.Over) (c : goal.After-keep_where g) → c.index-2.result.now ≡ new g c
new_book g c =
    let books_ = set (all g c) c.args.place (new g c) in
    c.index-2.ensures ∙ one_element books_ c.args.place c.index-2.result.now (new g c)
    (books.now_within (all g c) c.args.place (new g c) (within g c))
    ∙ sym (books.now_at (all g c) c.args.place (new g c) (within g c))

-- another event leaves its thread remembered only where there is room
own_ready : (g : Given.Over) (c : goal.After-keep_where g) → c.is_plain-plain.result ≡ false
    → IsRemembered (now g c) c.keep_where.new.ready
own_ready g c not_plain =
    let t = c.args.event.now.thread in
    let r = c.args.self.now in
    let place = c.args.place in
    let ledger = ledger_of (after g c) (new g c) in
    let here = recordings.ledger_is_new r (now g c) t place ledger (ledger_is_new g c) in
    IfSome_then c.keep_where.new.ready (c.keep_where.ensures.again not_plain)
    (λ it room.
    subst (IsReadyAt (now g c)) (sym room.0)
    (record {
      at = recordings.places_kept r (now g c) t place ledger (ledger_is_new g c) t ∙ c.requires.at;
      is_known = recordings.knows_kept r (now g c) t place ledger (ledger_is_new g c) t ∙ known_at r t place c.requires.at;
      ready = record {
        frames = room.1;
        lines = subst (λ (k : Ledger). 1 ≤ k.line_room) (sym here)
            (subst (λ (b : Book). 1 ≤ b.rows.line_room) (new_book g c) room.2);
        arcs = subst (λ (k : Ledger). 1 ≤ k.arc_room) (sym here)
            (subst (λ (b : Book). 1 ≤ b.rows.arc_room) (new_book g c) room.3);
      };
    }))

remembered : (g : Given.Over) (c : goal.After-keep_where g) → IsRemembered (now g c) c.keep_where.new.ready
remembered g c =
    remembered_after c.args.self.now (now g c) c.is_plain-plain.result c.self.inside.ready c.keep_where.new.ready
    c.keep_where.ensures.kept
    (recordings.places_kept c.args.self.now (now g c) c.args.event.now.thread c.args.place
    (ledger_of (after g c) (new g c)) (ledger_is_new g c))
    (recordings.knows_kept c.args.self.now (now g c) c.args.event.now.thread c.args.place
    (ledger_of (after g c) (new g c)) (ledger_is_new g c))
    (plain_ready g c)
    (own_ready g c)
    (subst (λ (r : Recording). IsRemembered r c.self.inside.ready) c.self.view_is c.self.invariant.1)

-- ---- what is marked

marked : (g : Given.Over) (c : goal.After-keep_where g) → AreMarked (now g c) c.mark_other.new.active.words.items
marked g c =
    let t = c.args.event.now.thread in
    marked_after c.args.self.now (now g c) c.self.inside.active.words.items c.mark_other.new.active.words.items
    (subst (λ (r : Recording). AreMarked r c.self.inside.active.words.items) c.self.view_is c.self.invariant.2)
    t (recordings.others_kept c.args.self.now (now g c) t c.args.place (ledger_of (after g c) (new g c)) (ledger_is_new g c))
    c.mark_other.ensures.others c.mark_other.ensures.own

-- what is remembered stays marked
marked_ready : (g : Given.Over) (c : goal.After-keep_where g)
    → IsMarkedReady c.keep_where.new.ready c.mark_other.new.active.words.items
marked_ready g c =
    ready_marked c.is_plain-plain.result c.self.inside.ready c.keep_where.new.ready c.self.inside.active.words.items
    c.mark_other.new.active.words.items c.keep_where.ensures.kept c.mark_other.ensures.others
    (λ not_plain. IfSome_then c.keep_where.new.ready (c.keep_where.ensures.again not_plain)
    (λ it room. subst (λ (t : ReadyThread). may_have c.mark_other.new.active.words.items t.thread ≡ true) (sym room.0)
    c.mark_other.ensures.own))
    c.self.invariant.3

-- ---- the answers

pub invariant_of-self : goal.invariant_of-self
invariant_of-self g c =
    let entered = ap entered_in c.index_mut-book.ensures.value in (
      books.replaced (before g c) (after g c) c.self.inside.threads.keys (all g c) c.self.inside.entered c.args.place
          (book g c) (new g c) c.self.invariant.0 (within g c) c.note-noted.ensures.kept (others g c) (same_thread g c)
          c.note-noted.new.live
          (omega (arith, one g c, entered, c.note-noted.ensures.live))
          (omega (
            arith,
            one g c,
            entered,
            c.note-noted.ensures.live,
            c.note-noted.ensures.entered,
            count g c,
            c.requires.few,
          )),
      remembered g c,
      marked g c,
      marked_ready g c,
    )

pub note-noted-requires-clause-counted : goal.note-noted-requires-clause-counted
note-noted-requires-clause-counted g c =
    let slots = c.self.inside.arena.slots in
    let all = c.self.inside.books.items in
    let b = c.index_mut-book.result.now in
    let view = sym (ap (λ (r : Recording). r.threads) c.self.view_is) in
    let within = books.within_books slots all c.args.self.now c.args.place view c.requires.within in
    let one =
    books.live_of_one slots c.self.inside.threads.keys all c.self.inside.entered c.args.place b
    c.self.invariant.0 within in
    omega (arith, one, ap entered_in c.index_mut-book.ensures.value)

pub note-noted-requires-clause-few : goal.note-noted-requires-clause-few
note-noted-requires-clause-few g c = omega (arith, c.self.invariant.0.few)

pub returns-clause-threads : goal.returns-clause-threads
returns-clause-threads g c =
    books.replaced_view (before g c) (after g c) c.self.inside.threads.keys (all g c) c.self.inside.entered c.args.place
    (book g c) (new g c) c.self.invariant.0 (within g c) c.note-noted.ensures.kept (others g c)
    ∙ ap (λ (ks : List Ledger). set ks c.args.place (ledger_of (after g c) (new g c))) (sym (view g c))
    ∙ ap (λ (k : Ledger). set c.args.self.now.threads c.args.place k) (sym (is g c))

pub returns-clause-account : goal.returns-clause-account
returns-clause-account g c =
    ap (λ (k : Ledger). k.account) (is g c) ∙ c.note-noted.ensures.account
    ∙ ap (λ (k : Ledger). account_after_note c.args.syms.now c.args.event.now (cost g c) k.account) (sym (was g c))

pub returns-clause-adds : goal.returns-clause-adds
returns-clause-adds g c =
    subst (λ (k : Ledger). Adds c.args.syms.now c.args.event.now (cost g c) k.account
    (ledger_at (now g c) c.args.place c.args.event.now.thread).account) (sym (was g c))
    (subst (λ (k : Ledger). Adds c.args.syms.now c.args.event.now (cost g c)
    (account_in (before g c) (book g c)) k.account) (sym (is g c)) c.note-noted.ensures.adds)

pub returns-clause-line_room : goal.returns-clause-line_room
returns-clause-line_room g c =
    ap (λ (k : Ledger). k.line_room
    + (if has_line (place_of c.args.syms.now c.args.event.now.done.pc)
    (ledger_at c.args.self.now c.args.place c.args.event.now.thread).account.lines then 0 else 1)) (is g c)
    ∙ ap (λ (k : Ledger). (new g c).rows.line_room
    + (if has_line (place_of c.args.syms.now c.args.event.now.done.pc) k.account.lines then 0 else 1)) (was g c)
    ∙ c.note-noted.ensures.line_room ∙ ap (λ (k : Ledger). k.line_room) (sym (was g c))

pub returns-clause-arc_room : goal.returns-clause-arc_room
returns-clause-arc_room g c =
    omega (
      arith,
      c.note-noted.ensures.arc_room,
      ap (λ (k : Ledger). k.arc_room) (is g c),
      ap (λ (k : Ledger). k.arc_room) (was g c),
      ap (λ (k : Ledger). count_pushed (pushed_activation c.args.syms.now c.args.event.now k.account.frames)) (was g c),
    )

pub returns-clause-shallow : goal.returns-clause-shallow
returns-clause-shallow g c =
    let entered = ap entered_in c.index_mut-book.ensures.value in
    let deep =
    books.depth_of_one (before g c) (all g c) c.args.place (book g c) (c.self.invariant.0.each) (within g c)
    c.index_mut-book.ensures.value in
    omega (
      arith,
      one g c,
      entered,
      count g c,
      deep,
      c.requires.few,
      ap (λ (k : Ledger). length k.account.frames) (was g c),
    )
