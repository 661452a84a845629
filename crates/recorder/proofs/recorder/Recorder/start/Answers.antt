use Rattle.std.proofs.Common.{◌≡◌, ◌++◌, ◌∷◌, [], map, ap, sym, subst, ◌∙◌, arith, List, Option, refl, None}
use Rattle.std.proofs.Common.{Result, Ok, is_ok, if◌then◌else◌}
use Rattle.event_costs.specs.Costs.{no_cost}
use Rattle.event_costs.specs.Keys.{Place}
use Rattle.shadow_stack.specs.Arenas.{LiesIn, StillLies}
use Rattle.shadow_stack.specs.declared.arena.Head.{Head}
use Rattle.shadow_stack.specs.Arenas.{Node}
use Rattle.shadow_stack.specs.declared.frame.Kind.TheVariants.{Root}
use Rattle.shadow_stack.specs.Stacks.{root}
use Rattle.event_costs.specs.declared.numbers.ThreadNo.{ThreadNo}
use Rattle.recorder.specs.Accounts.{Account, Ledger, Recording}
use Rattle.recorder.specs.Notes.{first_account}
use Rattle.recorder.specs.Standing.{StandsFor}
use Rattle.recorder.specs.Bounds.{SumsWithin}
use Rattle.recorder.proofs.BoundLemmas.{within_started}
use Rattle.recorder.specs.inner.Books.{account_in, AreSoundBooks, IsSoundBook, ledger_of}
use Rattle.recorder.specs.declared.book.Book.{Book}
use Rattle.recorder.proofs.LedgerLemmas as books
use Rattle.recorder.proofs.RecordingLemmas as recordings
use Rattle.recorder.proofs.ActiveLemmas.{marked_still}
use Rattle.recorder.proofs.LineLemmas.{true_false}
use Rattle.recorder.specs.inner.Active.{AreMarked}
use Rattle.recorder.proofs.StandingLemmas.{stands_started}
use Rattle.recorder.specs.Entries.{Begins}
use Rattle.recorder.proofs.EntryLaws.{leads}
use Rattle.recorder.proofs.recorder.Recorder.start.Goals as goal

-- a push that succeeds
pushed : {X E : Type 0} (xs now : List X) (x : X) (r : Result (Unit {0}) E) (u : Unit {0}) → r ≡ Ok u
    → now ≡ (if is_ok r then xs ++ x ∷ [] else xs) → now ≡ xs ++ x ∷ []
pushed xs now x r u ok is = is ∙ ap (λ o. if is_ok o then xs ++ x ∷ [] else xs) ok

-- ---- what holds once the book is pushed

abbrev book : (c : goal.After-unwrap) → Book
book c = c.new.result

abbrev before : (c : goal.After-unwrap) → List (Option Node)
before c = c.self.inside.arena.slots

abbrev after : (c : goal.After-unwrap) → List (Option Node)
after c = c.root-head.new.self.slots

abbrev now : (c : goal.After-unwrap) → Recording
now c = record { threads = map (ledger_of (after c)) c.push.new.self.items; spare = c.root-head.new.self.spare }

abbrev begun : (c : goal.After-unwrap) → Ledger
begun c = record { account = first_account c.args.syms.now c.args.thread c.args.pc; line_room = 1; arc_room = 1 }

view : (c : goal.After-unwrap) → c.args.self.now.threads ≡ map (ledger_of (before c)) c.self.inside.books.items
view c = sym (ap (λ (r : Recording). r.threads) c.self.view_is)

items : (c : goal.After-unwrap) → c.push.new.self.items ≡ c.self.inside.books.items ++ book c ∷ []
items c =
    pushed c.reserve-2.new.self.items c.push.new.self.items (book c) c.push.result c.unwrap.result c.unwrap.ensures
    c.push.ensures.items ∙ ap (λ (bs : List Book). bs ++ book c ∷ []) c.in_ok-reserve-2.ensures.items

is_begun : (c : goal.After-unwrap) → account_in (after c) (book c) ≡ first_account c.args.syms.now c.args.thread c.args.pc
is_begun c =
    books.begun c.args.syms.now (before c) (after c) c.args.thread c.args.pc (book c) c.root-head.result
    c.new.ensures.head c.root-head.ensures.lies
    (c.root-head.ensures.frames
    ∙ ap (λ (p : Place). record { func = p.func; from = None; kind = Root; start = no_cost } ∷ [])
    (c.place-2.view_is ∙ c.place.ensures.place))
    c.new.ensures.thread c.new.ensures.total c.new.ensures.lines c.new.ensures.arcs c.new.ensures.had_event

is_kept : (c : goal.After-unwrap) → IsSoundBook (after c) (book c)
is_kept c =
    books.begun_kept c.args.syms.now (after c) c.args.thread c.args.pc (book c) c.root-head.result c.new.ensures.head
    c.root-head.ensures.lies (is_begun c)

others : (c : goal.After-unwrap) → (other : Head) → LiesIn (before c) other
    → StillLies (before c) (after c) (book c).head other
others c =
    books.others_after (before c) c.reserve.new.self.slots (after c) c.root-head.result (book c)
    c.in_ok-reserve.ensures.same c.new.ensures.head c.root-head.ensures.apart

threads_now : (c : goal.After-unwrap) → (now c).threads ≡ c.args.self.now.threads ++ begun c ∷ []
threads_now c =
    let first : ledger_of (after c) (book c) ≡ begun c
    = λ i. record {
      account = is_begun c i;
      line_room = c.new.ensures.line_room i;
      arc_room = c.new.ensures.arc_room i;
    } in
    books.added_updates (before c) (after c) c.self.inside.threads.keys c.self.inside.books.items c.self.inside.entered
    (book c) c.self.invariant.0 (is_kept c) (others c) c.args.self.now (now c) (view c)
    (ap (map (ledger_of (after c))) (items c)) ∙ ap (λ (k : Ledger). c.args.self.now.threads ++ k ∷ []) first

marks : (c : goal.After-unwrap) → AreMarked (now c) c.prepare-3.new.self.words.items
marks c =
    marked_still c.args.self.now (now c) c.self.inside.active.words.items c.prepare-3.new.self.words.items
    (subst (λ (r : Recording). AreMarked r c.self.inside.active.words.items) c.self.view_is c.self.invariant.2)
    c.args.thread (recordings.ledger_older c.args.self.now (now c) c.args.thread (begun c) refl (threads_now c))
    c.prepare-3.ensures
    (λ had. absurd (true_false (sym had ∙ ap (λ (k : Ledger). k.account.had_event)
    (recordings.ledger_newest c.args.self.now (now c) c.args.thread (begun c) c.requires.unknown refl (threads_now c)))))

-- ---- the answers

pub invariant_of-self-2 : goal.invariant_of-self-2
invariant_of-self-2 c =
    let all = c.self.inside.books.items in
    let keys : c.insert.new.self.keys ≡ c.self.inside.threads.keys ++ (book c).thread ∷ []
    = books.key_added (before c) all c.self.inside.threads.keys c.insert.new.self.keys c.args.thread c.args.self.now
    c.self.invariant.0.threads (view c) c.requires.unknown c.in_ok-insert.ensures.keys
    ∙ ap (λ (t : ThreadNo). c.self.inside.threads.keys ++ t ∷ []) (sym c.new.ensures.thread) in (
      subst (λ (ts : List ThreadNo). AreSoundBooks (after c) ts c.push.new.self.items c.self.inside.entered) (sym keys)
          (subst
          (λ (bs : List Book). AreSoundBooks (after c) (c.self.inside.threads.keys ++ (book c).thread ∷ []) bs
          c.self.inside.entered)
          (sym (items c))
          (books.added (before c) (after c) c.self.inside.threads.keys all c.self.inside.entered (book c)
          c.self.invariant.0 (is_kept c) (others c)
          (omega (arith, ap (λ h. h.depth) c.new.ensures.head, c.root-head.ensures.depth)))),
      tt,
      marks c,
      tt,
    )

pub returns-clause-threads : goal.returns-clause-threads
returns-clause-threads c = threads_now c

pub returns-clause-account : goal.returns-clause-account
returns-clause-account c =
    ap (λ (k : Ledger). k.account)
    (recordings.ledger_newest c.args.self.now (now c) c.args.thread (begun c) c.requires.unknown refl
    (returns-clause-threads c))

pub returns-clause-others : goal.returns-clause-others
returns-clause-others c =
    recordings.ledger_older c.args.self.now (now c) c.args.thread (begun c) refl (returns-clause-threads c)

pub returns-clause-known : goal.returns-clause-known
returns-clause-known c =
    recordings.knows_newest c.args.self.now (now c) c.args.thread (begun c) refl (returns-clause-threads c)

pub returns-clause-stands : goal.returns-clause-stands
returns-clause-stands c =
    subst (λ (a : Account). StandsFor c.args.syms.now (root c.args.syms.now c.args.pc) [] [] a)
    (sym (returns-clause-account c)) (stands_started c.args.syms.now c.args.thread c.args.pc)

pub returns-clause-bounds : goal.returns-clause-bounds
returns-clause-bounds c =
    subst (λ (a : Account). SumsWithin 0 a) (sym (returns-clause-account c))
    (within_started c.args.syms.now c.args.thread c.args.pc)

pub returns-clause-entry : goal.returns-clause-entry
returns-clause-entry c =
    leads c.args.syms.now (Begins c.args.thread c.args.pc) c.args.self.now (now c) (returns-clause-account c)
    (returns-clause-others c)
