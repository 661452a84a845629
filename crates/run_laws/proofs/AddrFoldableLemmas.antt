-- The rows by address of a run can be folded, and the plain rows are their sums.
use Rattle.std.proofs.Common.{◌≡◌, ◌≢◌, ◌⊎◌, inl, inr, ℕ, ◌<◌, ◌^◌, ◌==◌, ◌∙◌, Bool, true, false, List, [], ◌∷◌, ◌++◌}
use Rattle.std.proofs.Common.{refl, sym, subst, ap, append_assoc, arith, if◌then◌else◌, map}
use Rattle.std.specs.List.{AllByRecursion}
use Rattle.std.proofs.lemmas.Bool.Decides.{eqb_tells}
use Rattle.std.proofs.lemmas.List.{append-nil}
use Rattle.event_costs.specs.Runs.{Run}
use Rattle.arc_costs.specs.Contents.{Listed}
use Rattle.sym_map.specs.SymbolMap.{SymbolMap}
use Rattle.shadow_stack.specs.Changes.{after}
use Rattle.shadow_stack.specs.Traces.{EventOnStack, stack_of}
use Rattle.guest_sched.specs.Machine.{Machine, next}
use Rattle.guest_sched.specs.Step.{MachineStep}
use Rattle.run_laws.proofs.Others.{Holds, holds_first, holds_next, events-push, own-other, stack-push, address_code}
use Rattle.run_laws.proofs.Others.{alike_root}
use Rattle.part_dump.specs.Steps.{Step, event_of, steps_of_thread, events_of_thread, events_on_stack_of, stack_at, thread_of, IsPiece}
use Rattle.recorder.specs.Rows.{rows_of}
use Rattle.sym_map.specs.AddressMap.{address_map}
use Rattle.addr_rows.specs.Plain.{plain}
use Rattle.addr_rows.specs.Rows.{AddrListed}
use Rattle.addr_rows.specs.Stacked.{with_stacks_of, with_stack_of}
use Rattle.profile_run.specs.Program.{Program, CanRun}
use Rattle.profile_run.specs.Steps.{AreTold}
use Rattle.profile_run.specs.Trace.{Makes, RunStep, steps_of}
use Rattle.run_laws.proofs.Others.{HaveSums}
use Rattle.ctx_rows.specs.Folding.{AreSumsOf}
use Rattle.once_each.specs.Runs.{AreOrderlyAfter}
use Rattle.run_laws.proofs.EventLemmas as run_events
use Rattle.ctx_rows.specs.Since.{StandsOn}
use Rattle.addr_rows.specs.Files.{addr_rows_in}
use Rattle.addr_rows.proofs.FoldLemmas.{AllLocated, AreLocated, IsLocated, folded_are, located_after, located_sums}
use Rattle.run_laws.proofs.AnswerLemmas.{all_on, order_of}
use Rattle.run_laws.proofs.PieceLemmas as piece_of_run
use Rattle.run_laws.proofs.WatchedLemmas.{orderly_split}
use Rattle.run_laws.specs.Addresses.{MayBeFolded}

all_split : {X : Type 0} (P : X → Type 0) (xs ys : List X) → AllByRecursion P (xs ++ ys)
    → AllByRecursion P xs × AllByRecursion P ys
all_split P [] ys all = (tt, all)
all_split P (x ∷ xs) ys all = let rest = all_split P xs ys all.1 in ((all.0, rest.0), rest.1)

-- ---- the pcs of a run

module _ (guest : Program) (can : CanRun guest) where
  pcs_from : (earlier tolds : List MachineStep) (m n : Machine) (before past : List RunStep)
      → Holds (run_events.first guest can) earlier m → Run next m tolds n → AreTold guest before tolds past
      → AllByRecursion (λ (x : Step). x.on_stack.event.done.pc < 2 ^ 32) (steps_of past)
  pcs_from earlier [] m n before [] holds run are = tt
  pcs_from earlier [] m n before (x ∷ past) holds run are = absurd are
  pcs_from earlier (t ∷ ts) m n before [] holds run are = tt
  pcs_from earlier (t ∷ ts) m n before (x ∷ past) holds run are =
      let step = holds_next (run_events.first guest can) earlier m t run.0 holds run.1 in
      let within = step.1.within.0 in (
        subst (λ (y : RunStep). y.step.on_stack.event.done.pc < 2 ^ 32) (sym are.0.is) (omega (arith, within)),
        pcs_from (earlier ++ t ∷ []) ts run.0 n (before ++ x ∷ []) past step.0 run.2 are.1,
      )

  pub pcs_small : (past : List RunStep) → Makes guest past
      → AllByRecursion (λ (x : Step). x.on_stack.event.done.pc < 2 ^ 32) (steps_of past)
  pcs_small past makes =
      let machine = run_events.machine guest can past makes in
      let reached = run_events.reached guest can past makes in
      pcs_from [] machine.tolds _ machine.last [] past
      (holds_first (run_events.first guest can) guest.options.quantum guest.options.seed reached.lawful) machine.run
      machine.are

-- ---- stacks by the map of addresses, step by step

abbrev pub IsSmallStep : Step → Type 0
IsSmallStep x = x.on_stack.event.done.pc < 2 ^ 32

module _ (m : SymbolMap) where
  abbrev am : SymbolMap
  am = address_map m

  -- After these steps each thread's stack by the map of addresses is that by the map itself, but for its arcs' lines.
  abbrev AllAt : List Step → Type 0
  AllAt earlier = (t pc : ℕ) → AreLocated m (stack_at am earlier t pc) (stack_at m earlier t pc)

  all_begun : AllAt []
  all_begun t pc = record { alike = alike_root m am (address_code m) pc; arcs = refl }

  -- what is known of steps
  abbrev AreGood : List Step → List Step → Type 0
  AreGood earlier xs =
      AreOrderlyAfter m earlier xs × AllByRecursion (λ (x : Step). StandsOn m x.on_stack) xs × AllByRecursion IsSmallStep xs

  module _ (earlier : List Step) (x : Step)
      (stack : x.on_stack.stack ≡ stack_at m earlier (thread_of x) (event_of x).done.pc) (on : StandsOn m x.on_stack)
      (small : IsSmallStep x) (all : AllAt earlier) where
    here : AreLocated m (stack_at am earlier (thread_of x) (event_of x).done.pc) x.on_stack.stack
    here = subst (AreLocated m (stack_at am earlier (thread_of x) (event_of x).done.pc)) (sym stack)
        (all (thread_of x) (event_of x).done.pc)

    next_stack : (syms : SymbolMap) (t pc : ℕ) → thread_of x ≡ t
        → stack_at syms (earlier ++ x ∷ []) t pc
        ≡ after syms (stack_at syms earlier (thread_of x) (event_of x).done.pc) (event_of x)
    next_stack syms t pc is =
        ap (λ es. stack_of syms es pc) (events-push t earlier x is)
        ∙ stack-push syms (events_of_thread t earlier) (event_of x) pc
        ∙ ap (λ u. after syms (stack_at syms earlier u (event_of x).done.pc) (event_of x)) (sym is)

    all_more : AllAt (earlier ++ x ∷ [])
    all_more t pc = by (eqb_tells (thread_of x) t)
      where
        by : (((thread_of x == t) ≡ true) × (thread_of x ≡ t)) ⊎ (((thread_of x == t) ≡ false) × (thread_of x ≢ t))
            → AreLocated m (stack_at am (earlier ++ x ∷ []) t pc) (stack_at m (earlier ++ x ∷ []) t pc)
        by (inl same) =
            subst (AreLocated m (stack_at am (earlier ++ x ∷ []) t pc))
            (ap (λ s. after m s (event_of x)) stack ∙ sym (next_stack m t pc same.1))
            (subst (λ s. AreLocated m s (after m x.on_stack.stack (event_of x))) (sym (next_stack am t pc same.1))
            (located_after m (event_of x) small (stack_at am earlier (thread_of x) (event_of x).done.pc) x.on_stack.stack
            here))
        by (inr apart) =
            let still = sym (own-other t earlier x apart.1) in
            subst (λ (ys : List Step). AreLocated m (stack_of am (map event_of ys) pc) (stack_of m (map event_of ys) pc))
            still (all t pc)

    located : IsLocated m (with_stack_of am earlier x).on_stack x.on_stack
    located = record { event = refl; cost = refl; stack = here; whole = on.whole; small = small }

  all_later : (earlier xs : List Step) → AreGood earlier xs → AllAt earlier → AllAt (earlier ++ xs)
  all_later earlier [] good all = λ t pc.
      subst (λ (ys : List Step). AreLocated m (stack_at am ys t pc) (stack_at m ys t pc)) (sym (append-nil earlier))
      (all t pc)
  all_later earlier (x ∷ xs) good all =
      subst AllAt (append_assoc earlier (x ∷ []) xs)
      (all_later (earlier ++ x ∷ []) xs (good.0.1, good.1.1, good.2.1)
      (all_more earlier x good.0.0.stack good.1.0 good.2.0 all))

  -- the events of a thread
  own_located : (thread : ℕ) (earlier xs : List Step) → AreGood earlier xs → AllAt earlier
      → AllLocated m (events_on_stack_of thread (with_stacks_of am earlier xs)) (events_on_stack_of thread xs)
  own_located thread earlier [] good all = tt
  own_located thread earlier (x ∷ xs) good all =
      by (thread_of x == thread)
      (own_located thread (earlier ++ x ∷ []) xs (good.0.1, good.1.1, good.2.1)
      (all_more earlier x good.0.0.stack good.1.0 good.2.0 all))
    where
      later : List Step
      later = steps_of_thread thread (with_stacks_of am (earlier ++ x ∷ []) xs)

      by : (b : Bool) → AllLocated m (map (λ (y : Step). y.on_stack) later) (events_on_stack_of thread xs)
          → AllLocated m (map (λ (y : Step). y.on_stack) (if b then with_stack_of am earlier x ∷ later else later))
          (map (λ (y : Step). y.on_stack) (if b then x ∷ steps_of_thread thread xs else steps_of_thread thread xs))
      by true rest =
          (located earlier x good.0.0.stack good.1.0 good.2.0 all, rest)
      by false rest = rest

-- ---- the rows of a thread in a piece of a run

module _ (guest : Program) (past : List RunStep) (thread : ℕ) (segment : List Step) (can : CanRun guest)
    (makes : Makes guest past) (piece : IsPiece (steps_of past) segment) where
  abbrev events : List EventOnStack
  events = events_on_stack_of thread segment

  -- those by the map of addresses
  abbrev fine : List EventOnStack
  fine = events_on_stack_of thread (with_stacks_of (address_map guest.syms) piece.before segment)

  abbrev by_address : AddrListed
  by_address = addr_rows_in guest.syms thread piece.before segment

  pub of_run : (P : Step → Type 0) → AllByRecursion P (steps_of past)
      → AllByRecursion P piece.before × AllByRecursion P segment
  of_run P all =
      let parts = all_split P piece.before (segment ++ piece.after) (subst (AllByRecursion P) (sym piece.whole) all) in
      (parts.0, (all_split P segment piece.after parts.1).0)

  located_all : AllLocated guest.syms fine events
  located_all =
      let order = orderly_split guest.syms [] piece.before (segment ++ piece.after)
      (subst (AreOrderlyAfter guest.syms []) (sym piece.whole) (order_of guest can past makes)) in
      let on = of_run (λ (x : Step). StandsOn guest.syms x.on_stack)
      (all_on guest can (steps_of past) (order_of guest can past makes)) in
      let small = of_run IsSmallStep (pcs_small guest can past makes) in
      own_located guest.syms thread piece.before segment
      ((orderly_split guest.syms piece.before segment piece.after order.1).0, on.1, small.1)
      (all_later guest.syms [] piece.before (order.0, on.0, small.0) (all_begun guest.syms))

  sums : HaveSums guest.syms events (plain by_address)
  sums = located_sums guest.syms fine events located_all

  pub may_fold : MayBeFolded by_address
  may_fold = record {
    lines = piece_of_run.lines_within guest past thread segment can makes piece (plain by_address) sums;
    arcs = piece_of_run.arcs_within guest past thread segment can makes piece (plain by_address) sums;
    calls = piece_of_run.calls_within guest past thread segment can makes piece (plain by_address) sums;
  }

  pub plain_sums : AreSumsOf (plain by_address) (rows_of guest.syms events)
  plain_sums = piece_of_run.sums_of guest past thread segment can makes piece (plain by_address) sums

  pub folds_back : (rows : Listed) → AreSumsOf (plain by_address) rows → rows ≡ rows_of guest.syms events
  folds_back rows are = folded_are guest.syms fine events located_all rows are
