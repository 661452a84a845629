-- A step is counted.
use Rattle.std.proofs.Common.{◌≡◌, ◌≢◌, ℕ, zero, suc, ◌+◌, ◌^◌, ◌<◌, ◌≤◌, ◌||◌, Bool, true, List, [], ◌∷◌, ◌++◌}
use Rattle.std.proofs.Common.{length, map, All, take, Option, Some, refl, ap, sym, subst, ◌∙◌, append_assoc, arith, ◌⊎◌}
use Rattle.std.proofs.Common.{inl, inr}
use Rattle.std.specs.Prelude.{option_map}
use Rattle.std.specs.List.{list_any}
use Rattle.std.proofs.lemmas.Bool.Decides.{eqb_tells}
use Rattle.std.proofs.lemmas.List.{length-map, map-append}
use Rattle.std.proofs.lemmas.List.Folds.{fold-map}
use Rattle.event_costs.specs.Costs.{IsWhole, sum_of_costs}
use Rattle.event_costs.specs.Runs.{Run}
use Rattle.profile_run.proofs.Others.{Run-push, Holds, goes_where, holds_next, holds_reached, next_is, events-push}
use Rattle.profile_run.proofs.Others.{length-push, own-other, own-push, stack-push, live_push, last-push}
use Rattle.profile_run.proofs.Others.{steps-append, watched_more, from_append}
use Rattle.event_costs.specs.declared.event.Event.{Event}
use Rattle.event_costs.specs.declared.event.Touch.{Touch}
use Rattle.event_costs.specs.declared.event.Touch.TheVariants as touch
use Rattle.event_costs.specs.declared.numbers.FuncId.{FuncId}
use Rattle.event_costs.specs.declared.numbers.ThreadNo.{ThreadNo}
use Rattle.event_costs.specs.declared.outcome.Noted.{Noted}
use Rattle.event_costs.specs.FuncSet.{is_among}
use Rattle.cache_lru.specs.Costs.{CanRefer, RunCosts, Shapes, StandForRun, event_cost}
use Rattle.arc_costs.specs.Lines.{has_line}
use Rattle.arc_costs.specs.Contents.{Listed}
use Rattle.rv_step.specs.Promises.{IsWithin}
use Rattle.guest_load.specs.First.{guest_at_start}
use Rattle.guest_load.specs.Guest.{Guest}
use Rattle.sym_map.specs.SymbolMap.{SymbolMap, place_of}
use Rattle.shadow_stack.specs.Changes.{change, drop_count}
use Rattle.shadow_stack.specs.Frames.{activation, stack}
use Rattle.shadow_stack.specs.Stacks.{top_of}
use Rattle.shadow_stack.specs.Traces.{stack_of}
use Rattle.shadow_stack.specs.declared.frame.Frame.{Frame}
use Rattle.shadow_stack.proofs.StayLemmas.{Stays, none_pushed, same_frames}
use Rattle.recorder.proofs.StayLemmas.{nothing_noted}
use Rattle.cg_format.specs.declared.head.PartHead.{PartHead}
use Rattle.guest_sched.proofs.RunLemmas.{made_push}
use Rattle.guest_sched.specs.Laws.{InOrder, IsReached}
use Rattle.guest_sched.specs.Machine.{Machine, new_machine, next}
use Rattle.guest_sched.specs.Step.{MachineStep}
use Rattle.part_dump.specs.Calls.{Call, Readies, Sees, step_calls}
use Rattle.part_dump.specs.Cuts.{cuts}
use Rattle.part_dump.specs.Rules.{IsNotedOf}
use Rattle.part_dump.specs.Steps.{Step, event_of, frames_in, live, steps_of_thread, events_of_thread, stack_at, thread_of}
use Rattle.part_dump.specs.Watched.{Fits, Follows, IsOrderly, last_of, AreWatched, steps_in}
use Rattle.part_dump.specs.Watching.{Can, Meaning, after_call, after_calls}
use Rattle.recorder.specs.Accounts.{Account, IsReady, Recording, account, knows, live_in}
use Rattle.recorder.specs.Accounts as books
use Rattle.recorder.specs.Laws.{IsIn}
use Rattle.recorder.specs.Notes.{CanNote, NeedsNoRoom, account_after_note, noted_answer}
use Rattle.recorder.proofs.BoundLemmas as noting
use Rattle.recorder.proofs.TopLaws.{top_follows}
use Rattle.profile_run.specs.Program.{Program}
use Rattle.profile_run.specs.Parts.{calls_so_far}
use Rattle.profile_run.specs.Trace.{RunStep, events_of, next_step, start, steps_of, run_step}
use Rattle.profile_run.specs.inner.Standing.{AreAccounts, HasBegun, HasStack, HaveStepped, IsAfter, IsCounted, IsMade}
use Rattle.profile_run.specs.inner.Standing.{IsNote, OnlyAdds, IsWatched, machine_step_of}
use Rattle.profile_run.proofs.AccountLemmas.{accounts_counted}
use Rattle.profile_run.proofs.CallLemmas.{after-append}
use Rattle.profile_run.proofs.ToldLemmas.{follows, waits_is}
use Rattle.profile_run.proofs.TraceLemmas.{going-step}

can_refer : (t : Touch) → IsWithin t → CanRefer t
can_refer touch.Nothing within = tt
can_refer (touch.Read a n) within = within
can_refer (touch.Write a n) within = within

-- the frames of a stack that are no roots
live_frames : (fs : List Frame) → live_in fs ≡ frames_in (stack fs)
live_frames fs = sym (fold-map _ activation 0 fs)

any_dropped : (p : FuncId → Bool) (n : ℕ) (fs : List Frame)
    → list_any (λ f. p f.func) (take n fs) ≡ list_any (λ a. p a.func) (take n (stack fs))
any_dropped p zero fs = refl
any_dropped p (suc n) [] = refl
any_dropped p (suc n) (f ∷ fs) = ap (λ b. p f.func || b) (any_dropped p n fs)

-- a note that only adds to numbers
pub only_adds : (syms : SymbolMap) (e : Event) (cost : List ℕ) (watched : List FuncId) (n : Noted) (r s : Recording)
    → n ≡ noted_answer syms watched e (account r e.thread).frames
    → has_line (place_of syms e.done.pc) (account r e.thread).lines ≡ true
    → Stays syms e (account r e.thread).frames → account s e.thread ≡ account_after_note syms e cost (account r e.thread)
    → (NeedsNoRoom syms e (account r e.thread) → (other : ThreadNo) → IsReady r other → IsReady s other)
    → ((other : ThreadNo) → knows s other ≡ knows r other)
    → books.live s + live_in (account r e.thread).frames ≡ books.live r + live_in (account s e.thread).frames
    → OnlyAdds e.thread n r s
only_adds syms e cost watched n r s answer has stays is lasting known live_is =
    let a = account r e.thread in
    let same : (account s e.thread).frames ≡ a.frames =
    ap (λ (b : Account). b.frames) is ∙ sym (same_frames syms (sum_of_costs a.total cost) e a.frames stays) in
    let nothing = answer ∙ sym (nothing_noted syms watched e a.frames stays) in
    record {
      none_pushed = ap (λ (d : Noted). d.pushed) nothing;
      none_left = ap (λ (d : Noted). d.left) nothing;
      ready = lasting (record { frames = none_pushed syms e a.frames stays; lines = has }) e.thread;
      known = known e.thread;
      frames = same;
      live = (let kept = ap live_in same in omega (arith, live_is, kept));
    }

-- the top of a stack is of the function at which its thread goes on
ends_in : (ys : List Step) → (ys ≡ []) ⊎ ((front : List Step) × (z : Step) × (ys ≡ front ++ z ∷ []))
ends_in [] = inl refl
ends_in (y ∷ []) = inr ([], y, refl)
ends_in (y ∷ (z ∷ zs)) = elim (ends_in (z ∷ zs)) as
    (λ _. (y ∷ (z ∷ zs) ≡ []) ⊎ ((front : List Step) × (u : Step) × (y ∷ (z ∷ zs) ≡ front ++ u ∷ []))) [
      | inl none ↦ absurd (cc)
      | inr e ↦ inr (y ∷ e.0, e.1, ap (λ us. y ∷ us) e.2)
    ]

top_at : (syms : SymbolMap) (xs : List Step) (e : Event) → Follows (last_of (steps_of_thread e.thread.0 xs)) e
    → top_of (stack_at syms xs e.thread.0 e.done.pc) ≡ Some (place_of syms e.done.pc).func
top_at syms xs e goes = by_end (steps_of_thread e.thread.0 xs) goes (ends_in (steps_of_thread e.thread.0 xs))
  where
    by_end : (ys : List Step) → Follows (last_of ys) e
        → (ys ≡ []) ⊎ ((front : List Step) × (z : Step) × (ys ≡ front ++ z ∷ []))
        → top_of (stack_of syms (map event_of ys) e.done.pc) ≡ Some (place_of syms e.done.pc).func
    by_end ys goes_on (inl none) = ap (λ us. top_of (stack_of syms (map event_of us) e.done.pc)) none
    by_end ys goes_on (inr f) =
        let P : Option Step → Type 0 = λ o. Follows o e in
        let next : Follows (Some f.1) e
        = subst P (ap last_of f.2 ∙ last-push f.0 f.1) goes_on in
        ap (λ us. top_of (stack_of syms (map event_of us) e.done.pc)) f.2
        ∙ ap (λ es. top_of (stack_of syms es e.done.pc)) (map-append event_of f.0 (f.1 ∷ []))
        ∙ ap top_of (stack-push syms (map event_of f.0) (event_of f.1) e.done.pc)
        ∙ top_follows syms (stack_of syms (map event_of f.0) (event_of f.1).done.pc) (event_of f.1) next.0
        ∙ ap (λ p. Some (place_of syms p).func) next.1

some_pushed : (xs : List Step) (x : Step) → xs ++ x ∷ [] ≢ []
some_pushed [] x e = cc
some_pushed (y ∷ ys) x e = cc

-- a cost has a number for each kind of event
pub cost_whole : (branches : Bool) (shapes : Shapes) (before : List Event) (e : Event)
    → IsWhole (event_cost branches shapes before e)
unfolding event_cost
cost_whole branches shapes before e = refl

module _ {W : Type 0} (m : Meaning W) (guest : Program) (first : W) (past : List RunStep) (event : Event) (machine : Machine)
    (costs : RunCosts) (r : Recording) (w : W) (made : IsMade m guest first past event machine costs r w) where
  abbrev begun : HasBegun m guest first past made.before costs r w
  begun = made.begun

  abbrev first_guest : Guest
  first_guest = guest_at_start guest.image guest.args guest.input

  abbrev x : RunStep
  x = run_step guest past made.outcome

  abbrev last : Step
  last = x.step

  held : Holds first_guest (map machine_step_of past) made.before
  held =
      holds_reached first_guest guest.options.quantum guest.options.seed (map machine_step_of past) made.before
      begun.after.reached

  goes : Holds first_guest (map machine_step_of past ++ made.outcome ∷ []) machine
      × InOrder first_guest (map machine_step_of past) made.outcome
  goes = holds_next first_guest (map machine_step_of past) made.before made.outcome machine held made.makes

  pub in_order : InOrder first_guest (map machine_step_of past) made.outcome
  in_order = goes.1

  pub runs : (made.outcome.event.thread ≡ begun.thread) × (made.outcome.event.done.pc ≡ begun.pc)
  runs =
      goes_where first_guest (map machine_step_of past) made.before begun.thread begun.pc made.outcome machine held begun.runs
      made.makes

  tolds : map machine_step_of (past ++ x ∷ []) ≡ map machine_step_of past ++ made.outcome ∷ []
  tolds = map-append machine_step_of past (x ∷ [])

  steps : steps_of (past ++ x ∷ []) ≡ steps_of past ++ last ∷ []
  steps = map-append (λ (y : RunStep). y.step) past (x ∷ [])

  reached : IsReached first_guest guest.options.quantum guest.options.seed (map machine_step_of (past ++ x ∷ [])) machine
  reached =
      let before = begun.after.reached in
      record {
        lawful = before.lawful;
        run =
            (let P : List MachineStep → Type 0 =
            λ ts. Run next (new_machine first_guest guest.options.quantum guest.options.seed) ts machine in
            subst P (sym tolds)
            (Run-push next (new_machine first_guest guest.options.quantum guest.options.seed) (map machine_step_of past)
            made.before made.outcome machine before.run made.makes));
      }

  -- the step is in order
  pub orderly : IsWhole last.on_stack.cost → All (λ n. n ≤ 1) last.on_stack.cost → guest.options.budget ≤ 10 ^ 12
      → IsOrderly guest.syms (steps_of past) last
  orderly whole ones long = record {
    follows = follows first_guest past (event_of last) in_order.goes_on;
    whole = whole;
    ones = ones;
    room =
        (let many : length (steps_of past) ≡ length past = length-map past (λ (y : RunStep). y.step) in
        let spare = begun.spare in
        omega (arith, many, spare, long));
    frames = (let room = begun.room in let is = begun.after.live in omega (arith, room, is));
    stack = refl;
    awake = sym (waits_is (event_of last).thread past) ∙ in_order.awake;
    wakes = λ thread woken.
        sym (waits_is (record { 0 = thread }) past) ∙ in_order.wakes (record { 0 = thread }) woken;
  }

  -- ---- when it can be counted

  abbrev own_account : Account
  own_account = account r event.thread

  is_thread : begun.thread ≡ event.thread
  is_thread = sym runs.0 ∙ ap (λ (e : Event). e.thread) made.event

  is_pc : begun.pc ≡ event.done.pc
  is_pc = sym runs.1 ∙ ap (λ (e : Event). e.done.pc) made.event

  pub known_own : knows r event.thread ≡ true
  known_own = ap (λ t. knows r t) (sym is_thread) ∙ begun.known

  pub ready_own : IsReady r event.thread
  ready_own = subst (IsReady r) is_thread begun.ready

  pub shallow_own : length own_account.frames ≤ 4194304
  shallow_own = subst (λ t. length (account r t).frames ≤ 4194304) is_thread begun.shallow

  pub fetched : event.done.pc + 4 ≤ 2 ^ 32
  fetched = let within = in_order.within.0 in let is = ap (λ (e : Event). e.done.pc) made.event in
      omega (arith, within, is)

  pub referred : CanRefer event.done.touch
  referred =
      let P : Event → Type 0 = λ e. CanRefer e.done.touch in
      subst P made.event (can_refer made.outcome.event.done.touch in_order.within.1)

  pub top : top_of (stack own_account.frames) ≡ Some (place_of guest.syms event.done.pc).func
  top =
      let goes_on : Follows (last_of (steps_of_thread made.outcome.event.thread.0 (steps_of past))) made.outcome.event
      = follows first_guest past made.outcome.event in_order.goes_on in
      let P : Event → Type 0 =
      λ e. top_of (stack_at guest.syms (steps_of past) e.thread.0 e.done.pc)
      ≡ Some (place_of guest.syms e.done.pc).func in
      ap (λ t. top_of (stack (account r t).frames)) (sym is_thread) ∙ ap top_of begun.stack
      ∙ (λ i. top_of (stack_at guest.syms (steps_of past) (is_thread i).0 (is_pc i)))
      ∙ subst P made.event (top_at guest.syms (steps_of past) made.outcome.event goes_on)

  pub can_note : (cost : List ℕ) → All (λ k. k ≤ 1) cost → guest.options.budget ≤ 10 ^ 12
      → CanNote guest.syms event cost own_account
  can_note cost ones long =
      let has = begun.after.accounts.known event.thread known_own in
      let many : length (steps_of past) ≡ length past = length-map past (λ (y : RunStep). y.step) in
      let spare = begun.spare in
      noting.can_note guest.syms event cost own_account (length (steps_of past)) has.within
      (omega (arith, many, spare, long)) (noting.units cost ones)
      shallow_own top

  abbrev cs_before : List Call
  cs_before = calls_so_far guest (steps_of past)

  abbrev ready_call : Call
  ready_call = Readies (event_of last).thread (event_of last).done.pc

  readied_is : IsWatched m guest first (steps_of past) (cs_before ++ ready_call ∷ []) w
  readied_is =
      let same : Readies begun.thread begun.pc ≡ ready_call = λ i. Readies (sym runs.0 i) (sym runs.1 i) in
      let P : Call → Type 0 = λ c. IsWatched m guest first (steps_of past) (cs_before ++ c ∷ []) w in
      subst P same begun.watch

  watched_last : guest.options.budget ≤ 10 ^ 12 → All (λ k. k ≤ 1) last.on_stack.cost
      → AreWatched guest.syms ((cs_before ++ ready_call ∷ []) ++ Sees last ∷ [])
  watched_last long ones =
      let whole = cost_whole guest.options.branch guest.options.shapes (events_of past) made.outcome.event in
      let fits : Fits guest.syms (cs_before ++ ready_call ∷ []) (Sees last) = (
        last-push cs_before ready_call,
        (let Q : List Step → Type 0 = λ ps. IsOrderly guest.syms ps last in
            subst Q (sym readied_is.steps) (orderly whole ones long)),
      ) in
      watched_more guest.syms (cs_before ++ ready_call ∷ []) (Sees last) readied_is.watched fits

  -- the watch may be told
  module _ (see : W → Event → List ℕ → Option ℕ → List ThreadNo → SymbolMap → Type 0)
      (write : W → PartHead → Listed → SymbolMap → Type 0) (fresh : W → SymbolMap → Type 0)
      (lasts : (syms : SymbolMap) (f : W) (calls : List Call) (call : Call) → fresh f syms
      → AreWatched syms (calls ++ call ∷ []) → Can see write syms (after_calls m syms f calls) call) where
    pub can_see : fresh first guest.syms → (cost : List ℕ)
        → cost ≡ event_cost guest.options.branch guest.options.shapes (events_of past) event
        → All (λ k. k ≤ 1) cost → guest.options.budget ≤ 10 ^ 12
        → see w event cost machine.wait machine.woken guest.syms
    can_see is_fresh cost costed ones long =
        let same : last.on_stack.cost ≡ cost =
        ap (λ e. event_cost guest.options.branch guest.options.shapes (events_of past) e) made.event ∙ sym costed in
        let told : see (after_calls m guest.syms first (cs_before ++ ready_call ∷ [])) last.on_stack.event last.on_stack.cost
        last.wait last.woken guest.syms =
        lasts guest.syms first (cs_before ++ ready_call ∷ []) (Sees last) is_fresh
        (watched_last long (subst (All (λ k. k ≤ 1)) (sym same) ones)) in
        let P : W → Event → List ℕ → Option ℕ → List ThreadNo → Type 0 =
        λ u e k wait woken. see u e k wait woken guest.syms in
        subst (λ u. P u event cost machine.wait machine.woken) (sym readied_is.state)
        (subst (λ e.
        P (after_calls m guest.syms first (cs_before ++ ready_call ∷ [])) e cost machine.wait machine.woken)
        made.event
        (subst (λ k. P (after_calls m guest.syms first (cs_before ++ ready_call ∷ [])) last.on_stack.event k machine.wait
        machine.woken) same
        (subst (λ wt. P (after_calls m guest.syms first (cs_before ++ ready_call ∷ [])) last.on_stack.event
        last.on_stack.cost wt machine.woken) made.wait
        (subst (λ wk. P (after_calls m guest.syms first (cs_before ++ ready_call ∷ [])) last.on_stack.event
        last.on_stack.cost last.wait wk) made.woken told))))

  -- ---- what the code counts

  module _ (s : Recording) (after_costs : RunCosts) (set : List FuncId) (n : Noted) (v : W) (cost : List ℕ)
      (note : IsNote guest.syms event cost r s)
      (costed : cost ≡ event_cost guest.options.branch guest.options.shapes (events_of past) event)
      (stand : StandForRun guest.options.branch guest.options.shapes after_costs (events_of past ++ event ∷ []))
      (answer : n ≡ noted_answer guest.syms set event (account r event.thread).frames)
      (told_watch : v ≡ m.after_seen w event cost machine.wait machine.woken guest.syms)
      (whole : IsWhole cost) (ones : All (λ k. k ≤ 1) cost) (long : guest.options.budget ≤ 10 ^ 12) where
    same_event : last.on_stack.event ≡ event
    same_event = made.event

    same_cost : last.on_stack.cost ≡ cost
    same_cost =
        ap (λ e. event_cost guest.options.branch guest.options.shapes (events_of past) e) made.event ∙ sym costed

    abbrev since : List Step
    since = (cuts guest.syms guest.options.dump_points (steps_of past)).recent

    own_note : IsNote guest.syms last.on_stack.event last.on_stack.cost r s
    own_note =
        let P : Event → List ℕ → Type 0 = λ e c. IsNote guest.syms e c r s in
        subst (λ e. P e last.on_stack.cost) (sym same_event) (subst (λ c. P event c) (sym same_cost) note)

    frames_are : stack (account r last.on_stack.event.thread).frames ≡ last.on_stack.stack
    frames_are =
        ap (λ t. stack (account r t).frames) runs.0 ∙ begun.stack
        ∙ (λ i. stack_at guest.syms (steps_of past) (sym runs.0 i).0 (sym runs.1 i))

    accounts_now : AreAccounts guest.syms (steps_of past ++ last ∷ []) (since ++ last ∷ []) s
    accounts_now =
        accounts_counted guest.syms (steps_of past) since r s last own_note begun.after.accounts
        (ap (λ t. knows r t) runs.0 ∙ begun.known) frames_are refl

    made_grows : made.before.engine.kernel.guest.made ≤ machine.engine.kernel.guest.made
    made_grows =
        let more = in_order.makes.0 in
        let before = held.made in
        let now = goes.0.made in
        let push = made_push first_guest.made (map machine_step_of past) made.outcome in
        omega (arith, more, before, now, push)

    numbered : thread_of last ≤ made.before.engine.kernel.guest.made
    numbered = let few = in_order.numbered.1 in let is = held.made in omega (arith, few, is)

    beyond : (thread : ℕ) → machine.engine.kernel.guest.made < thread → steps_of_thread thread (steps_of past ++ last ∷ []) ≡ []
    beyond thread more =
        let grows = made_grows in
        let few = numbered in
        own-other thread (steps_of past) last (λ e. omega (arith, e, few, grows, more))
        ∙ begun.after.made thread (omega (arith, more, grows))

    live_now : books.live s ≡ live guest.syms (steps_of past ++ last ∷ [])
    live_now =
        let t = last.on_stack.event.thread in
        let now = accounts_now.known t (note.known t ∙ ap (λ u. knows r u) runs.0 ∙ begun.known) in
        let pc = (event_of last).done.pc in
        let stack_now =
        now.stands.stack ∙ ap (λ es. stack_of guest.syms es now.first) (events-push t.0 (steps_of past) last refl)
        ∙ stack-push guest.syms (events_of_thread t.0 (steps_of past)) (event_of last) now.first in
        let change = own_note.live in
        let a = live_frames (account r t).frames in
        let b = ap frames_in frames_are in
        let c = live_frames (account s t).frames in
        let d = ap frames_in stack_now in
        let all = live_push guest.syms (steps_of past) last in
        let before = begun.after.live in
        omega (arith, change, a, b, c, d, all, before)

    after_step : IsAfter guest (past ++ x ∷ []) (since ++ last ∷ []) machine after_costs s
    after_step = record {
      run =
          Run-push (next_step guest) (start guest) past (made.before.engine, past) x (machine.engine, past ++ x ∷ [])
          begun.after.run
          (going-step guest (made.before.engine, past) made.outcome machine.engine begun.goes
          (next_is made.before made.outcome machine made.makes).0);
      reached = reached;
      given = goes.0.given;
      few = (let more = length-push past x in let spare = begun.spare in omega (arith, more, spare));
      costs =
          (let P : List Event → Type 0 = λ es. StandForRun guest.options.branch guest.options.shapes after_costs es in
          subst P (ap (λ e. events_of past ++ e ∷ []) (sym same_event) ∙ sym (map-append _ past (x ∷ []))) stand);
      accounts =
          (let P : List Step → Type 0 = λ ps. AreAccounts guest.syms ps (since ++ last ∷ []) s in
          subst P (sym steps) accounts_now);
      made =
          (let P : List Step → Type 0 =
          λ ps. (thread : ℕ) → machine.engine.kernel.guest.made < thread → steps_of_thread thread ps ≡ [] in
          subst P (sym steps) beyond);
      zero =
          (let some = in_order.numbered.0 in
          ap (steps_of_thread 0) steps ∙ own-other 0 (steps_of past) last (λ e. omega (arith, e, some)) ∙ begun.after.zero);
      stacks = λ y there.
          elim (from_append (steps_of past) (last ∷ []) y (subst (λ ps. IsIn ps y) steps there)) as
          (λ _. HasStack guest.syms y) [
            | inl before ↦ begun.after.stacks y before
            | inr now ↦
                elim now as (λ _. HasStack guest.syms y) [
                  | inl is ↦
                      subst (HasStack guest.syms) is
                      (events_of_thread (thread_of last) (steps_of past), (event_of last).done.pc, refl)
                  | inr none ↦ elim none [ ]
                ]
          ];
      live = live_now ∙ ap (λ ps. live guest.syms ps) (sym steps);
      earlier = begun.after.earlier;
      together =
          steps ∙ ap (λ ps. ps ++ last ∷ []) begun.after.together
          ∙ append_assoc begun.after.earlier since (last ∷ []);
    }

    stepped : HaveStepped (steps_of (past ++ x ∷ [])) s
    stepped thread known =
        let P : List Step → Type 0 = λ ps. steps_of_thread thread.0 ps ≢ [] in
        subst P (sym steps)
        (elim (eqb_tells thread.0 (thread_of last)) as (λ _. steps_of_thread thread.0 (steps_of past ++ last ∷ []) ≢ []) [
          | inl is ↦ (λ none. some_pushed (steps_of_thread thread.0 (steps_of past)) last
              (sym (own-push thread.0 (steps_of past) last (sym is.1)) ∙ none))
          | inr differs ↦ (λ none. begun.others thread
              (λ e. differs.1 (e ∙ ap (λ (t : ThreadNo). t.0) (sym runs.0))) (sym (note.known thread) ∙ known)
              (sym (own-other thread.0 (steps_of past) last (λ e. differs.1 (sym e))) ∙ none))
        ])

    noted_is : IsNotedOf guest.syms set last.on_stack n
    noted_is =
        let e = last.on_stack.event in
        let frames = (account r e.thread).frames in
        let P : Event → Type 0 = λ d. n ≡ noted_answer guest.syms set d (account r d.thread).frames in
        let is = subst P (sym same_event) answer in
        record {
          pushed =
              ap (λ (k : Noted). k.pushed) is
              ∙ ap (λ st. option_map (λ a. a.func) (change guest.syms e st).pushed) frames_are;
          left =
              ap (λ (k : Noted). k.left) is
              ∙ any_dropped (is_among set) (drop_count guest.syms e (stack frames)) frames
              ∙ ap (λ st. list_any (λ a. is_among set a.func) (take (drop_count guest.syms e st) st)) frames_are;
        }

    watched_now : IsWatched m guest first (steps_of (past ++ x ∷ []))
        (calls_so_far guest (steps_of past) ++ step_calls last) v
    watched_now =
        let cs = calls_so_far guest (steps_of past) in
        let ready : Call = Readies (event_of last).thread (event_of last).done.pc in
        let same : Readies begun.thread begun.pc ≡ ready = λ i. Readies (sym runs.0 i) (sym runs.1 i) in
        let P : Call → Type 0 = λ c. IsWatched m guest first (steps_of past) (cs ++ c ∷ []) w in
        let before : P ready = subst P same begun.watch in
        let split : (cs ++ ready ∷ []) ++ Sees last ∷ [] ≡ cs ++ step_calls last
        = append_assoc cs (ready ∷ []) (Sees last ∷ []) in
        let told =
        told_watch
        ∙ (λ i. m.after_seen w (sym same_event i) (sym same_cost i) (sym made.wait i) (sym made.woken i) guest.syms)
        ∙ ap (λ u. after_call m guest.syms u (Sees last)) before.state
        ∙ sym (after-append m guest.syms guest.options.base first (cs ++ ready ∷ []) (Sees last ∷ [])) in
        let fits : Fits guest.syms (cs ++ ready ∷ []) (Sees last) = (
          last-push cs ready,
          (let Q : List Step → Type 0 = λ ps. IsOrderly guest.syms ps last in
              subst Q (sym before.steps)
              (orderly (subst IsWhole (sym same_cost) whole) (subst (All (λ k. k ≤ 1)) (sym same_cost) ones) long)),
        ) in
        record {
          state = told ∙ ap (λ ds. after_calls m guest.syms first ds) split;
          watched =
              subst (AreWatched guest.syms) split
              (watched_more guest.syms (cs ++ ready ∷ []) (Sees last) before.watched fits);
          steps =
              ap steps_in (sym split) ∙ steps-append (cs ++ ready ∷ []) (Sees last ∷ [])
              ∙ ap (λ ps. ps ++ last ∷ []) before.steps ∙ sym steps;
        }

    pub counted : IsCounted m guest first past x set n machine after_costs s v
    counted = record { after = after_step; stepped = stepped; noted = noted_is; watch = watched_now }

-- what is promised of each run that has made a step, of the same costs under another name
pub by_other_costs : {W : Type 0} (m : Meaning W) (event : Event) (machine : Machine) (costs other : RunCosts)
    (r : Recording) (watch : W) (syms : SymbolMap) (Q : Program → W → List RunStep → RunStep → Type 0) → other ≡ costs
    → ((guest : Program) (first : W) (past : List RunStep)
    → (made : IsMade m guest first past event machine other r watch)
    → guest.syms ≡ syms → guest.options.budget ≤ 10 ^ 12 → Q guest first past (run_step guest past made.outcome))
    → (guest : Program) (first : W) (past : List RunStep)
    → (made : IsMade m guest first past event machine costs r watch)
    → guest.syms ≡ syms → guest.options.budget ≤ 10 ^ 12 → Q guest first past (run_step guest past made.outcome)
by_other_costs {W} m event machine costs other r watch syms Q same promised =
    subst (λ (k : RunCosts). (guest : Program) (first : W) (past : List RunStep)
    → (made : IsMade m guest first past event machine k r watch)
    → guest.syms ≡ syms → guest.options.budget ≤ 10 ^ 12 → Q guest first past (run_step guest past made.outcome))
    same promised
