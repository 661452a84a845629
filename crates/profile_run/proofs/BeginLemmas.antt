-- A step begins.
use Rattle.std.proofs.Common.{◌≡◌, ◌≢◌, ℕ, ◌<◌, ◌≤◌, ◌==◌, ◌||◌, sum_by, Bool, true, false, List, [], ◌∷◌, ◌++◌}
use Rattle.std.specs.Option.{option_or}
use Rattle.std.proofs.Common.{length, map}
use Rattle.std.proofs.Common.{Option, None, Some, refl, ap, sym, subst, ◌∙◌, arith, ◌⊎◌, inl, inr, nat_le}
use Rattle.std.specs.Prelude.{IfSome, if◌then◌else◌}
use Rattle.std.proofs.lemmas.Bool.{eq-eqb, or_left}
use Rattle.std.proofs.lemmas.Bool.Decides.{eqb_tells, nat_tests}
use Rattle.std.proofs.lemmas.List.{append-nil}
use Rattle.std.proofs.lemmas.List.Sums.{sum_by-append, sum_by-cons}
use Rattle.sym_map.specs.SymbolMap.{SymbolMap}
use Rattle.event_costs.specs.declared.numbers.ThreadNo.{ThreadNo}
use Rattle.event_costs.specs.declared.outcome.End.{End}
use Rattle.event_costs.specs.declared.outcome.End.TheVariants.{Budget, Frames}
use Rattle.shadow_stack.specs.Stacks.{most_frames}
use Rattle.shadow_stack.specs.Frames.{stack}
use Rattle.shadow_stack.specs.Traces.{stack_of}
use Rattle.cache_lru.specs.Costs.{RunCosts}
use Rattle.guest_sched.specs.Machine.{Machine}
use Rattle.recorder.specs.Accounts.{Account, IsReady, Ledger, Recording, account, ledger, knows}
use Rattle.recorder.specs.Accounts as books
use Rattle.recorder.specs.Bounds.{SumsWithin}
use Rattle.recorder.specs.Notes.{first_account}
use Rattle.recorder.specs.Standing.{Stands}
use Rattle.profile_run.proofs.Others.{within_started, stands_started, own-append, same_stack, steps-append}
use Rattle.profile_run.proofs.Others.{watched_more, same_thread, within_later}
use Rattle.part_dump.specs.Calls.{Call, Readies}
use Rattle.part_dump.specs.Cuts.{cuts}
use Rattle.part_dump.specs.Steps.{Step, event_of, live, steps_of_thread, events_on_stack_of, stack_at}
use Rattle.part_dump.specs.Watched.{Fits, ready_pc, steps_in}
use Rattle.part_dump.specs.Watching.{Meaning, after_call}
use Rattle.profile_run.specs.Program.{Program}
use Rattle.profile_run.specs.Parts.{calls_so_far}
use Rattle.profile_run.specs.Trace.{RunStep, end_before}
use Rattle.profile_run.specs.Trace.{steps_of}
use Rattle.profile_run.specs.inner.Standing.{AreAccounts, Begins, HasAccount, HasBegun, HaveStepped, IsAfter, IsWatched}
use Rattle.profile_run.specs.inner.Standing.{Prepares}
use Rattle.profile_run.proofs.AccountLemmas.{true_false}
use Rattle.profile_run.proofs.CallLemmas.{after-append}
use Rattle.shadow_stack.proofs.ChainLemmas.{true_of_or}
use Rattle.profile_run.proofs.TraceLemmas.{budget_end, exit_end, frames_end, waiting_end}

-- ---- no end stands before the step

pub or_none : (o p : Option End) → option_or o p ≡ None → (o ≡ None) × (p ≡ None)
or_none None p e = (refl, e)
or_none (Some end) p e = absurd (cc)

not_spent : (b : Bool) (end : End) → ◌≡◌ {A = Option End} (if b then Some end else None) None → b ≡ false
not_spent true end e = absurd (cc)
not_spent false end e = refl

pub spare : (budget steps : ℕ) → budget_end budget steps ≡ None → steps ≤ budget → steps < budget
spare budget steps none few =
    let differs = not_spent (steps == budget) (Budget budget) none in
    elim (eqb_tells steps budget) as (λ _. steps < budget) [
      | inl is ↦ absurd (true_false (sym is.0 ∙ differs))
      | inr apart ↦ less steps budget apart.1 few
    ]
  where
    less : (m n : ℕ) → m ≢ n → m ≤ n → m < n
    less m n other le = omega (arith, other, le)

pub some_room : (frames : ℕ) → frames_end frames ≡ None → frames < most_frames
some_room frames none =
    let small = not_spent (nat_le most_frames frames) Frames none in grind (arith, nat_tests)

-- ---- a thread is prepared

live_started : (syms : SymbolMap) (t : ThreadNo) (pc : ℕ) (r mid : Recording) (k : Ledger)
    → k.account ≡ first_account syms t pc → mid.threads ≡ r.threads ++ k ∷ [] → books.live mid ≡ books.live r
live_started syms t pc r mid k is all =
    let f : Ledger → ℕ = λ j. books.live_in j.account.frames in
    let sums = ap (sum_by f) all in
    let both = sum_by-append f r.threads (k ∷ []) in
    let one = sum_by-cons f k [] in
    let none = ap (λ (a : Account). books.live_in a.frames) is in
    omega (arith, sums, both, one, none)

same_number : (m n : ℕ) → (m == n) ≡ true → m ≡ n
same_number m n e = grind (arith, nat_tests)

module _ (syms : SymbolMap) (t : ThreadNo) (pc : ℕ) (r mid s : Recording) (unknown : knows r t ≡ false) (k : Ledger)
    (is : k.account ≡ first_account syms t pc) (all : mid.threads ≡ r.threads ++ k ∷ [])
    (own_is : account mid t ≡ first_account syms t pc)
    (others : (o : ThreadNo) → o.0 ≢ t.0 → ledger mid o ≡ ledger r o)
    (known : (o : ThreadNo) → knows mid o ≡ (knows r o || o.0 == t.0))
    (accounts : (o : ThreadNo) → account s o ≡ account mid o)
    (known_still : (o : ThreadNo) → knows s o ≡ knows mid o)
    (live_still : books.live s ≡ books.live mid) (ready : IsReady s t) where
  was_other : (o : ThreadNo) → knows r o ≡ true → o.0 ≢ t.0
  was_other o there same =
      true_false (sym there ∙ ap (λ u. knows r u) (same_thread o t same) ∙ unknown)

  pub prepares_new : Prepares syms t pc r s
  prepares_new = record {
    ready = ready;
    known = λ o now.
        elim (true_of_or (knows r o) (o.0 == t.0) (sym (known o) ∙ sym (known_still o) ∙ now)) as
        (λ _. (knows r o ≡ true) ⊎ (o.0 ≡ t.0)) [
          | inl before ↦ inl before
          | inr same ↦ inr (same_number o.0 t.0 same)
        ];
    still_known = λ o before. known_still o ∙ known o ∙ or_left (knows r o) (o.0 == t.0) before;
    own_known =
        known_still t ∙ known t ∙ ap (λ b. b || t.0 == t.0) unknown ∙ eq-eqb t.0 t.0 refl;
    others = λ o before. accounts o ∙ ap (λ (j : Ledger). j.account) (others o (was_other o before));
    started = λ _. accounts t ∙ own_is;
    live = live_still ∙ live_started syms t pc r mid k is all;
  }

-- ---- the accounts once a thread is prepared

module _ {W : Type 0} (m : Meaning W) (guest : Program) (first : W) (past : List RunStep) (machine : Machine)
    (costs : RunCosts) (r s : Recording) (w v : W)
    (after : IsAfter guest past (cuts guest.syms guest.options.dump_points (steps_of past)).recent machine costs r)
    (stepped : HaveStepped (steps_of past) r)
    (begins : Begins m guest.syms machine r s w v) where
  abbrev since : List Step
  since = (cuts guest.syms guest.options.dump_points (steps_of past)).recent

  abbrev t : ThreadNo
  t = begins.thread

  was_known : (other : ThreadNo) → (knows r other ≡ true) ⊎ (knows r other ≡ false)
  was_known other = by (knows r other)
    where
      by : (b : Bool) → (b ≡ true) ⊎ (b ≡ false)
      by true = inl refl
      by false = inr refl

  kept_account : (other : ThreadNo) → knows r other ≡ true → HasAccount guest.syms (steps_of past) since s other
  kept_account other known =
      let has = after.accounts.known other known in
      let P : Account → Type 0 =
      λ a. Stands guest.syms (stack_at guest.syms (steps_of past) other.0 has.first) (events_on_stack_of other.0 since) a in
      let same = begins.prepares.others other known in
      record {
        first = has.first;
        stands = subst P (sym same) has.stands;
        within = subst (SumsWithin (length (steps_of past))) (sym same) has.within;
      }

  no_steps : knows r t ≡ false → steps_of_thread t.0 (steps_of past) ≡ []
  no_steps unknown = after.accounts.unknown t unknown

  none_since : (xs ys : List Step) → xs ++ ys ≡ [] → ys ≡ []
  none_since [] ys e = e
  none_since (x ∷ xs) ys e = absurd (cc)

  own_since : knows r t ≡ false → steps_of_thread t.0 since ≡ []
  own_since unknown =
      none_since (steps_of_thread t.0 after.earlier) (steps_of_thread t.0 since)
      (sym (own-append t.0 after.earlier since) ∙ ap (steps_of_thread t.0) (sym after.together) ∙ no_steps unknown)

  new_account : knows r t ≡ false → HasAccount guest.syms (steps_of past) since s t
  new_account unknown =
      let is = begins.prepares.started unknown in
      let P : List Step → List Step → Account → Type 0 =
      λ ps ss a.
      Stands guest.syms (stack_of guest.syms (map event_of ps) begins.pc) (map (λ (y : Step). y.on_stack) ss) a in
      let fresh : P [] [] (first_account guest.syms t begins.pc) = (stands_started guest.syms t begins.pc).since in
      record {
        first = begins.pc;
        stands =
            subst (P (steps_of_thread t.0 (steps_of past)) (steps_of_thread t.0 since)) (sym is)
            (subst (λ ss. P (steps_of_thread t.0 (steps_of past)) ss (first_account guest.syms t begins.pc)) (sym (own_since unknown))
            (subst (λ ps. P ps [] (first_account guest.syms t begins.pc)) (sym (no_steps unknown)) fresh));
        within =
            subst (SumsWithin (length (steps_of past))) (sym is)
            (within_later 0 (length (steps_of past)) (first_account guest.syms t begins.pc) (omega arith)
            (within_started guest.syms t begins.pc));
      }

  own_account : HasAccount guest.syms (steps_of past) since s t
  own_account = elim (was_known t) as (λ _. HasAccount guest.syms (steps_of past) since s t) [
    | inl known ↦ kept_account t known
    | inr unknown ↦ new_account unknown
  ]

  accounts_now : AreAccounts guest.syms (steps_of past) since s
  accounts_now = record {
    known = λ other now. elim (begins.prepares.known other now) as
        (λ _. HasAccount guest.syms (steps_of past) since s other) [
          | inl known ↦ kept_account other known
          | inr same ↦
              subst (HasAccount guest.syms (steps_of past) since s) (sym (same_thread other t same)) own_account
        ];
    unknown = λ other now. elim (was_known other) as (λ _. steps_of_thread other.0 (steps_of past) ≡ []) [
      | inl known ↦ absurd (true_false (sym (begins.prepares.still_known other known) ∙ now))
      | inr unknown ↦ after.accounts.unknown other unknown
    ];
  }

  after_now : IsAfter guest past since machine costs s
  after_now = record {
    run = after.run;
    reached = after.reached;
    given = after.given;
    few = after.few;
    costs = after.costs;
    accounts = accounts_now;
    made = after.made;
    zero = after.zero;
    stacks = after.stacks;
    live = begins.prepares.live ∙ after.live;
    earlier = after.earlier;
    together = after.together;
  }

  stack_now : stack (account s t).frames ≡ stack_at guest.syms (steps_of past) t.0 begins.pc
  unfolding new_account
  stack_now = elim (was_known t) as
      (λ _. stack (account s t).frames ≡ stack_at guest.syms (steps_of past) t.0 begins.pc) [
        | inl known ↦
            (let has = kept_account t known in
            has.stands.stack ∙ same_stack guest.syms (steps_of past) t.0 has.first begins.pc (stepped t known))
        | inr unknown ↦ (new_account unknown).stands.stack
      ]

  shallow_now : length (account r t).frames ≤ most_frames → length (account s t).frames ≤ most_frames
  shallow_now shallow = elim (was_known t) as (λ _. length (account s t).frames ≤ most_frames) [
    | inl known ↦
        (let same = ap (λ (a : Account). length a.frames) (begins.prepares.others t known) in
        omega (arith, shallow, same))
    | inr unknown ↦
        (let same = ap (λ (a : Account). length a.frames) (begins.prepares.started unknown) in omega (arith, same))
  ]

  others_now : (other : ThreadNo) → other.0 ≢ t.0 → knows s other ≡ true → steps_of_thread other.0 (steps_of past) ≢ []
  others_now other apart now = elim (begins.prepares.known other now) as (λ _. steps_of_thread other.0 (steps_of past) ≢ []) [
    | inl known ↦ stepped other known
    | inr same ↦ absurd (apart same)
  ]

  module _ (quiet : (thread : ℕ) → steps_of_thread thread (steps_of past) ≡ []
      → ready_pc thread (calls_so_far guest (steps_of past)) ≡ None)
      (watch : IsWatched m guest first (steps_of past) (calls_so_far guest (steps_of past)) w) where
    abbrev cs : List Call
    cs = calls_so_far guest (steps_of past)

    fits : Fits guest.syms cs (Readies t begins.pc)
    fits none =
        let is : ready_pc t.0 cs ≡ None = quiet t.0 (ap (steps_of_thread t.0) (sym watch.steps) ∙ none) in
        subst (λ o. IfSome o (λ before. before ≡ begins.pc)) (sym is) tt

    watch_now : IsWatched m guest first (steps_of past) (cs ++ Readies t begins.pc ∷ []) v
    watch_now = record {
      state =
          begins.watch ∙ ap (λ u. after_call m guest.syms u (Readies t begins.pc)) watch.state
          ∙ sym (after-append m guest.syms guest.options.base first cs (Readies t begins.pc ∷ []));
      watched = watched_more guest.syms cs (Readies t begins.pc) watch.watched fits;
      steps = steps-append cs (Readies t begins.pc ∷ []) ∙ append-nil (steps_in cs) ∙ watch.steps;
    }

    pub begun : end_before guest machine.engine past ≡ None → length (account r t).frames ≤ most_frames
        → HasBegun m guest first past machine costs s v
    begun none shallow =
        let one = or_none (exit_end machine.engine.exit) _ none in
        let two = or_none (budget_end guest.options.budget (length past)) _ one.1 in
        let three = or_none (frames_end (live guest.syms (steps_of past))) (waiting_end machine.engine.run_queue.ready) two.1 in
        let few = some_room (live guest.syms (steps_of past)) three.0 in
        let was = after.live in
        let now = begins.prepares.live in
        record {
          thread = t;
          pc = begins.pc;
          runs = begins.runs;
          after = after_now;
          others = others_now;
          known = begins.prepares.own_known;
          ready = begins.prepares.ready;
          stack = stack_now;
          goes = none;
          shallow = shallow_now shallow;
          room = omega (arith, few, was, now);
          spare = spare guest.options.budget (length past) two.0 after.few;
          quiet = quiet t.0;
          watch = watch_now;
        }
