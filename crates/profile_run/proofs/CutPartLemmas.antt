-- The parts of a segment that a cut ends.
use Rattle.std.proofs.Common.{◌≡◌, ◌≢◌, ℕ, ◌+◌, ◌≤◌, nat_lt, Bool, true, false, List, [], ◌∷◌, ◌++◌}
use Rattle.std.proofs.Common.{length, map}
use Rattle.std.proofs.Common.{flat_map, Option, Some, refl, ap, sym, subst, ◌∙◌, arith}
use Rattle.std.proofs.Common.{if◌then◌else◌}
use Rattle.std.proofs.lemmas.Bool.Decides.{nat_tests}
use Rattle.std.proofs.lemmas.List.{append-nil, length_push, map-append}
use Rattle.outside.specs.Outside.{Shelf}
use Rattle.event_costs.specs.declared.numbers.FuncId.{FuncId}
use Rattle.event_costs.specs.declared.numbers.ThreadNo.{ThreadNo}
use Rattle.event_costs.specs.declared.outcome.Noted.{Noted}
use Rattle.cg_format.specs.declared.trigger.Trigger.{Trigger}
use Rattle.cache_lru.specs.Costs.{RunCosts}
use Rattle.cg_format.specs.declared.head.PartHead.{PartHead}
use Rattle.guest_sched.specs.Machine.{Machine}
use Rattle.recorder.specs.Accounts.{Recording, account, knows}
use Rattle.recorder.specs.Laws.{IsIn}
use Rattle.recorder.specs.Standing.{Stands}
use Rattle.cg_format.specs.Rows.{below}
use Rattle.recorder.specs.Accounts as books
use Rattle.shadow_stack.specs.Traces as recorded
use Rattle.part_dump.specs.Calls.{Call, step_calls, thread_calls}
use Rattle.part_dump.specs.Steps.{Step, live, steps_of_thread, events_on_stack_of, stack_at}
use Rattle.part_dump.specs.Watched.{ready_pc, ready_pc_after}
use Rattle.part_dump.specs.Watching.{Meaning, after_calls, puts}
use Rattle.profile_run.specs.Program.{Program, head_of_run}
use Rattle.profile_run.specs.Parts.{calls_so_far}
use Rattle.recorder.specs.Rows.{rows_of}
use Rattle.profile_run.specs.Trace.{RunStep, steps_of}
use Rattle.profile_run.specs.inner.Standing.{HasAccount, IsHead, IsPutting, IsUncut, IsWatched, Plan}
use Rattle.profile_run.specs.inner.Standing.{calls_below}
use Rattle.profile_run.specs.inner.Standing.{HaveStepped, IsAfter, IsCutAt, StandsAfter, all_calls, files_after}
use Rattle.profile_run.specs.inner.Standing.{files_at, since_of}
use Rattle.profile_run.proofs.Others.{own-append, readied-append, readied-from, in_right}
use Rattle.profile_run.proofs.CallLemmas.{calls_cut, cut_at, cuts_cut, cuts_of, may_cut, puts-append}
use Rattle.profile_run.proofs.CutLemmas.{files_step, quiet_step}
use Rattle.profile_run.proofs.PutLemmas.{below-all, below-next, no_calls}
use Rattle.profile_run.proofs.PuttingLemmas.{none_left}

module _ {W : Type 0} (m : Meaning W) (guest : Program) (first : W) (past : List RunStep) (last : RunStep) (set : List FuncId)
    (noted : Noted) (machine : Machine) (costs : RunCosts) (r : Recording) (h : PartHead) (w : W)
    (u : IsUncut m guest first past last set noted machine costs r h w) (folder : Shelf) where
  abbrev now : List Step
  now = steps_of (past ++ last ∷ [])

  -- what the parts are put of
  abbrev pub cut_plan : Plan W
  cut_plan = record {
    guest = guest;
    first = first;
    past = now;
    before = calls_so_far guest (steps_of past) ++ step_calls last.step;
    segment = (cuts_of guest (steps_of past)).recent ++ last.step ∷ [];
    folder = folder;
    put = files_at m guest first (steps_of past);
  }

  -- a thread without steps has none in the segment
  pub none_in : (thread : ℕ) → steps_of_thread thread now ≡ [] → steps_of_thread thread cut_plan.segment ≡ []
  none_in thread none =
      none_left (steps_of_thread thread u.counted.after.earlier) (steps_of_thread thread cut_plan.segment)
      (sym (own-append thread u.counted.after.earlier cut_plan.segment)
      ∙ ap (steps_of_thread thread) (sym u.counted.after.together) ∙ none)

  not_zero : (thread : ThreadNo) → knows r thread ≡ true → thread.0 ≢ 0
  not_zero thread known is =
      u.counted.stepped thread known (ap (λ n. steps_of_thread n now) is ∙ u.counted.after.zero)

  all_since : (thread : ℕ) → thread ≢ 0 → cut_plan.segment ≡ since_of 1 cut_plan.segment thread
  all_since thread some = ap (λ b. if b then [] else cut_plan.segment) (sym (below_one thread some))
    where
      below_one : (n : ℕ) → n ≢ 0 → nat_lt n 1 ≡ false
      below_one n other = grind (arith, nat_tests)

  -- nothing is put for thread 0
  pub none_first : (part : ℕ) (trigger : Trigger) → calls_below cut_plan part trigger 1 ≡ []
  none_first part trigger =
      below-next m cut_plan part trigger 0 ∙ no_calls m cut_plan part trigger 0 (none_in 0 u.counted.after.zero)

  -- the puts begin
  pub begins : (k : PartHead) → IsHead guest k → IsPutting m cut_plan 1 k r w
  begins k head = record {
    known = λ thread known.
        (let has = u.counted.after.accounts.known thread known in
        subst (λ ss. HasAccount guest.syms now ss r thread) (all_since thread.0 (not_zero thread known)) has);
    unknown = u.counted.after.accounts.unknown;
    head = head;
    watch =
        subst (λ cs. IsWatched m guest first now cs w)
        (sym (append-nil cut_plan.before) ∙ ap (λ cs. cut_plan.before ++ cs) (sym (none_first k.part k.trigger)))
        u.counted.watch;
    stacks = λ x there.
        u.counted.after.stacks x
        (subst (λ xs. IsIn xs x) (sym u.counted.after.together)
        (in_right u.counted.after.earlier cut_plan.segment x there));
    earlier = u.counted.after.earlier;
    together = u.counted.after.together;
  }

  -- ---- once all parts are put

  -- the calls of parts tell nothing of threads that are ready
  parts_quiet : (thread part : ℕ) (trigger : Trigger) (o : Option ℕ) (ts : List ℕ)
      → ready_pc_after thread o
      (flat_map (λ t. thread_calls (rows_of guest.syms) (head_of_run guest) part trigger t
      (events_on_stack_of t cut_plan.segment)) ts) ≡ o
  parts_quiet thread part trigger o [] = refl
  parts_quiet thread part trigger o (t ∷ ts) =
      readied-from thread o
      (thread_calls (rows_of guest.syms) (head_of_run guest) part trigger t (events_on_stack_of t cut_plan.segment))
      (flat_map (λ s. thread_calls (rows_of guest.syms) (head_of_run guest) part trigger s
      (events_on_stack_of s cut_plan.segment)) ts)
      ∙ ap (λ p. ready_pc_after thread p
      (flat_map (λ s. thread_calls (rows_of guest.syms) (head_of_run guest) part trigger s
      (events_on_stack_of s cut_plan.segment)) ts)) (by (events_on_stack_of t cut_plan.segment))
      ∙ parts_quiet thread part trigger o ts
    where
      by : (xs : List recorded.EventOnStack)
          → ready_pc_after thread o (thread_calls (rows_of guest.syms) (head_of_run guest) part trigger t xs) ≡ o
      by [] = refl
      by (x ∷ xs) = refl

  module _ (part : ℕ) (trigger : Trigger) (cut : cut_at guest (steps_of past) last.step ≡ Some trigger)
      (may : may_cut guest (steps_of past) ≡ true) (number : part ≡ length (cuts_of guest (steps_of past)).closed + 1)
    where
      cuts_now : cuts_of guest now
          ≡ record {
            closed = (cuts_of guest (steps_of past)).closed ++ (cut_plan.segment, trigger) ∷ [];
            recent = [];
          }
      cuts_now =
          ap (cuts_of guest) (map-append (λ (y : RunStep). y.step) past (last ∷ []))
          ∙ cuts_cut guest (steps_of past) last.step trigger cut may

      none_beyond : (t : ℕ) → machine.engine.kernel.guest.made + 1 ≤ t → steps_of_thread t cut_plan.segment ≡ []
      none_beyond t le = none_in t (u.counted.after.made t (omega (arith, le)))

      calls_now : cut_plan.before ++ calls_below cut_plan part trigger (machine.engine.kernel.guest.made + 1)
          ≡ calls_so_far guest now
      calls_now =
          ap (λ cs. cut_plan.before ++ cs)
          (below-all m cut_plan part trigger (machine.engine.kernel.guest.made + 1) none_beyond
          ∙ ap (λ n. all_calls cut_plan n trigger) number)
          ∙ sym (ap (calls_so_far guest) (map-append (λ (y : RunStep). y.step) past (last ∷ []))
          ∙ calls_cut guest (steps_of past) last.step trigger cut may)

      -- the files are those of the cuts
      pub files_now : files_after m cut_plan (calls_below cut_plan part trigger (machine.engine.kernel.guest.made + 1))
          ≡ files_at m guest first now
      files_now =
          ap (λ fs. fs ++ puts m guest.syms guest.options.base (after_calls m guest.syms first cut_plan.before)
          (calls_below cut_plan part trigger (machine.engine.kernel.guest.made + 1)))
          (sym (files_step m guest first past last set noted machine costs r h w u))
          ∙ sym (puts-append m guest.syms guest.options.base first cut_plan.before
          (calls_below cut_plan part trigger (machine.engine.kernel.guest.made + 1)))
          ∙ ap (puts m guest.syms guest.options.base first) calls_now

      pub ends_there : IsCutAt guest part now
      ends_there = record {
        number =
            ap (λ s. length s.closed) cuts_now
            ∙ length_push (cuts_of guest (steps_of past)).closed (cut_plan.segment, trigger) ∙ sym number;
        ends = ap (λ s. s.recent) cuts_now;
      }

      module _ (k : PartHead) (s : Recording) (v : W)
          (is : IsPutting m cut_plan (machine.engine.kernel.guest.made + 1) k s v) (same_part : k.part ≡ part)
          (same_trigger : k.trigger ≡ trigger) (stepped : HaveStepped now s)
          (live_now : books.live s ≡ live guest.syms now) where
        none_since : (thread : ℕ)
            → events_on_stack_of thread (since_of (machine.engine.kernel.guest.made + 1) cut_plan.segment thread) ≡ []
        none_since thread = by (nat_lt thread (machine.engine.kernel.guest.made + 1)) refl
          where
            by : (b : Bool) → nat_lt thread (machine.engine.kernel.guest.made + 1) ≡ b
                → events_on_stack_of thread (if b then [] else cut_plan.segment) ≡ []
            by true less = refl
            by false less =
                ap (map (λ (y : Step). y.on_stack))
                (none_beyond thread (past_it thread (machine.engine.kernel.guest.made + 1) less))
              where
                past_it : (n m : ℕ) → nat_lt n m ≡ false → m ≤ n
                past_it n m e = grind (arith, nat_tests)

        account_now : (thread : ThreadNo) → knows s thread ≡ true → HasAccount guest.syms now [] s thread
        account_now thread known =
            let has = is.known thread known in
            record {
              first = has.first;
              stands =
                  subst (λ xs. Stands guest.syms (stack_at guest.syms now thread.0 has.first) xs (account s thread))
                  (none_since thread.0) has.stands;
              within = has.within;
            }

        -- the run goes on with the next part
        pub cut_stands : (j : PartHead) → IsHead guest j → j.part ≡ part + 1
            → StandsAfter m guest first (past ++ last ∷ []) machine costs s j v
        cut_stands j head next = record {
          after =
              (let P : List Step → Type 0 = λ since. IsAfter guest (past ++ last ∷ []) since machine costs s in
              subst P (sym (ap (λ q. q.recent) cuts_now))
              (record {
                run = u.counted.after.run;
                reached = u.counted.after.reached;
                given = u.counted.after.given;
                few = u.counted.after.few;
                costs = u.counted.after.costs;
                accounts = record { known = account_now; unknown = is.unknown };
                made = u.counted.after.made;
                zero = u.counted.after.zero;
                stacks = u.counted.after.stacks;
                live = live_now;
                earlier = now;
                together = sym (append-nil now);
              }));
          stepped = stepped;
          head = head;
          number =
              next ∙ ap (λ n. n + 1) number
              ∙ sym (ap (λ q. length q.closed + 1) cuts_now
              ∙ ap (λ n. n + 1) (length_push (cuts_of guest (steps_of past)).closed (cut_plan.segment, trigger)));
          quiet = λ thread none.
              ap (ready_pc thread) (sym calls_now)
              ∙ readied-append thread cut_plan.before
              (calls_below cut_plan part trigger (machine.engine.kernel.guest.made + 1))
              ∙ parts_quiet thread part trigger (ready_pc thread cut_plan.before)
              (below (machine.engine.kernel.guest.made + 1))
              ∙ quiet_step m guest first past last set noted machine costs r h w u thread none;
          watch =
              (let P : List Call → Type 0 = λ cs. IsWatched m guest first now cs v in
              subst P
              ((λ i. cut_plan.before
              ++ calls_below cut_plan (same_part i) (same_trigger i) (machine.engine.kernel.guest.made + 1))
              ∙ calls_now) is.watch);
        }
