-- A run comes to its end, and its last parts are put.
use Rattle.std.proofs.Common.{◌≡◌, ℕ, ◌+◌, ◌≤◌, nat_lt, Bool, true, false, List, []}
use Rattle.std.proofs.Common.{◌∷◌, ◌++◌, length, map}
use Rattle.std.proofs.Common.{Option, None, Some, Err, refl, ap, sym, subst, ◌∙◌, arith}
use Rattle.std.specs.Prelude.{if◌then◌else◌}
use Rattle.std.proofs.lemmas.Bool.Decides.{nat_tests}
use Rattle.std.proofs.lemmas.List.{append-nil, length-map}
use Rattle.outside.specs.Outside.{Shelf}
use Rattle.profile_run.proofs.Others.{IsTrace-same, holds_reached, next_end, own-append, in_right}
use Rattle.event_costs.specs.declared.numbers.ThreadNo.{ThreadNo}
use Rattle.event_costs.specs.declared.outcome.End.{End}
use Rattle.cg_format.specs.declared.trigger.Trigger.{Trigger}
use Rattle.cg_format.specs.declared.trigger.Trigger.TheVariants.{Termination}
use Rattle.cache_lru.specs.Costs.{RunCosts}
use Rattle.cg_format.specs.declared.head.PartHead.{PartHead}
use Rattle.guest_load.specs.First.{guest_at_start}
use Rattle.guest_sched.specs.Laws.{IsReached}
use Rattle.guest_sched.specs.Machine.{Machine, ended, next, running, running_unless, with_given}
use Rattle.guest_sched.specs.Engine.{Engine}
use Rattle.recorder.specs.Accounts.{Recording, account}
use Rattle.recorder.specs.Laws.{IsIn}
use Rattle.recorder.specs.Standing.{Stands}
use Rattle.part_dump.specs.Calls.{Call, Readies, tried_calls}
use Rattle.part_dump.specs.Cuts.{cuts}
use Rattle.part_dump.specs.Steps.{Step, steps_of_thread, events_on_stack_of, stack_at}
use Rattle.part_dump.specs.Watching.{Meaning, after_calls, puts}
use Rattle.profile_run.specs.Program.{Program}
use Rattle.profile_run.specs.Parts.{calls_of, calls_so_far, watched_parts}
use Rattle.profile_run.specs.Trace.{IsTraceOf, Stop, RunStep, end_before, next_step, start, steps_of}
use Rattle.profile_run.specs.inner.Standing.{HasBegun, IsHead, IsOver, IsPutting, IsWatched, Plan}
use Rattle.profile_run.specs.inner.Standing.{StandsAfter}
use Rattle.profile_run.specs.inner.Standing.{all_calls, calls_below, files_after, files_at, since_of, machine_step_of}
use Rattle.profile_run.proofs.CallLemmas.{calls_whole, puts-append, tried_puts}
use Rattle.profile_run.proofs.PutLemmas.{below-all, below-next, no_calls}
use Rattle.profile_run.proofs.PuttingLemmas.{none_left}
use Rattle.profile_run.proofs.TraceLemmas.{going-end, going-over, runs_at}

pub not_over : (m : Machine) (t : ThreadNo × ℕ) → running m ≡ Some t → ended m ≡ None
unfolding running
not_over m t is = by (ended m) m.engine is
  where
    by : (o : Option End) (w : Engine) → running_unless o w ≡ Some t → o ≡ None
    by None w runs = refl
    by (Some end) w runs = absurd (cc)

-- the machine knows who runs
pub runs_as : (m : Machine) (t : ThreadNo × ℕ) → running m ≡ Some t → runs_at m.engine ≡ Some t
unfolding running
runs_as m t is = by (ended m) m.engine is
  where
    by : (o : Option End) (w : Engine) → running_unless o w ≡ Some t → runs_at w ≡ Some t
    by None w runs = runs
    by (Some end) w runs = absurd (cc)

pub steps_are : (guest : Program) (past : List RunStep) (machine : Machine)
    → IsReached (guest_at_start guest.image guest.args guest.input) guest.options.quantum guest.options.seed
    (map machine_step_of past) machine
    → machine.engine.kernel.guest.steps ≡ length past
steps_are guest past machine reached =
    let held =
    holds_reached (guest_at_start guest.image guest.args guest.input) guest.options.quantum guest.options.seed
    (map machine_step_of past) machine reached in
    let is : machine.engine.kernel.guest.steps ≡ 0 + length (map machine_step_of past) = held.steps in
    let many = length-map past machine_step_of in
    omega (arith, is, many)

module _ {W : Type 0} (m : Meaning W) (guest : Program) (first : W) (past : List RunStep) (machine : Machine)
    (costs : RunCosts) (r : Recording) (h : PartHead) (w : W) where
  -- an end stands before a step
  pub over_before : StandsAfter m guest first past machine costs r h w → (end : End)
      → end_before guest machine.engine past ≡ Some end
      → IsOver m guest first past (record { end = end; tried = None }) machine r h w
  over_before s end is = record {
    is = record {
      last = (machine.engine, past);
      run = s.after.run;
      stop = going-over guest (machine.engine, past) end is;
    };
    threads = refl;
    steps = steps_are guest past machine s.after.reached;
    accounts = s.after.accounts;
    made = s.after.made;
    zero = s.after.zero;
    stacks = s.after.stacks;
    earlier = s.after.earlier;
    together = s.after.together;
    head = s.head;
    number = s.number;
    watch =
        (let P : List Call → Type 0 = λ cs. IsWatched m guest first (steps_of past) cs w in
        subst P (sym (append-nil (calls_so_far guest (steps_of past)))) s.watch);
  }

  -- a step was tried, and ends the run
  pub over_tried : HasBegun m guest first past machine costs r w → (end : End) → next machine ≡ Err end
      → IsHead guest h → h.part ≡ length (cuts guest.syms guest.options.dump_points (steps_of past)).closed + 1
      → IsOver m guest first past (record { end = end; tried = runs_at machine.engine })
      (with_given end machine) r h w
  over_tried b end is head number =
      let told : tried_calls (runs_at machine.engine) ≡ Readies b.thread b.pc ∷ [] =
      ap tried_calls (runs_as machine (b.thread, b.pc) b.runs) in
      record {
        is = record {
          last = (machine.engine, past);
          run = b.after.run;
          stop = going-end guest (machine.engine, past) end b.goes (next_end machine end b.after.given is);
        };
        threads = refl;
        steps = steps_are guest past machine b.after.reached;
        accounts = b.after.accounts;
        made = b.after.made;
        zero = b.after.zero;
        stacks = b.after.stacks;
        earlier = b.after.earlier;
        together = b.after.together;
        head = head;
        number = number;
        watch =
            (let P : List Call → Type 0 = λ cs. IsWatched m guest first (steps_of past) cs w in
            subst P (ap (λ cs. calls_so_far guest (steps_of past) ++ cs) (sym told)) b.watch);
      }

-- ---- the last parts

module _ {W : Type 0} (m : Meaning W) (guest : Program) (first : W) (past : List RunStep) (stop : Stop) (machine : Machine)
    (r : Recording) (h : PartHead) (w : W) (o : IsOver m guest first past stop machine r h w) (folder : Shelf)
  where
    abbrev steps : List Step
    steps = steps_of past

    -- what they are put of
    abbrev pub last_plan : Plan W
    last_plan = record {
      guest = guest;
      first = first;
      past = steps;
      before = calls_so_far guest steps ++ tried_calls stop.tried;
      segment = (cuts guest.syms guest.options.dump_points steps).recent;
      folder = folder;
      put = files_at m guest first steps;
    }

    none_in : (thread : ℕ) → steps_of_thread thread steps ≡ [] → steps_of_thread thread last_plan.segment ≡ []
    none_in thread none =
        none_left (steps_of_thread thread o.earlier) (steps_of_thread thread last_plan.segment)
        (sym (own-append thread o.earlier last_plan.segment) ∙ ap (steps_of_thread thread) (sym o.together) ∙ none)

    none_beyond : (t : ℕ) → machine.engine.kernel.guest.made + 1 ≤ t → steps_of_thread t last_plan.segment ≡ []
    none_beyond t le = none_in t (o.made t (omega (arith, le)))

    none_first : (part : ℕ) (trigger : Trigger) → calls_below last_plan part trigger 1 ≡ []
    none_first part trigger =
        below-next m last_plan part trigger 0 ∙ no_calls m last_plan part trigger 0 (none_in 0 o.zero)

    -- thread 0 has no steps
    seen_since : (thread : ℕ)
        → events_on_stack_of thread last_plan.segment ≡ events_on_stack_of thread (since_of 1 last_plan.segment thread)
    seen_since thread = by (nat_lt thread 1) refl
      where
        by : (b : Bool) → nat_lt thread 1 ≡ b
            → events_on_stack_of thread last_plan.segment ≡ events_on_stack_of thread (if b then [] else last_plan.segment)
        by false is = refl
        by true is =
            ap (map (λ (y : Step). y.on_stack))
            (ap (λ n. steps_of_thread n last_plan.segment) (is_zero thread is) ∙ none_in 0 o.zero)
          where
            is_zero : (n : ℕ) → nat_lt n 1 ≡ true → n ≡ 0
            is_zero n e = grind (arith, nat_tests)

    -- the puts begin
    pub last_begins : (k : PartHead) → IsHead guest k → IsPutting m last_plan 1 k r w
    last_begins k head = record {
      known = λ thread known.
          (let has = o.accounts.known thread known in
          record {
            first = has.first;
            stands =
                subst (λ xs. Stands guest.syms (stack_at guest.syms steps thread.0 has.first) xs (account r thread))
                (seen_since thread.0) has.stands;
            within = has.within;
          });
      unknown = o.accounts.unknown;
      head = head;
      watch =
          subst (λ cs. IsWatched m guest first steps cs w)
          (sym (append-nil last_plan.before)
          ∙ ap (λ cs. last_plan.before ++ cs) (sym (none_first k.part k.trigger)))
          o.watch;
      stacks = λ x there.
          o.stacks x
          (subst (λ xs. IsIn xs x) (sym o.together) (in_right o.earlier last_plan.segment x there));
      earlier = o.earlier;
      together = o.together;
    }

    pub nothing_put : (part : ℕ) (trigger : Trigger)
        → files_at m guest first steps ≡ files_after m last_plan (calls_below last_plan part trigger 1)
    nothing_put part trigger =
        sym (append-nil (files_at m guest first steps))
        ∙ ap (λ cs. files_after m last_plan cs) (sym (none_first part trigger))

    calls_are : (part : ℕ) → part ≡ length (cuts guest.syms guest.options.dump_points steps).closed + 1
        → last_plan.before ++ calls_below last_plan part Termination (machine.engine.kernel.guest.made + 1)
        ≡ calls_of guest steps stop.tried
    calls_are part number =
        ap (λ cs. last_plan.before ++ cs)
        (below-all m last_plan part Termination (machine.engine.kernel.guest.made + 1) none_beyond
        ∙ ap (λ n. all_calls last_plan n Termination) number)
        ∙ sym (calls_whole guest steps stop.tried)

    -- all files are those of the run
    pub files_are : (part : ℕ) → part ≡ length (cuts guest.syms guest.options.dump_points steps).closed + 1
        → files_after m last_plan (calls_below last_plan part Termination (machine.engine.kernel.guest.made + 1))
        ≡ (watched_parts m first guest).whole steps stop.tried
    files_are part number =
        let base = guest.options.base in
        let cs = calls_so_far guest steps in
        let parts = calls_below last_plan part Termination (machine.engine.kernel.guest.made + 1) in
        ap (λ fs. fs ++ puts m guest.syms base (after_calls m guest.syms first last_plan.before) parts)
        (sym (puts-append m guest.syms base first cs (tried_calls stop.tried)
        ∙ ap (λ fs. files_at m guest first steps ++ fs) (tried_puts m guest.syms base
        (after_calls m guest.syms first cs) stop.tried)
        ∙ append-nil (files_at m guest first steps)))
        ∙ sym (puts-append m guest.syms base first last_plan.before parts)
        ∙ ap (puts m guest.syms base first) (calls_are part number)

    -- the watch was told of the whole run, which has one trace
    pub watched_all : (k : PartHead) (s : Recording) (v : W)
        → IsPutting m last_plan (machine.engine.kernel.guest.made + 1) k s v
        → k.part ≡ length (cuts guest.syms guest.options.dump_points steps).closed + 1 → k.trigger ≡ Termination
        → (trace : List RunStep) (end : Stop) → IsTraceOf guest trace end
        → v ≡ after_calls m guest.syms first (calls_of guest (steps_of trace) end.tried)
    watched_all k s v is number trigger trace end other =
        let same = IsTrace-same (next_step guest) (start guest) past trace stop end o.is other in
        is.watch.state
        ∙ ap (λ t. after_calls m guest.syms first
        (last_plan.before ++ calls_below last_plan k.part t (machine.engine.kernel.guest.made + 1))) trigger
        ∙ ap (after_calls m guest.syms first) (calls_are k.part number)
        ∙ (λ i. after_calls m guest.syms first (calls_of guest (steps_of (same.0 i)) (same.1 i).tried))
