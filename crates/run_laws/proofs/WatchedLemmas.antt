-- The calls of a run are a watched run, where its steps are as a run makes them.
use Rattle.std.proofs.Common.{◌≡◌, ◌≢◌, ◌⊎◌, inl, inr, ℕ, ◌+◌, ◌<◌, ◌==◌, true, false, List, [], ◌∷◌, ◌++◌, Option}
use Rattle.std.proofs.Common.{None, Some, IfSome, flat_map, length, refl, ap, sym, subst, ◌∙◌, arith, append_assoc}
use Rattle.std.specs.List.{enumerate_from}
use Rattle.std.proofs.lemmas.Bool.Decides.{eqb_tells}
use Rattle.std.proofs.lemmas.List.{append-nil, length-append, length-map}
use Rattle.event_costs.specs.declared.numbers.ThreadNo.{ThreadNo}
use Rattle.cg_format.specs.declared.trigger.Trigger.{Trigger}
use Rattle.cg_format.specs.declared.trigger.Trigger.TheVariants.{Termination}
use Rattle.arc_costs.specs.Contents.{Listed}
use Rattle.sym_map.specs.SymbolMap.{SymbolMap}
use Rattle.shadow_stack.specs.Traces.{EventOnStack}
use Rattle.cg_format.specs.Part.{AreKnown}
use Rattle.cg_format.specs.declared.head.PartHead.{PartHead}
use Rattle.part_dump.specs.Calls.{Call, Readies, Sees, Writes, calls, closed_calls, head_of, part_calls, segment_calls}
use Rattle.part_dump.specs.Calls.{steps_calls, thread_calls, tried_calls}
use Rattle.part_dump.specs.Cuts.{DumpPoints, cuts}
use Rattle.part_dump.specs.Steps.{Step, event_of, steps_of_thread, events_on_stack_of, thread_of, threads}
use Rattle.part_dump.specs.Watched.{FitAll, IsOrderly, AreWatched, ready_pc, steps_in}
use Rattle.run_laws.proofs.Others.{cuts_together, own-append, own-other, own-push, if_other, readied_more, steps_more}
use Rattle.part_dump.proofs.WatchLemmas.{last-push}
use Rattle.once_each.specs.Runs.{AreOrderly, AreOrderlyAfter}

fit_append : (syms : SymbolMap) (earlier xs ys : List Call) → FitAll syms earlier xs → FitAll syms (earlier ++ xs) ys
    → FitAll syms earlier (xs ++ ys)
fit_append syms earlier [] ys all more = subst (λ (cs : List Call). FitAll syms cs ys) (append-nil earlier) more
fit_append syms earlier (c ∷ xs) ys all more = (
  all.0,
  fit_append syms (earlier ++ c ∷ []) xs ys all.1
      (subst (λ (cs : List Call). FitAll syms cs ys) (sym (append_assoc earlier (c ∷ []) xs)) more),
)

pub orderly_split : (syms : SymbolMap) (earlier xs ys : List Step) → AreOrderlyAfter syms earlier (xs ++ ys)
    → AreOrderlyAfter syms earlier xs × AreOrderlyAfter syms (earlier ++ xs) ys
orderly_split syms earlier [] ys all =
    (tt, subst (λ (past : List Step). AreOrderlyAfter syms past ys) (sym (append-nil earlier)) all)
orderly_split syms earlier (x ∷ xs) ys all =
    let rest = orderly_split syms (earlier ++ x ∷ []) xs ys all.1 in (
      (all.0, rest.0),
      subst (λ (past : List Step). AreOrderlyAfter syms past ys)
          (append_assoc earlier (x ∷ []) xs) rest.1,
    )

-- A thread without a step was never ready.
abbrev Quiet : List Call → Type 0
Quiet earlier = (thread : ℕ) → steps_of_thread thread (steps_in earlier) ≡ [] → ready_pc thread earlier ≡ None

-- the calls end in these steps, before which there are others
record Stands (earlier : List Call) (past : List Step) : Type 0 where
  steps : steps_in earlier ≡ past
  quiet : Quiet earlier

some_own : (thread : ℕ) (past : List Step) (x : Step) → thread_of x ≡ thread → steps_of_thread thread (past ++ x ∷ []) ≡ [] → ⊥
some_own thread past x is none = by (steps_of_thread thread past) (sym (own-push thread past x is) ∙ none)
  where
    by : (ys : List Step) → ys ++ x ∷ [] ≡ [] → ⊥
    by [] same = cc
    by (y ∷ ys) same = cc

module _ (syms : SymbolMap) where
  -- ---- a step

  abbrev with_step : List Call → Step → List Call
  with_step earlier x = (earlier ++ Readies (event_of x).thread (event_of x).done.pc ∷ []) ++ Sees x ∷ []

  step_stands : (earlier : List Call) (past : List Step) (x : Step) → Stands earlier past
      → Stands (with_step earlier x) (past ++ x ∷ [])
  step_stands earlier past x stands =
      let ready : Call = Readies (event_of x).thread (event_of x).done.pc in
      let same : steps_in (with_step earlier x) ≡ past ++ x ∷ []
      = steps_more (earlier ++ ready ∷ []) (Sees x)
      ∙ ap (λ (ys : List Step). ys ++ x ∷ []) (steps_more earlier ready ∙ append-nil (steps_in earlier)
      ∙ stands.steps) in
      record {
        steps = same;
        quiet = λ thread none. by thread (sym (ap (steps_of_thread thread) same) ∙ none) (eqb_tells (thread_of x) thread);
      }
    where
      by : (thread : ℕ) → steps_of_thread thread (past ++ x ∷ []) ≡ []
          → ((thread_of x == thread ≡ true) × (thread_of x ≡ thread))
          ⊎ ((thread_of x == thread ≡ false) × (thread_of x ≢ thread)) → ready_pc thread (with_step earlier x) ≡ None
      by thread none (inl is) = absurd (some_own thread past x is.1 none)
      by thread none (inr other) =
          readied_more thread (earlier ++ Readies (event_of x).thread (event_of x).done.pc ∷ []) (Sees x)
          ∙ readied_more thread earlier (Readies (event_of x).thread (event_of x).done.pc)
          ∙ if_other (thread_of x) thread (Some (event_of x).done.pc) (ready_pc thread earlier) other.1
          ∙ stands.quiet thread
          (ap (steps_of_thread thread) stands.steps ∙ sym (own-other thread past x other.1) ∙ none)

  steps_fit : (xs : List Step) (earlier : List Call) (past : List Step) → Stands earlier past
      → AreOrderlyAfter syms past xs → FitAll syms earlier (steps_calls xs)
  steps_fit [] earlier past stands orderly = tt
  steps_fit (x ∷ xs) earlier past stands orderly =
      let ready : Call = Readies (event_of x).thread (event_of x).done.pc in (
        (λ none.
            subst (λ (o : Option ℕ). IfSome o (λ before. before ≡ (event_of x).done.pc))
            (sym (stands.quiet (thread_of x) none)) tt),
        (
          (
            last-push earlier ready,
            subst (λ (ys : List Step). IsOrderly syms ys x)
                (sym (steps_more earlier ready ∙ append-nil (steps_in earlier) ∙ stands.steps)) orderly.0,
          ),
          steps_fit xs (with_step earlier x) (past ++ x ∷ []) (step_stands earlier past x stands) orderly.1,
        ),
      )

  steps_stand : (xs : List Step) (earlier : List Call) (past : List Step) → Stands earlier past
      → Stands (earlier ++ steps_calls xs) (past ++ xs)
  steps_stand [] earlier past stands =
      subst (λ (cs : List Call). Stands cs (past ++ [])) (sym (append-nil earlier))
      (subst (λ (ys : List Step). Stands earlier ys) (sym (append-nil past)) stands)
  steps_stand (x ∷ xs) earlier past stands =
      let ready : Call = Readies (event_of x).thread (event_of x).done.pc in
      let rest = steps_stand xs (with_step earlier x) (past ++ x ∷ []) (step_stands earlier past x stands) in
      subst (λ (cs : List Call). Stands cs (past ++ x ∷ xs))
      (append_assoc (earlier ++ ready ∷ []) (Sees x ∷ []) (steps_calls xs)
      ∙ append_assoc earlier (ready ∷ []) (Sees x ∷ steps_calls xs))
      (subst (λ (ys : List Step). Stands (with_step earlier x ++ steps_calls xs) ys)
      (append_assoc past (x ∷ []) xs) rest)

  -- ---- parts

  module _ (rows_of : List EventOnStack → Listed) (head : PartHead) (all : List Step)
      (known : (thread : ℕ) (before segment after : List Step) → before ++ (segment ++ after) ≡ all
      → AreKnown syms (rows_of (events_on_stack_of thread segment))) where
    part_stands : (earlier : List Call) (past : List Step) (h : PartHead) (rows : Listed) → Stands earlier past
        → Stands (earlier ++ Writes h rows ∷ []) past
    part_stands earlier past h rows stands =
        let same = steps_more earlier (Writes h rows) ∙ append-nil (steps_in earlier) in
        record {
          steps = same ∙ stands.steps;
          quiet = λ thread none. readied_more thread earlier (Writes h rows)
              ∙ stands.quiet thread (sym (ap (steps_of_thread thread) same) ∙ none);
        }

    module _ (part : ℕ) (trigger : Trigger) (before segment after : List Step)
        (whole : before ++ (segment ++ after) ≡ all) where
      abbrev of_thread : ℕ → List Call
      of_thread thread = thread_calls rows_of head part trigger thread (events_on_stack_of thread segment)

      own_there : (thread : ℕ) (ys : List EventOnStack) (y : EventOnStack) → events_on_stack_of thread segment ≡ y ∷ ys
          → 0 < length (steps_of_thread thread (before ++ segment))
      own_there thread ys y is =
          let all_own = ap (length {A = Step}) (own-append thread before segment)
          ∙ length-append (steps_of_thread thread before) (steps_of_thread thread segment) in
          let seen = sym (length-map (steps_of_thread thread segment) (λ (x : Step). x.on_stack)) ∙ ap (length {A = EventOnStack}) is in
          omega (arith, all_own, seen)

      thread_fits : (thread : ℕ) (earlier : List Call) → Stands earlier (before ++ segment)
          → FitAll syms earlier (of_thread thread) × Stands (earlier ++ of_thread thread) (before ++ segment)
      thread_fits thread earlier stands = by (events_on_stack_of thread segment) refl
        where
          by : (ys : List EventOnStack) → events_on_stack_of thread segment ≡ ys
              → FitAll syms earlier (thread_calls rows_of head part trigger thread ys)
              × Stands (earlier ++ thread_calls rows_of head part trigger thread ys) (before ++ segment)
          by [] none =
              (tt, subst (λ (cs : List Call). Stands cs (before ++ segment)) (sym (append-nil earlier)) stands)
          by (y ∷ ys) some = (
            (
              (
                subst (λ (past : List Step). 0 < length (steps_of_thread thread past)) (sym stands.steps)
                    (own_there thread ys y some),
                subst (λ (xs : List EventOnStack). AreKnown syms (rows_of xs)) some (known thread before segment after whole),
              ),
              tt,
            ),
            part_stands earlier (before ++ segment) (head_of head part trigger thread) (rows_of (y ∷ ys)) stands,
          )

      parts_fit : (us : List ℕ) (earlier : List Call) → Stands earlier (before ++ segment)
          → FitAll syms earlier (flat_map of_thread us) × Stands (earlier ++ flat_map of_thread us) (before ++ segment)
      parts_fit [] earlier stands =
          (tt, subst (λ (cs : List Call). Stands cs (before ++ segment)) (sym (append-nil earlier)) stands)
      parts_fit (u ∷ us) earlier stands =
          let one = thread_fits u earlier stands in
          let rest = parts_fit us (earlier ++ of_thread u) one.1 in (
            fit_append syms earlier (of_thread u) (flat_map of_thread us) one.0 rest.0,
            subst (λ (cs : List Call). Stands cs (before ++ segment))
                (append_assoc earlier (of_thread u) (flat_map of_thread us)) rest.1,
          )

      segment_fits : (earlier : List Call) → Stands earlier before → AreOrderlyAfter syms before segment
          → FitAll syms earlier (segment_calls rows_of head part segment trigger)
          × Stands (earlier ++ segment_calls rows_of head part segment trigger) (before ++ segment)
      segment_fits earlier stands orderly =
          let stood = steps_stand segment earlier before stands in
          let parts = parts_fit (threads segment) (earlier ++ steps_calls segment) stood in (
            fit_append syms earlier (steps_calls segment) (part_calls rows_of head part segment trigger)
                (steps_fit segment earlier before stands orderly) parts.0,
            subst (λ (cs : List Call). Stands cs (before ++ segment))
                (append_assoc earlier (steps_calls segment) (part_calls rows_of head part segment trigger)) parts.1,
          )

    abbrev steps_of_all : List (List Step × Trigger) → List Step
    steps_of_all segments = flat_map (λ (s : List Step × Trigger). s.0) segments

    closed_fit : (n : ℕ) (segments : List (List Step × Trigger)) (earlier : List Call) (before after : List Step)
        → before ++ (steps_of_all segments ++ after) ≡ all → Stands earlier before
        → AreOrderlyAfter syms before (steps_of_all segments ++ after)
        → FitAll syms earlier
        (flat_map (λ s. segment_calls rows_of head s.0 s.1.0 s.1.1) (enumerate_from n segments))
        × Stands
        (earlier ++ flat_map (λ s. segment_calls rows_of head s.0 s.1.0 s.1.1) (enumerate_from n segments))
        (before ++ steps_of_all segments)
    closed_fit n [] earlier before after whole stands orderly = (
      tt,
      subst (λ (cs : List Call). Stands cs (before ++ [])) (sym (append-nil earlier))
          (subst (λ (ys : List Step). Stands earlier ys) (sym (append-nil before)) stands),
    )
    closed_fit n (p ∷ ps) earlier before after whole stands orderly =
        let order = subst (AreOrderlyAfter syms before) (append_assoc p.0 (steps_of_all ps) after) orderly in
        let parts = orderly_split syms before p.0 (steps_of_all ps ++ after) order in
        let all_steps : before ++ (p.0 ++ (steps_of_all ps ++ after)) ≡ all
        = ap (λ (ys : List Step). before ++ ys) (sym (append_assoc p.0 (steps_of_all ps) after)) ∙ whole in
        let one = segment_fits n p.1 before p.0 (steps_of_all ps ++ after) all_steps earlier stands parts.0 in
        let rest =
        closed_fit (n + 1) ps (earlier ++ segment_calls rows_of head n p.0 p.1) (before ++ p.0) after
        (append_assoc before p.0 (steps_of_all ps ++ after) ∙ all_steps) one.1 parts.1 in (
          fit_append syms earlier (segment_calls rows_of head n p.0 p.1)
              (flat_map (λ s. segment_calls rows_of head s.0 s.1.0 s.1.1) (enumerate_from (n + 1) ps)) one.0 rest.0,
          subst (λ (cs : List Call). Stands cs (before ++ (p.0 ++ steps_of_all ps)))
              (append_assoc earlier (segment_calls rows_of head n p.0 p.1)
              (flat_map (λ s. segment_calls rows_of head s.0 s.1.0 s.1.1) (enumerate_from (n + 1) ps)))
              (subst (λ (ys : List Step). Stands ((earlier ++ segment_calls rows_of head n p.0 p.1)
              ++ flat_map (λ s. segment_calls rows_of head s.0 s.1.0 s.1.1) (enumerate_from (n + 1) ps)) ys)
              (append_assoc before p.0 (steps_of_all ps)) rest.1),
        )

    nothing_stands : Stands [] []
    nothing_stands = record { steps = refl; quiet = λ thread none. refl }

    tried_fits : (tried : Option (ThreadNo × ℕ)) (earlier : List Call) (past : List Step) → Stands earlier past
        → FitAll syms earlier (tried_calls tried)
    tried_fits None earlier past stands = tt
    tried_fits (Some t) earlier past stands = (
      (λ none. subst (λ (o : Option ℕ). IfSome o (λ before. before ≡ t.1)) (sym (stands.quiet t.0.0 none)) tt),
      tt,
    )

    tried_steps : (tried : Option (ThreadNo × ℕ)) (earlier : List Call)
        → steps_in (earlier ++ tried_calls tried) ≡ steps_in earlier
    tried_steps None earlier = ap steps_in (append-nil earlier)
    tried_steps (Some t) earlier = steps_more earlier (Readies t.0 t.1) ∙ append-nil (steps_in earlier)

    -- the last parts, which ask for no more than that their threads have made steps
    last_fit : (part : ℕ) (trigger : Trigger) (before segment : List Step) → before ++ segment ≡ all → (us : List ℕ)
        → (earlier : List Call) → steps_in earlier ≡ before ++ segment
        → FitAll syms earlier
        (flat_map (λ thread. thread_calls rows_of head part trigger thread (events_on_stack_of thread segment)) us)
    last_fit part trigger before segment whole [] earlier steps = tt
    last_fit part trigger before segment whole (u ∷ us) earlier steps =
        fit_append syms earlier (thread_calls rows_of head part trigger u (events_on_stack_of u segment))
        (flat_map (λ thread. thread_calls rows_of head part trigger thread (events_on_stack_of thread segment)) us)
        (by (events_on_stack_of u segment) refl)
        (last_fit part trigger before segment whole us
        (earlier ++ thread_calls rows_of head part trigger u (events_on_stack_of u segment))
        (same (events_on_stack_of u segment) ∙ steps))
      where
        whole_nil : before ++ (segment ++ []) ≡ all
        whole_nil = ap (λ (ys : List Step). before ++ ys) (append-nil segment) ∙ whole

        same : (ys : List EventOnStack) → steps_in (earlier ++ thread_calls rows_of head part trigger u ys) ≡ steps_in earlier
        same [] = ap steps_in (append-nil earlier)
        same (y ∷ ys) =
            steps_more earlier (Writes (head_of head part trigger u) (rows_of (y ∷ ys))) ∙ append-nil (steps_in earlier)

        by : (ys : List EventOnStack) → events_on_stack_of u segment ≡ ys
            → FitAll syms earlier (thread_calls rows_of head part trigger u ys)
        by [] none = tt
        by (y ∷ ys) some = (
          (
            subst (λ (past : List Step). 0 < length (steps_of_thread u past)) (sym steps)
                (own_there part trigger before segment [] whole_nil u ys y some),
            subst (λ (xs : List EventOnStack). AreKnown syms (rows_of xs)) some (known u before segment [] whole_nil),
          ),
          tt,
        )

  module _ (rows_of : List EventOnStack → Listed) (head : PartHead) (asked : DumpPoints) (trace : List Step)
      (known : (thread : ℕ) (before segment after : List Step) → before ++ (segment ++ after) ≡ trace
      → AreKnown syms (rows_of (events_on_stack_of thread segment))) (orderly : AreOrderly syms trace) where
    abbrev closed : List (List Step × Trigger)
    closed = (cuts syms asked trace).closed

    abbrev recent : List Step
    recent = (cuts syms asked trace).recent

    abbrev done : List Step
    done = flat_map (λ (s : List Step × Trigger). s.0) closed

    together : done ++ recent ≡ trace
    together = cuts_together syms asked trace

    order : AreOrderlyAfter syms [] (done ++ recent)
    order = subst (AreOrderlyAfter syms []) (sym together) orderly

    closed_all : FitAll syms [] (closed_calls rows_of head closed) × Stands (closed_calls rows_of head closed) done
    closed_all =
        closed_fit rows_of head trace known 1 closed [] [] recent together
        (nothing_stands rows_of head trace known) order

    recent_order : AreOrderlyAfter syms done recent
    recent_order = (orderly_split syms [] done recent order).1

    recent_stands : Stands (closed_calls rows_of head closed ++ steps_calls recent) (done ++ recent)
    recent_stands = steps_stand recent (closed_calls rows_of head closed) done closed_all.1

    pub steps_are : steps_in (closed_calls rows_of head closed ++ steps_calls recent) ≡ trace
    steps_are = recent_stands.steps ∙ together

    pub so_far_watched : AreWatched syms (closed_calls rows_of head closed ++ steps_calls recent)
    so_far_watched =
        fit_append syms [] (closed_calls rows_of head closed) (steps_calls recent) closed_all.0
        (steps_fit recent (closed_calls rows_of head closed) done closed_all.1 recent_order)

    pub run_watched : (tried : Option (ThreadNo × ℕ)) → AreWatched syms (calls rows_of head syms asked trace tried)
    unfolding calls
    run_watched tried =
        let early = closed_calls rows_of head closed ++ steps_calls recent in
        let last = part_calls rows_of head (length closed + 1) recent Termination in
        fit_append syms [] (early ++ tried_calls tried) last
        (fit_append syms [] early (tried_calls tried) so_far_watched
        (tried_fits rows_of head trace known tried early (done ++ recent) recent_stands))
        (last_fit rows_of head trace known (length closed + 1) Termination done recent together (threads recent)
        (early ++ tried_calls tried)
        (tried_steps rows_of head trace known tried early ∙ recent_stands.steps))
