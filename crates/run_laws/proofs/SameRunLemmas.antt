-- A guest whose code another map tells the same makes the same steps, with the same rows.
use Rattle.std.proofs.Common.{◌≡◌, ◌<◌, ◌+◌, ◌^◌, ℕ, List, [], ◌∷◌, ◌++◌, append_assoc, length, map, flat_map, refl, ap, sym}
use Rattle.std.specs.Option.{option_or}
use Rattle.std.proofs.Common.{subst, ◌∙◌, Option, None, Some, Result, Ok, Err, arith}
use Rattle.std.specs.List.{AllByRecursion, enumerate_from}
use Rattle.std.specs.Prelude.{slice_index_or}
use Rattle.std.proofs.lemmas.List.{append-nil, map-append}
use Rattle.event_costs.specs.Runs.{Run}
use Rattle.event_costs.specs.declared.outcome.End.{End}
use Rattle.cache_lru.specs.Costs.{event_cost}
use Rattle.cg_format.specs.declared.trigger.Trigger.{Trigger}
use Rattle.cg_format.specs.declared.trigger.Trigger.TheVariants.{Termination}
use Rattle.guest_sched.specs.Engine.{Engine}
use Rattle.guest_sched.specs.Machine.{Machine, next}
use Rattle.guest_sched.specs.Step.{MachineStep, step as machine_step}
use Rattle.arc_costs.specs.Contents.{Listed}
use Rattle.byte_text.specs.Names.{clean_name}
use Rattle.cg_format.specs.declared.head.PartHead.{PartHead}
use Rattle.cg_read.specs.Profiles.{Contents, files_of, functions_of, has_function, has_text, named_call_rows}
use Rattle.cg_read.specs.Profiles.{named_self_rows}
use Rattle.once_each.specs.Texts.{named_arc, named_line}
use Rattle.reads_back.specs.Joined.{rows_of_all}
use Rattle.reads_back.specs.Rows.{IsOfRows, naming}
use Rattle.byte_text.specs.Names.{unknown as unknown_name}
use Rattle.sym_map.specs.Places.{unknown_function}
use Rattle.sym_map.specs.SymbolMap.{SymbolMap, identity_in}
use Rattle.shadow_stack.specs.Traces.{EventOnStack}
use Rattle.part_dump.specs.Cuts.{Split}
use Rattle.part_dump.specs.Steps.{Step, events_on_stack_of, threads}
use Rattle.recorder.specs.Rows.{rows_of}
use Rattle.profile_run.specs.Program.{Program, CanRun, head_of_run}
use Rattle.profile_run.specs.Steps.{AreTold}
use Rattle.profile_run.specs.Trace.{IsTraceOf, Makes, Position, RunStep, Stop, end_before, events_of}
use Rattle.profile_run.specs.Trace.{next_step, run_step, start, steps_of}
use Rattle.run_laws.proofs.Others.{going-end, going-over, going-step}
use Rattle.once_each.specs.Written.{segment_parts, segments_of, thread_part}
use Rattle.run_laws.specs.Maps.{TellTheSame, with_map}
use Rattle.run_laws.specs.Profiles.{IsProfileOfRun}
use Rattle.run_laws.specs.Runs.{command_of_run, part_of, parts_written, rows_of_run, segment_written}
use Rattle.run_laws.proofs.Others.{Holds, IsTrace-same, all_append, goes_is, holds_first, holds_next}
use Rattle.run_laws.proofs.EventLemmas as run_events
use Rattle.run_laws.proofs.NextLemmas.{next_low}
use Rattle.run_laws.proofs.PartLemmas as parts
use Rattle.run_laws.proofs.PartLemmas.{together}
use Rattle.run_laws.proofs.SameStackLemmas.{AreLow, IsLowSeen, IsLowStep, at_same, cuts_same, live_same, low_seen, rows_same}
use Rattle.profile_run.proofs.TraceLemmas.{budget_end, exit_end, frames_end, waiting_end}

-- ---- the pcs of a run

module _ (guest : Program) (can : CanRun guest) where
  lows_from : (earlier tolds : List MachineStep) (m n : Machine) (before past : List RunStep)
      → Holds (run_events.first guest can) earlier m → Run next m tolds n → AreTold guest before tolds past
      → AreLow (steps_of past)
  lows_from earlier [] m n before [] holds run are = tt
  lows_from earlier [] m n before (x ∷ past) holds run are = absurd are
  lows_from earlier (t ∷ ts) m n before [] holds run are = tt
  lows_from earlier (t ∷ ts) m n before (x ∷ past) holds run are =
      let step = holds_next (run_events.first guest can) earlier m t run.0 holds run.1 in
      let within = step.1.within.0 in (
        subst (λ (y : RunStep). IsLowStep y.step) (sym are.0.is) (omega (arith, within), next_low m t run.0 run.1),
        lows_from (earlier ++ t ∷ []) ts run.0 n (before ++ x ∷ []) past step.0 run.2 are.1,
      )

  pub lows : (past : List RunStep) → Makes guest past → AreLow (steps_of past)
  lows past makes =
      let machine = run_events.machine guest can past makes in
      let reached = run_events.reached guest can past makes in
      lows_from [] machine.tolds _ machine.last [] past
      (holds_first (run_events.first guest can) guest.options.quantum guest.options.seed reached.lawful) machine.run
      machine.are

module _ (guest : Program) (can : CanRun guest) (syms : SymbolMap) (same : TellTheSame guest.syms syms) where
  abbrev m : SymbolMap
  m = guest.syms

  abbrev other : Program
  other = with_map syms guest

  -- ---- steps

  step_same : (past : List RunStep) (told : MachineStep) → AreLow (steps_of past) → told.event.done.pc < 2 ^ 32
      → run_step guest past told ≡ run_step other past told
  step_same past told all low = λ i. record {
    step = record {
      on_stack = record {
        event = told.event;
        cost = event_cost guest.options.branch guest.options.shapes (events_of past) told.event;
        stack = at_same m syms same (steps_of past) told.event.thread.0 told.event.done.pc low all i;
      };
      wait = told.wait;
      woken = told.woken;
    };
    output = told.output;
    threads = told.threads;
  }

  end_same : (machine : Engine) (past : List RunStep) → AreLow (steps_of past)
      → end_before guest machine past ≡ end_before other machine past
  end_same machine past all = λ i.
      option_or (exit_end machine.exit)
      (option_or (budget_end guest.options.budget (length past))
      (option_or (frames_end (live_same m syms same (steps_of past) all i)) (waiting_end machine.run_queue.ready)))

  low_push : (before : List RunStep) (x : RunStep) → AreLow (steps_of before) → IsLowStep x.step
      → AreLow (steps_of (before ++ x ∷ []))
  low_push before x all low =
      subst AreLow (sym (map-append (λ (y : RunStep). y.step) before (x ∷ [])))
      (all_append IsLowStep (steps_of before) (x.step ∷ []) all (low, tt))

  -- the other one's run from a position on
  pub record Follows (before past : List RunStep) (machine : Engine) (last : Position) : Type 0 where
    pub run : Run (next_step other) (machine, before) past last
    pub past_is : last.1 ≡ before ++ past

  follows : (before past : List RunStep) (machine : Engine) (last : Position) → AreLow (steps_of before)
      → AreLow (steps_of past)
      → Run (next_step guest) (machine, before) past last → Follows before past machine last
  follows before [] machine last all low run = record {
    run = run;
    past_is = sym (ap (λ (p : Position). p.1) run) ∙ sym (append-nil before);
  }
  follows before (x ∷ past) machine last all low run =
      let g = goes_is guest (machine, before) x run.0 run.1 in
      let first = subst (λ (y : RunStep). y.step.on_stack.event.done.pc < 2 ^ 32) g.is low.0.0 in
      let step : run_step other before g.told ≡ x
      = sym (step_same before g.told all first) ∙ sym g.is in
      let rest = follows (before ++ x ∷ []) past g.machine last (low_push before x all low.0) low.1
      (subst (λ p. Run (next_step guest) p past last) g.after run.2) in
      record {
        run = (
          (g.machine, before ++ x ∷ []),
          going-step other (machine, before) g.told g.machine (sym (end_same machine before all) ∙ g.none) g.makes
              ∙ ap (λ (y : RunStep). Ok (y, (g.machine, before ++ y ∷ []))) step,
          rest.run,
        );
        past_is = rest.past_is ∙ append_assoc before (x ∷ []) past;
      }

  pub makes_same : (past : List RunStep) → Makes guest past → Makes other past
  makes_same past makes = record {
    last = makes.last;
    run = (follows [] past (start guest).0 makes.last tt (lows guest can past makes) makes.run).run;
  }

  not_both : {A E : Type 0} (a : A) (e : E) → ◌≡◌ {A = Result A E} (Ok a) (Err e) → ⊥
  not_both a e is = cc

  stops_same : (machine : Engine) (past : List RunStep) (stop : Stop) → AreLow (steps_of past)
      → next_step guest (machine, past) ≡ Err stop → next_step other (machine, past) ≡ Err stop
  stops_same machine past stop all is = by (end_before guest machine past) refl (machine_step machine) refl
    where
      end : end_before other machine past ≡ end_before guest machine past
      end = sym (end_same machine past all)

      by : (o : Option End) → end_before guest machine past ≡ o → (r : Result (MachineStep × Engine) End)
          → machine_step machine ≡ r → next_step other (machine, past) ≡ Err stop
      by (Some e) over r made =
          going-over other (machine, past) e (end ∙ over) ∙ sym (going-over guest (machine, past) e over) ∙ is
      by None none (Err e) made =
          going-end other (machine, past) e (end ∙ none) made ∙ sym (going-end guest (machine, past) e none made) ∙ is
      by None none (Ok made) makes =
          absurd (not_both _ stop (sym (going-step guest (machine, past) made.0 made.1 none makes) ∙ is))

  trace_same : (trace : List RunStep) (stop : Stop) → IsTraceOf guest trace stop → IsTraceOf other trace stop
  trace_same trace stop is =
      let all = lows guest can trace (record { last = is.last; run = is.run }) in
      let run = follows [] trace (start guest).0 is.last tt all is.run in
      record {
        last = is.last;
        run = run.run;
        stop = ap (λ past. next_step other (is.last.0, past)) run.past_is
            ∙ stops_same is.last.0 trace stop all
            (ap (λ past. next_step guest (is.last.0, past)) (sym run.past_is) ∙ is.stop);
      }

  pub one_trace : (trace others : List RunStep) (stop end : Stop) → IsTraceOf guest trace stop
      → IsTraceOf other others end → (trace ≡ others) × (stop ≡ end)
  one_trace trace others stop end is also =
      IsTrace-same (next_step other) (start other) trace others stop end (trace_same trace stop is) also

  -- ---- parts

  abbrev Segment : Type 0
  Segment = List Step × Trigger

  low_split : (xs ys : List Step) → AreLow (xs ++ ys) → AreLow xs × AreLow ys
  low_split [] ys all = (tt, all)
  low_split (x ∷ xs) ys all = let rest = low_split xs ys all.1 in ((all.0, rest.0), rest.1)

  part_same : (thread : ℕ) (xs : List EventOnStack) → AllByRecursion IsLowSeen xs
      → thread_part (rows_of m) thread xs ≡ thread_part (rows_of syms) thread xs
  part_same thread [] all = refl
  part_same thread (x ∷ xs) all =
      λ i. record { thread = record { 0 = thread }; rows = rows_same m syms same (x ∷ xs) all i } ∷ []

  pub segment_same : (segment : List Step) → AreLow segment
      → segment_parts (rows_of m) segment ≡ segment_parts (rows_of syms) segment
  segment_same segment all = λ i.
      flat_map (λ thread. part_same thread (events_on_stack_of thread segment) (low_seen thread segment all) i)
      (threads segment)

  written_same : (number : ℕ) (segments : List Segment) → AreLow (flat_map (λ (s : Segment). s.0) segments)
      → flat_map (λ s. segment_written guest s.0 s.1.0 s.1.1) (enumerate_from number segments)
      ≡ flat_map (λ s. segment_written other s.0 s.1.0 s.1.1) (enumerate_from number segments)
  written_same number [] all = refl
  written_same number (s ∷ segments) all =
      let both = low_split s.0 (flat_map (λ (t : Segment). t.0) segments) all in λ i.
      map (part_of (head_of_run guest) number s.1) (segment_same s.0 both.0 i)
      ++ written_same (number + 1) segments both.1 i

  pub segments_same : (past : List RunStep) → AreLow (steps_of past)
      → segments_of m guest.options.dump_points (steps_of past) ≡ segments_of syms guest.options.dump_points (steps_of past)
  segments_same past all =
      ap (λ (s : Split Step Trigger). s.closed ++ (s.recent, Termination) ∷ [])
      (cuts_same m syms same guest.options.dump_points (steps_of past) all)

  pub parts_same : (past : List RunStep) → Makes guest past → parts_written guest past ≡ parts_written other past
  parts_same past makes =
      let all = lows guest can past makes in
      written_same 1 (segments_of m guest.options.dump_points (steps_of past))
      (subst AreLow (sym (together guest can past makes)) all)
      ∙ ap (λ (ss : List Segment). flat_map (λ s. segment_written other s.0 s.1.0 s.1.1) (enumerate_from 1 ss))
      (segments_same past all)

  pub command_same : (past : List RunStep) → command_of_run other past ≡ command_of_run guest past
  command_same [] = refl
  command_same (x ∷ past) = refl

  -- ---- profiles

  naming_same : (head : PartHead) → naming head m ≡ naming head syms
  naming_same head = λ i.
      let identity = λ (k : ℕ). slice_index_or (map (identity_in (same.files i)) (same.functions i)) k unknown_function in
      record {
        func = λ k. record { object = clean_name head.object; file = (identity k).file; name = (identity k).name };
        file = λ k. slice_index_or (same.files i) k unknown_name;
        branches = head.branch;
      }

  pub of_rows_same : (head : PartHead) (command : Option (List ℕ)) (rows : Listed) (p : Contents)
      → IsOfRows head command rows m p → IsOfRows head command rows syms p
  of_rows_same head command rows p is = record {
    events = is.events;
    command_is = is.command_is;
    self_rows = subst (λ names. named_self_rows p ≡ map (named_line names) rows.lines) (naming_same head) is.self_rows;
    call_rows = subst (λ names. named_call_rows p ≡ map (named_arc names) rows.arcs) (naming_same head) is.call_rows;
    functions = λ f. subst (λ names. has_function p.functions f
        ≡ has_function (functions_of (map (named_line names) rows.lines) (map (named_arc names) rows.arcs)) f)
        (naming_same head) (is.functions f);
    files = λ t. subst (λ names. has_text p.files t
        ≡ has_text (files_of (map (named_line names) rows.lines) (map (named_arc names) rows.arcs)) t)
        (naming_same head) (is.files t);
  }

  pub profile_same : (past : List RunStep) (p : Contents) → Makes guest past → IsProfileOfRun guest past p
      → IsProfileOfRun other past p
  profile_same past p makes is =
      let rows = sym (parts.rows_same guest past) ∙ ap rows_of_all (parts_same past makes) ∙ parts.rows_same other past in
      record {
        profile = is.profile;
        rows = subst (λ command. IsOfRows (head_of_run guest) command (rows_of_run other past) syms p)
            (sym (command_same past))
            (of_rows_same (head_of_run guest) (command_of_run guest past) (rows_of_run other past) p
            (subst (λ rows. IsOfRows (head_of_run guest) (command_of_run guest past) rows m p) rows is.rows));
      }
