-- A run over the map that tells code by its addresses is the run of the guest, with other stacks; and its answer is one of
-- the run by address.
use Rattle.std.proofs.Common.{◌≡◌, inl, inr, ℕ, List, [], ◌∷◌, ◌++◌, append_assoc, flat_map, length, refl, ap, sym}
use Rattle.std.specs.Option.{option_or}
use Rattle.std.proofs.Common.{subst, suc, ◌∙◌, ◌+◌, Option, None, Some, Result, Ok, Err}
use Rattle.std.proofs.lemmas.List.{append-nil, map-append}
use Rattle.outside.specs.Outside.{Log, Outside, Output, puts_of}
use Rattle.outside.specs.Journal.{AreWritten, AreWrittenTo}
use Rattle.outside.specs.declared.sink.WriteError.TheVariants as write
use Rattle.event_costs.specs.Runs.{Run}
use Rattle.event_costs.specs.declared.outcome.End.{End}
use Rattle.cache_lru.specs.Costs.{event_cost}
use Rattle.guest_sched.specs.Engine.{Engine}
use Rattle.guest_sched.specs.Step.{MachineStep, step as machine_step}
use Rattle.sym_map.specs.SymbolMap.{SymbolMap}
use Rattle.shadow_stack.specs.Traces.{stack_of}
use Rattle.part_dump.specs.Cuts.{Split, cuts}
use Rattle.part_dump.specs.Steps.{Step, event_of, live, events_of_thread, stack_at, thread_of}
use Rattle.cg_format.specs.declared.trigger.Trigger.{Trigger}
use Rattle.profile_run.specs.Program.{Fits, Program, head_of_run}
use Rattle.profile_run.specs.Parts.{Writing, watched_parts}
use Rattle.profile_run.specs.Runs.{Answers, Does, EndsPart, RunEnd, HasDone, HasDoneSome, HasFailedAt, HasFailedBehind}
use Rattle.profile_run.specs.Runs.{IsAtPut, IsAtWrite, IsCut, IsCutShort, IsFrontOfTrace, Runs, whole_output}
use Rattle.profile_run.specs.Trace.{IsTraceOf, Makes, Position, Stop, RunStep, end_before, events_of, next_step}
use Rattle.profile_run.specs.Trace.{bytes_to, piece_to, pieces, sent_bytes, start, steps_of, run_step}
use Rattle.profile_run.specs.declared.run_fault.RunFault.{RunFault}
use Rattle.profile_run.specs.declared.run_fault.RunFault.TheVariants as fault
use Rattle.run_laws.proofs.Others.{goes_is, address_code, address_names, code_back}
use Rattle.run_laws.proofs.Others.{going-end, going-over, going-step}
use Rattle.sym_map.specs.AddressMap.{address_map}
use Rattle.addr_rows.specs.Files.{addr_files, closed_files}
use Rattle.addr_rows.specs.Stacked.{AreOn, with_stacks_of, with_stack_of}
use Rattle.addr_rows.specs.Translated.{translation}
use Rattle.addr_rows.proofs.RestackLemmas as restacks
use Rattle.addr_rows.proofs.TranslatedLemmas as files
use Rattle.run_laws.specs.Addresses.{addr_parts, addressed}
use Rattle.profile_run.proofs.TraceLemmas.{budget_end, exit_end, frames_end, waiting_end}

-- ---- steps with other stacks

-- a step that follows these, and steps
abbrev retaken : SymbolMap → List Step → RunStep → RunStep
retaken m earlier x = record { step = with_stack_of m earlier x.step; output = x.output; threads = x.threads }

abbrev retook : SymbolMap → List Step → List RunStep → List RunStep
retook m earlier [] = []
retook m earlier (x ∷ xs) = retaken m earlier x ∷ retook m (earlier ++ x.step ∷ []) xs

module _ (m : SymbolMap) where
  steps_retook : (earlier : List Step) (xs : List RunStep)
      → steps_of (retook m earlier xs) ≡ with_stacks_of m earlier (steps_of xs)
  steps_retook earlier [] = refl
  steps_retook earlier (x ∷ xs) = ap (λ ys. with_stack_of m earlier x.step ∷ ys) (steps_retook (earlier ++ x.step ∷ []) xs)

  events_retook : (earlier : List Step) (xs : List RunStep) → events_of (retook m earlier xs) ≡ events_of xs
  events_retook earlier [] = refl
  events_retook earlier (x ∷ xs) = ap (λ es. event_of x.step ∷ es) (events_retook (earlier ++ x.step ∷ []) xs)

  length_retook : (earlier : List Step) (xs : List RunStep) → length (retook m earlier xs) ≡ length xs
  length_retook earlier [] = refl
  length_retook earlier (x ∷ xs) = ap suc (length_retook (earlier ++ x.step ∷ []) xs)

  retook_append : (earlier : List Step) (xs ys : List RunStep)
      → retook m earlier (xs ++ ys) ≡ retook m earlier xs ++ retook m (earlier ++ steps_of xs) ys
  retook_append earlier [] ys = ap (λ es. retook m es ys) (sym (append-nil earlier))
  retook_append earlier (x ∷ xs) ys =
      ap (λ zs. retaken m earlier x ∷ zs)
      (retook_append (earlier ++ x.step ∷ []) xs ys
      ∙ ap (λ es. retook m (earlier ++ x.step ∷ []) xs ++ retook m es ys)
      (append_assoc earlier (x.step ∷ []) (steps_of xs)))

  -- what the steps put out stays
  outputs_retook : {X : Type 0} (f : Option (ℕ × List ℕ) → List X) (earlier : List Step) (xs : List RunStep)
      → flat_map (λ (x : RunStep). f x.output) (retook m earlier xs) ≡ flat_map (λ (x : RunStep). f x.output) xs
  outputs_retook f earlier [] = refl
  outputs_retook f earlier (x ∷ xs) = ap (λ ys. f x.output ++ ys) (outputs_retook f (earlier ++ x.step ∷ []) xs)

module _ (guest : Program) where
  abbrev m : SymbolMap
  m = guest.syms

  abbrev n : SymbolMap
  n = address_map guest.syms

  abbrev other : Program
  other = addressed guest

  -- the guest's steps, of those of the other one
  abbrev its : List RunStep → List RunStep
  its xs = retook m [] xs

  sent_its : (descriptor : ℕ) (xs : List RunStep) → sent_bytes descriptor xs ≡ sent_bytes descriptor (its xs)
  sent_its descriptor xs = sym (outputs_retook m (bytes_to descriptor) [] xs)

  pieces_its : (descriptor : ℕ) (xs : List RunStep) → pieces descriptor xs ≡ pieces descriptor (its xs)
  pieces_its descriptor xs = sym (outputs_retook m (piece_to descriptor) [] xs)

  its_append : (xs ys : List RunStep) → its (xs ++ ys) ≡ its xs ++ retook m (steps_of xs) ys
  its_append xs ys = retook_append m [] xs ys

  own_its : (thread : ℕ) (past : List RunStep) → events_of_thread thread (steps_of (its past)) ≡ events_of_thread thread (steps_of past)
  own_its thread past =
      ap (events_of_thread thread) (steps_retook m [] past) ∙ restacks.own_events_stacked m thread [] (steps_of past)

  -- ---- runs

  taken_its : (past : List RunStep) (told : MachineStep)
      → run_step guest (its past) told ≡ retaken m (steps_of past) (run_step other past told)
  taken_its past told = λ i. record {
    step = record {
      on_stack = record {
        event = told.event;
        cost = event_cost guest.options.branch guest.options.shapes (events_retook m [] past i) told.event;
        stack = stack_of m (own_its told.event.thread.0 past i) told.event.done.pc;
      };
      wait = told.wait;
      woken = told.woken;
    };
    output = told.output;
    threads = told.threads;
  }

  live_its : (past : List RunStep) → live m (steps_of (its past)) ≡ live n (steps_of past)
  live_its past =
      ap (live m) (steps_retook m [] past)
      ∙ restacks.live_stacked m n (code_back m n (address_code m)) (address_names m) (steps_of past)

  end_its : (machine : Engine) (past : List RunStep) → end_before guest machine (its past) ≡ end_before other machine past
  end_its machine past = λ i.
      option_or (exit_end machine.exit)
      (option_or (budget_end guest.options.budget (length_retook m [] past i))
      (option_or (frames_end (live_its past i)) (waiting_end machine.run_queue.ready)))

  -- a run from a position on
  pub record RunsOn (before past : List RunStep) (machine : Engine) (last : Position) : Type 0 where
    pub run : Run (next_step guest) (machine, its before) (retook m (steps_of before) past) (last.0, its (before ++ past))
    pub on : AreOn n (steps_of before) (steps_of past)
    pub is : last.1 ≡ before ++ past

  runs_on : (before past : List RunStep) (machine : Engine) (last : Position)
      → Run (next_step other) (machine, before) past last → RunsOn before past machine last
  runs_on before [] machine last run = record {
    run = λ i. ((run i).0, its (sym (append-nil before) i));
    on = tt;
    is = sym (ap (λ (p : Position). p.1) run) ∙ sym (append-nil before);
  }
  runs_on before (x ∷ past) machine last run =
      let g = goes_is other (machine, before) x run.0 run.1 in
      let rest = runs_on (before ++ x ∷ []) past g.machine last (subst (λ p. Run (next_step other) p past last) g.after run.2) in
      let steps = map-append (λ (y : RunStep). y.step) before (x ∷ []) in
      let step : run_step guest (its before) g.told ≡ retaken m (steps_of before) x
      = taken_its before g.told ∙ ap (retaken m (steps_of before)) (sym g.is) in
      let goes : next_step guest (machine, its before)
      ≡ Ok (retaken m (steps_of before) x, (g.machine, its (before ++ x ∷ [])))
      = going-step guest (machine, its before) g.told g.machine (end_its machine before ∙ g.none) g.makes
      ∙ (λ i. Ok (step i, (g.machine, its before ++ step i ∷ [])))
      ∙ (λ i. Ok (retaken m (steps_of before) x, (g.machine, sym (its_append before (x ∷ [])) i))) in
      record {
        run = (
          (g.machine, its (before ++ x ∷ [])),
          goes,
          subst (λ es. Run (next_step guest) (g.machine, its (before ++ x ∷ [])) (retook m es past)
              (last.0, its (before ++ x ∷ past))) steps
              (subst (λ zs. Run (next_step guest) (g.machine, its (before ++ x ∷ []))
              (retook m (steps_of (before ++ x ∷ [])) past) (last.0, its zs)) (append_assoc before (x ∷ []) past)
              rest.run),
        );
        on = (
          subst (λ (z : RunStep). z.step.on_stack.stack
              ≡ stack_at n (steps_of before) (thread_of z.step) (event_of z.step).done.pc) (sym g.is) refl,
          subst (λ es. AreOn n es (steps_of past)) steps rest.on,
        );
        is = rest.is ∙ append_assoc before (x ∷ []) past;
      }

  pub makes_its : (past : List RunStep) → Makes other past → Makes guest (its past)
  makes_its past makes =
      let all = runs_on [] past (start guest).0 makes.last makes.run in
      record { last = (makes.last.0, its past); run = all.run }

  pub made_on : (past : List RunStep) → Makes other past → AreOn n [] (steps_of past)
  made_on past makes = (runs_on [] past (start guest).0 makes.last makes.run).on

  not_both : {A E : Type 0} (a : A) (e : E) → ◌≡◌ {A = Result A E} (Ok a) (Err e) → ⊥
  not_both a e is = cc

  stops_its : (machine : Engine) (past : List RunStep) (stop : Stop) → next_step other (machine, past) ≡ Err stop
      → next_step guest (machine, its past) ≡ Err stop
  stops_its machine past stop is = by (end_before other machine past) refl (machine_step machine) refl
    where
      by : (o : Option End) → end_before other machine past ≡ o → (r : Result (MachineStep × Engine) End) → machine_step machine ≡ r
          → next_step guest (machine, its past) ≡ Err stop
      by (Some end) over r made =
          going-over guest (machine, its past) end (end_its machine past ∙ over)
          ∙ sym (going-over other (machine, past) end over) ∙ is
      by None none (Err end) made =
          going-end guest (machine, its past) end (end_its machine past ∙ none) made
          ∙ sym (going-end other (machine, past) end none made) ∙ is
      by None none (Ok made) makes =
          absurd (not_both _ stop (sym (going-step other (machine, past) made.0 made.1 none makes) ∙ is))

  pub trace_its : (trace : List RunStep) (stop : Stop) → IsTraceOf other trace stop → IsTraceOf guest (its trace) stop
  trace_its trace stop is =
      let all = runs_on [] trace (start guest).0 is.last is.run in
      record {
        last = (is.last.0, its trace);
        run = all.run;
        stop = stops_its is.last.0 trace stop
            (ap (λ past. next_step other (is.last.0, past)) (sym all.is) ∙ is.stop);
      }

  trace_on : (trace : List RunStep) (stop : Stop) → IsTraceOf other trace stop → AreOn n [] (steps_of trace)
  trace_on trace stop is = made_on trace (record { last = is.last; run = is.run })

  front_on : (past later : List RunStep) → AreOn n [] (steps_of (past ++ later)) → AreOn n [] (steps_of past)
  front_on past later on =
      (restacks.on_append n [] (steps_of past) (steps_of later)
      (subst (AreOn n []) (map-append (λ (y : RunStep). y.step) past later) on)).0

  -- ---- files

  abbrev given : Writing
  given = watched_parts translation m other

  abbrev told : Writing
  told = addr_parts guest

  whole_files : (trace : List RunStep) (stop : Stop) → IsTraceOf other trace stop
      → given.whole (steps_of trace) stop.tried ≡ told.whole (steps_of (its trace)) stop.tried
  whole_files trace stop is =
      files.whole m (head_of_run guest) guest.options.base guest.options.dump_points (steps_of trace)
      (trace_on trace stop is) stop.tried
      ∙ ap (addr_files (head_of_run guest) m guest.options.base guest.options.dump_points) (sym (steps_retook m [] trace))

  cut_files : (past : List RunStep) → AreOn n [] (steps_of past)
      → given.at_cuts (steps_of past) ≡ told.at_cuts (steps_of (its past))
  cut_files past on =
      files.so_far m (head_of_run guest) guest.options.base guest.options.dump_points (steps_of past) on
      ∙ ap (λ xs. closed_files (head_of_run guest) m guest.options.base (cuts m guest.options.dump_points xs).closed)
      (sym (steps_retook m [] past))

  cuts_its : (past : List RunStep) → AreOn n [] (steps_of past)
      → cuts m guest.options.dump_points (steps_of (its past))
      ≡ restacks.resplit m [] (cuts n guest.options.dump_points (steps_of past))
  cuts_its past on =
      ap (cuts m guest.options.dump_points) (steps_retook m [] past)
      ∙ restacks.cuts_stacked m n (code_back m n (address_code m)) (address_names m) guest.options.dump_points
      (steps_of past) on

  ends_part : (part : ℕ) (past : List RunStep) → AreOn n [] (steps_of past) → EndsPart other part past
      → EndsPart guest part (its past)
  ends_part part past on ends = by ends
    where
      closed : length (cuts m guest.options.dump_points (steps_of (its past))).closed
          ≡ length (cuts n guest.options.dump_points (steps_of past)).closed
      closed =
          ap (λ (s : Split Step Trigger). length s.closed) (cuts_its past on)
          ∙ restacks.restacked_length m [] (cuts n guest.options.dump_points (steps_of past)).closed

      none : (recent : List Step) → recent ≡ [] → with_stacks_of m
          (restacks.steps_in (cuts n guest.options.dump_points (steps_of past)).closed) recent ≡ []
      none recent is = ap (with_stacks_of m (restacks.steps_in (cuts n guest.options.dump_points (steps_of past)).closed)) is

      by : EndsPart other part past → EndsPart guest part (its past)
      by (inl (many, last)) = inl (
        closed ∙ many,
        ap (λ (s : Split Step Trigger). s.recent) (cuts_its past on)
            ∙ none (cuts n guest.options.dump_points (steps_of past)).recent last,
      )
      by (inr (many, stopped)) =
          inr (ap (λ k. k + 1) closed ∙ many, (stopped.0, trace_its past stopped.0 stopped.1))

  -- ---- answers

  fits : Fits other → Fits guest
  fits are = record { arguments = are.arguments; pages = are.pages }

  outputs : (trace : List RunStep) (stop : Stop) → IsTraceOf other trace stop
      → whole_output given trace stop ≡ whole_output told (its trace) stop
  outputs trace stop is = λ i. record {
    files = whole_files trace stop is i;
    refused = None;
    out = sent_its 1 trace i;
    err = sent_its 2 trace i;
  }

  cut_short : (output : Output) → IsCutShort given other output → IsCutShort told guest output
  cut_short output short = record {
    trace = its short.trace;
    stop = short.stop;
    is = trace_its short.trace short.stop short.is;
    cut = subst (IsCut output) (outputs short.trace short.stop short.is) short.cut;
  }

  at_put : (part thread : ℕ) (output : Output) → IsAtPut other part thread output → IsAtPut guest part thread output
  at_put part thread output at = record {
    past = its at.past;
    makes = makes_its at.past at.makes;
    ends = ends_part part at.past (made_on at.past at.makes) at.ends;
    refused = at.refused;
    out = at.out ∙ sent_its 1 at.past;
    err = at.err ∙ sent_its 2 at.past;
  }

  at_write : (output : Output) → IsAtWrite given other output → IsAtWrite told guest output
  at_write output at = record {
    past = its at.past;
    last = retaken m (steps_of at.past) at.last;
    makes = subst (Makes guest) (its_append at.past (at.last ∷ [])) (makes_its (at.past ++ at.last ∷ []) at.makes);
    files = at.files ∙ cut_files at.past
        (front_on at.past (at.last ∷ []) (made_on (at.past ++ at.last ∷ []) at.makes));
    refused = at.refused;
    written = at.written;
    is = at.is;
    count = at.count;
    front = at.front;
    short = at.short;
    out = at.out ∙ ap (λ bytes. bytes ++ bytes_to 1 (Some (at.written.0, at.count)))
        (sent_its 1 at.past);
    err = at.err ∙ ap (λ bytes. bytes ++ bytes_to 2 (Some (at.written.0, at.count)))
        (sent_its 2 at.past);
  }

  runs : (old : Outside) (answer : Result RunEnd RunFault) (output : Output) (new : Outside)
      → Runs given other old answer output new → Runs told guest old answer output new
  unfolding trace_its
  runs old (Ok run) output new r = (
    fits r.0,
    record {
      trace = its r.1.trace;
      stop = r.1.stop;
      is = trace_its r.1.trace r.1.stop r.1.is;
      end = r.1.end;
      steps = r.1.steps ∙ sym (length_retook m [] r.1.trace);
      threads = r.1.threads;
      parts = r.1.parts;
      output = r.1.output ∙ outputs r.1.trace r.1.stop r.1.is;
    },
  )
  runs old (Err (fault.ArgsTooLong len)) output new r = r
  runs old (Err fault.GuestFull) output new r = r
  runs old (Err (fault.PutFault part thread)) output new r =
      (fits r.0, r.1, cut_short output r.2, at_put part thread.0 output r.3)
  runs old (Err fault.OutFault) output new r = (fits r.0, r.1, cut_short output r.2, at_write output r.3)
  runs old (Err (fault.OutOfMemory _)) output new (inl r) = inl (fits r.0, cut_short output r.1)
  runs old (Err (fault.OutOfMemory _)) output new (inr none) = inr none

  -- ---- call by call

  done : (log : Log) → HasDone given other log → HasDone told guest log
  done log d = record {
    trace = its d.trace;
    stop = d.stop;
    is = trace_its d.trace d.stop d.is;
    calls = d.calls ∙ ap puts_of (whole_files d.trace d.stop d.is);
    out = subst (λ ps. AreWritten ps log.out) (pieces_its 1 d.trace) d.out;
    err = subst (λ ps. AreWritten ps log.err) (pieces_its 2 d.trace) d.err;
  }

  parts_of : (trace past later : List RunStep) → trace ≡ past ++ later → its trace ≡ its past ++ retook m (steps_of past) later
  parts_of trace past later are = ap its are ∙ its_append past later

  past_on : (trace past later : List RunStep) (stop : Stop) → IsTraceOf other trace stop → trace ≡ past ++ later
      → AreOn n [] (steps_of past)
  past_on trace past later stop is are =
      front_on past later (subst (λ xs. AreOn n [] (steps_of xs)) are (trace_on trace stop is))

  failed_at : (part thread : ℕ) (log : Log) → HasFailedAt given other part thread log
      → HasFailedAt told guest part thread log
  failed_at part thread log f = record {
    trace = its f.trace;
    stop = f.stop;
    is = trace_its f.trace f.stop f.is;
    done = f.done;
    text = f.text;
    rest = f.rest;
    files = sym (whole_files f.trace f.stop f.is) ∙ f.files;
    calls = f.calls;
    past = its f.past;
    later = retook m (steps_of f.past) f.later;
    steps = parts_of f.trace f.past f.later f.steps;
    ends = ends_part part f.past (past_on f.trace f.past f.later f.stop f.is f.steps) f.ends;
    out = subst (λ ps. AreWritten ps log.out) (pieces_its 1 f.past) f.out;
    err = subst (λ ps. AreWritten ps log.err) (pieces_its 2 f.past) f.err;
  }

  failed_behind : (log : Log) → HasFailedBehind given other log → HasFailedBehind told guest log
  failed_behind log f =
      let cut = cut_files f.past (past_on f.trace f.past (f.last ∷ f.later) f.stop f.is f.steps) in record {
        trace = its f.trace;
        stop = f.stop;
        is = trace_its f.trace f.stop f.is;
        past = its f.past;
        last = retaken m (steps_of f.past) f.last;
        later = retook m (steps_of f.past ++ f.last.step ∷ []) f.later;
        steps = parts_of f.trace f.past (f.last ∷ f.later) f.steps;
        rest = f.rest;
        files = sym (whole_files f.trace f.stop f.is) ∙ f.files ∙ ap (λ files. files ++ f.rest) cut;
        calls = f.calls ∙ ap puts_of cut;
        piece = f.piece;
        is_piece = f.is_piece;
        to = f.to;
        out = subst (λ ps. AreWrittenTo write.Failed ps (piece_to 1 f.last.output) log.out) (pieces_its 1 f.past) f.out;
        err = subst (λ ps. AreWrittenTo write.Failed ps (piece_to 2 f.last.output) log.err) (pieces_its 2 f.past) f.err;
      }

  front_its : (past : List RunStep) (last : Option (ℕ × List ℕ)) (trace : List RunStep) → IsFrontOfTrace past last trace
      → IsFrontOfTrace (its past) last (its trace)
  front_its past None trace front = (retook m (steps_of past) front.0, parts_of trace past front.0 front.1)
  front_its past (Some output) trace front = (
    retaken m (steps_of past) front.0,
    retook m (steps_of past ++ front.0.step ∷ []) front.1,
    front.2,
    parts_of trace past (front.0 ∷ front.1) front.3,
  )

  done_some : (log : Log) → HasDoneSome given other log → HasDoneSome told guest log
  done_some log d = record {
    trace = its d.trace;
    stop = d.stop;
    is = trace_its d.trace d.stop d.is;
    done = d.done;
    rest = d.rest;
    files = sym (whole_files d.trace d.stop d.is) ∙ d.files;
    unput = d.unput;
    are_unput = d.are_unput;
    calls = d.calls;
    past = its d.past;
    last = d.last;
    front = front_its d.past d.last d.trace d.front;
    error = d.error;
    out = subst (λ ps. AreWrittenTo d.error ps (piece_to 1 d.last) log.out) (pieces_its 1 d.past) d.out;
    err = subst (λ ps. AreWrittenTo d.error ps (piece_to 2 d.last) log.err) (pieces_its 2 d.past) d.err;
  }

  does : (answer : Result RunEnd RunFault) (log : Log) → Does given other answer log → Does told guest answer log
  does (Ok run) log d = done log d
  does (Err (fault.ArgsTooLong len)) log d = d
  does (Err fault.GuestFull) log d = d
  does (Err (fault.PutFault part thread)) log d = failed_at part thread.0 log d
  does (Err fault.OutFault) log d = failed_behind log d
  does (Err (fault.OutOfMemory _)) log (inl d) = inl (done_some log d)
  does (Err (fault.OutOfMemory _)) log (inr none) = inr none

  pub answers : (old : Outside) (answer : Result RunEnd RunFault) (new : Outside) → Answers given other old answer new
      → Answers told guest old answer new
  answers old answer new a = record {
    output = a.output;
    runs = runs old answer a.output new a.runs;
    leaves = a.leaves;
    log = a.log;
    does = does answer a.log a.does;
    tells = a.tells;
  }
