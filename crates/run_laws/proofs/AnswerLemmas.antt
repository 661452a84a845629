-- What a watched run answers, with the files of its contexts.
use Rattle.std.proofs.Common.{◌≡◌, inl, inr, ℕ, ◌==◌, List, [], ◌∷◌, ◌++◌, Option, None, Result, Ok, Err, sym, ap, subst}
use Rattle.std.proofs.Common.{◌∙◌}
use Rattle.std.specs.List.{AllByRecursion}
use Rattle.std.proofs.lemmas.List.{map-append}
use Rattle.outside.specs.Outside.{Log, Outside, Output, puts_of}
use Rattle.event_costs.specs.declared.numbers.ThreadNo.{ThreadNo}
use Rattle.arc_costs.specs.Contents.{Listed}
use Rattle.sym_map.specs.SymbolMap.{SymbolMap}
use Rattle.shadow_stack.specs.Traces.{EventOnStack}
use Rattle.cg_format.specs.Part.{AreKnown}
use Rattle.part_dump.specs.Calls.{closed_calls, steps_calls}
use Rattle.part_dump.specs.Cuts.{cuts}
use Rattle.part_dump.specs.Steps.{Step, event_of, steps_of_thread, events_of_thread, events_on_stack_of, thread_of}
use Rattle.recorder.specs.Laws.{IsIn}
use Rattle.recorder.specs.Rows.{rows_of}
use Rattle.recorder.specs.inner.Known.{KnowsPlaces}
use Rattle.run_laws.proofs.Others.{in_left, in_right, of_all, from_map, in_filter, all_of, IsReached}
use Rattle.recorder.proofs.KnownLemmas.{AreKnownIn, stack_known}
use Rattle.profile_run.specs.Program.{Program, head_of_run, CanRun}
use Rattle.profile_run.specs.Parts.{Writing, watched_parts}
use Rattle.profile_run.specs.Runs.{Does, RunEnd, HasDone, HasDoneSome, HasFailedAt, HasFailedBehind}
use Rattle.profile_run.specs.Runs.{IsAtWrite, IsCut, IsCutShort, Runs, whole_output}
use Rattle.profile_run.specs.Trace.{IsTraceOf, Makes, Stop, RunStep, sent_bytes, steps_of}
use Rattle.profile_run.specs.declared.run_fault.RunFault.{RunFault}
use Rattle.profile_run.specs.declared.run_fault.RunFault.TheVariants as fault
use Rattle.profile_run.proofs.KnownLemmas as known_rows
use Rattle.ctx_rows.specs.Folding.{AreSumsOf, plain}
use Rattle.ctx_rows.specs.Rows.{ctx_rows_of}
use Rattle.once_each.specs.Runs.{AreOrderly, AreOrderlyAfter}
use Rattle.ctx_rows.specs.Since.{StandsOn}
use Rattle.ctx_rows.specs.States.{CtxState}
use Rattle.ctx_rows.specs.Watching.{IsFresh, by_context}
use Rattle.run_laws.proofs.Others.{folded_are}
use Rattle.ctx_rows.proofs.LastLemmas.{all_stand}
use Rattle.ctx_rows.proofs.PutLemmas.{cut_puts, run_puts}
use Rattle.run_laws.proofs.EventLemmas.{orderly}
use Rattle.run_laws.specs.Contexts.{ctx_parts}
use Rattle.run_laws.proofs.WatchedLemmas as watched

pub each_reached : (syms : SymbolMap) (earlier xs : List Step) → AreOrderlyAfter syms earlier xs
    → (y : Step) → IsIn xs y
    → IsReached syms y.on_stack
each_reached syms earlier [] order y there = elim there [ ]
each_reached syms earlier (x ∷ xs) order y (inl is) =
    subst (λ (z : Step). IsReached syms z.on_stack) is
    (record { events = events_of_thread (thread_of x) earlier; first = (event_of x).done.pc; is = order.0.stack })
each_reached syms earlier (x ∷ xs) order y (inr there) = each_reached syms (earlier ++ x ∷ []) xs order.1 y there

module _ (guest : Program) (can : CanRun guest) where
  knows : KnowsPlaces guest.syms
  knows address = (can.sound.place_functions address, can.sound.place_files address)

  -- steps as a run of the guest makes them
  module _ (steps : List Step) (order : AreOrderly guest.syms steps) where
    within : (before segment after : List Step) → before ++ (segment ++ after) ≡ steps → (y : Step) → IsIn segment y
        → IsIn steps y
    within before segment after whole_is y there =
        subst (λ (ys : List Step). IsIn ys y) whole_is
        (in_right before (segment ++ after) y (in_left segment after y there))

    stacks : (thread : ℕ) (segment : List Step) → ((y : Step) → IsIn segment y → IsIn steps y) → (x : EventOnStack)
        → IsIn (events_on_stack_of thread segment) x → AreKnownIn guest.syms knows x.stack
    stacks thread segment inside x there =
        let y = from_map (λ (z : Step). z.on_stack) (steps_of_thread thread segment) x there in
        let in_segment = (in_filter (λ (z : Step). thread_of z == thread) segment y.0 y.1).0 in
        let has = each_reached guest.syms [] steps order y.0 (inside y.0 in_segment) in
        subst (λ (z : EventOnStack). AreKnownIn guest.syms knows z.stack) y.2
        (subst (AreKnownIn guest.syms knows) (sym has.is)
        (stack_known guest.syms knows has.events has.first))

    pub threads_are_known : (thread : ℕ) (before segment after : List Step) → before ++ (segment ++ after) ≡ steps
        → AreKnown guest.syms (rows_of guest.syms (events_on_stack_of thread segment))
    threads_are_known thread before segment after whole_is =
        known_rows.rows_known guest.syms knows (events_on_stack_of thread segment)
        (stacks thread segment (within before segment after whole_is))

    module _ (first : CtxState) (fresh : IsFresh first) where
      pub cut_files : (watched_parts by_context first guest).at_cuts steps
          ≡ (ctx_parts first.callers guest).at_cuts steps
      cut_files =
          cut_puts (rows_of guest.syms) (head_of_run guest) guest.syms guest.options.base
          guest.options.dump_points steps first
          fresh
          (watched.so_far_watched guest.syms (rows_of guest.syms) (head_of_run guest) guest.options.dump_points
          steps threads_are_known order)

      pub run_files : (tried : Option (ThreadNo × ℕ)) → (watched_parts by_context first guest).whole steps tried
          ≡ (ctx_parts first.callers guest).whole steps tried
      run_files tried =
          run_puts (rows_of guest.syms) (head_of_run guest) guest.syms guest.options.base
          guest.options.dump_points steps first
          fresh tried
          (watched.run_watched guest.syms (rows_of guest.syms) (head_of_run guest) guest.options.dump_points steps threads_are_known order
          tried)

    -- all its events stand on their stacks
    pub all_on : AllByRecursion (λ (x : Step). StandsOn guest.syms x.on_stack) steps
    all_on =
        subst (AllByRecursion (λ (x : Step). StandsOn guest.syms x.on_stack))
        (watched.steps_are guest.syms (rows_of guest.syms) (head_of_run guest) guest.options.dump_points steps threads_are_known order)
        (all_stand guest.syms (closed_calls (rows_of guest.syms) (head_of_run guest)
        (cuts guest.syms guest.options.dump_points steps).closed
        ++ steps_calls (cuts guest.syms guest.options.dump_points steps).recent)
        (watched.so_far_watched guest.syms (rows_of guest.syms) (head_of_run guest) guest.options.dump_points
        steps threads_are_known order))

    -- the rows by context of a thread's events among them fold back to its plain rows
    pub folds_back : (callers thread : ℕ) (segment : List Step) (rows : Listed)
        → ((y : Step) → IsIn segment y → IsIn steps y)
        → AreSumsOf (plain (ctx_rows_of callers guest.syms (events_on_stack_of thread segment))) rows
        → rows ≡ rows_of guest.syms (events_on_stack_of thread segment)
    folds_back callers thread segment rows inside sums =
        folded_are callers guest.syms (events_on_stack_of thread segment)
        (all_of (StandsOn guest.syms) (events_on_stack_of thread segment) on) rows sums
      where
        on : (x : EventOnStack) → IsIn (events_on_stack_of thread segment) x → StandsOn guest.syms x
        on x there =
            let y = from_map (λ (z : Step). z.on_stack) (steps_of_thread thread segment) x there in
            let in_segment =
            (in_filter (λ (z : Step). thread_of z == thread) segment y.0 y.1).0 in
            subst (StandsOn guest.syms) y.2
            (of_all (λ (z : Step). StandsOn guest.syms z.on_stack) steps all_on y.0 (inside y.0 in_segment))

  pub order_of : (past : List RunStep) → Makes guest past → AreOrderly guest.syms (steps_of past)
  order_of past makes = orderly guest can past makes

  pub front : (past : List RunStep) (last : RunStep) → Makes guest (past ++ last ∷ [])
      → AreOrderly guest.syms (steps_of past)
  front past last makes =
      (watched.orderly_split guest.syms [] (steps_of past) (last.step ∷ [])
      (subst (AreOrderly guest.syms) (map-append (λ (y : RunStep). y.step) past (last ∷ []))
      (order_of (past ++ last ∷ []) makes))).0

  -- ---- answers

  -- Of two sorts of parts that are the same for the steps of a run, the one is answered where the other is.
  module _ (given told : Writing)
      (cut_files : (steps : List Step) → AreOrderly guest.syms steps → given.at_cuts steps ≡ told.at_cuts steps)
      (run_files : (steps : List Step) → AreOrderly guest.syms steps → (tried : Option (ThreadNo × ℕ))
      → given.whole steps tried ≡ told.whole steps tried)
    where
      outputs : (trace : List RunStep) (stop : Stop) → IsTraceOf guest trace stop
          → whole_output given trace stop ≡ whole_output told trace stop
      outputs trace stop is =
          let files = run_files (steps_of trace) (order_of trace (record { last = is.last; run = is.run }))
          stop.tried in
          λ i. record { files = files i; refused = None; out = sent_bytes 1 trace; err = sent_bytes 2 trace }

      cut_short : (output : Output) → IsCutShort given guest output → IsCutShort told guest output
      cut_short output short = record {
        trace = short.trace;
        stop = short.stop;
        is = short.is;
        cut = subst (IsCut output) (outputs short.trace short.stop short.is) short.cut;
      }

      at_write : (output : Output) → IsAtWrite given guest output → IsAtWrite told guest output
      at_write output at = record {
        past = at.past;
        last = at.last;
        makes = at.makes;
        files = at.files ∙ cut_files (steps_of at.past) (front at.past at.last at.makes);
        refused = at.refused;
        written = at.written;
        is = at.is;
        count = at.count;
        front = at.front;
        short = at.short;
        out = at.out;
        err = at.err;
      }

      pub same_runs : (old : Outside) (answer : Result RunEnd RunFault) (output : Output) (new : Outside)
          → Runs given guest old answer output new → Runs told guest old answer output new
      same_runs old (Ok run) output new r = (
        r.0,
        record {
          trace = r.1.trace;
          stop = r.1.stop;
          is = r.1.is;
          end = r.1.end;
          steps = r.1.steps;
          threads = r.1.threads;
          parts = r.1.parts;
          output = r.1.output ∙ outputs r.1.trace r.1.stop r.1.is;
        },
      )
      same_runs old (Err (fault.ArgsTooLong len)) output new r = r
      same_runs old (Err fault.GuestFull) output new r = r
      same_runs old (Err (fault.PutFault part thread)) output new r = (r.0, r.1, cut_short output r.2, r.3)
      same_runs old (Err fault.OutFault) output new r = (r.0, r.1, cut_short output r.2, at_write output r.3)
      same_runs old (Err (fault.OutOfMemory _)) output new (inl r) = inl (r.0, cut_short output r.1)
      same_runs old (Err (fault.OutOfMemory _)) output new (inr none) = inr none

      -- ---- call by call

      pub same_whole : (trace : List RunStep) (stop : Stop) → IsTraceOf guest trace stop
          → given.whole (steps_of trace) stop.tried ≡ told.whole (steps_of trace) stop.tried
      same_whole trace stop is =
          run_files (steps_of trace) (order_of trace (record { last = is.last; run = is.run })) stop.tried

      done : (log : Log) → HasDone given guest log → HasDone told guest log
      done log d = record {
        trace = d.trace;
        stop = d.stop;
        is = d.is;
        calls = d.calls ∙ ap puts_of (same_whole d.trace d.stop d.is);
        out = d.out;
        err = d.err;
      }

      failed_at : (part thread : ℕ) (log : Log) → HasFailedAt given guest part thread log
          → HasFailedAt told guest part thread log
      failed_at part thread log f = record {
        trace = f.trace;
        stop = f.stop;
        is = f.is;
        done = f.done;
        text = f.text;
        rest = f.rest;
        files = sym (same_whole f.trace f.stop f.is) ∙ f.files;
        calls = f.calls;
        past = f.past;
        later = f.later;
        steps = f.steps;
        ends = f.ends;
        out = f.out;
        err = f.err;
      }

      -- the steps up to one that a trace makes
      earlier : (trace past : List RunStep) (last : RunStep) (later : List RunStep) (stop : Stop) → IsTraceOf guest trace stop
          → trace ≡ past ++ last ∷ later → AreOrderly guest.syms (steps_of past)
      earlier trace past last later stop is steps =
          (watched.orderly_split guest.syms [] (steps_of past) (steps_of (last ∷ later))
          (subst (AreOrderly guest.syms)
          (ap steps_of steps ∙ map-append (λ (y : RunStep). y.step) past (last ∷ later))
          (order_of trace (record { last = is.last; run = is.run })))).0

      failed_behind : (log : Log) → HasFailedBehind given guest log → HasFailedBehind told guest log
      failed_behind log f =
          let cut = cut_files (steps_of f.past) (earlier f.trace f.past f.last f.later f.stop f.is f.steps) in record {
            trace = f.trace;
            stop = f.stop;
            is = f.is;
            past = f.past;
            last = f.last;
            later = f.later;
            steps = f.steps;
            rest = f.rest;
            files = sym (same_whole f.trace f.stop f.is) ∙ f.files ∙ ap (λ files. files ++ f.rest) cut;
            calls = f.calls ∙ ap puts_of cut;
            piece = f.piece;
            is_piece = f.is_piece;
            to = f.to;
            out = f.out;
            err = f.err;
          }

      done_some : (log : Log) → HasDoneSome given guest log → HasDoneSome told guest log
      done_some log d = record {
        trace = d.trace;
        stop = d.stop;
        is = d.is;
        done = d.done;
        rest = d.rest;
        files = sym (same_whole d.trace d.stop d.is) ∙ d.files;
        unput = d.unput;
        are_unput = d.are_unput;
        calls = d.calls;
        past = d.past;
        last = d.last;
        front = d.front;
        error = d.error;
        out = d.out;
        err = d.err;
      }

      pub same_does : (answer : Result RunEnd RunFault) (log : Log) → Does given guest answer log
          → Does told guest answer log
      same_does (Ok run) log d = done log d
      same_does (Err (fault.ArgsTooLong len)) log d = d
      same_does (Err fault.GuestFull) log d = d
      same_does (Err (fault.PutFault part thread)) log d = failed_at part thread.0 log d
      same_does (Err fault.OutFault) log d = failed_behind log d
      same_does (Err (fault.OutOfMemory _)) log (inl d) = inl (done_some log d)
      same_does (Err (fault.OutOfMemory _)) log (inr none) = inr none

  module _ (first : CtxState) (fresh : IsFresh first) where
    pub wholes : (trace : List RunStep) (stop : Stop) → IsTraceOf guest trace stop
        → (watched_parts by_context first guest).whole (steps_of trace) stop.tried
        ≡ (ctx_parts first.callers guest).whole (steps_of trace) stop.tried
    wholes =
        same_whole (watched_parts by_context first guest) (ctx_parts first.callers guest)
        (λ steps order. cut_files steps order first fresh) (λ steps order. run_files steps order first fresh)

    pub does : (answer : Result RunEnd RunFault) (log : Log)
        → Does (watched_parts by_context first guest) guest answer log
        → Does (ctx_parts first.callers guest) guest answer log
    does =
        same_does (watched_parts by_context first guest) (ctx_parts first.callers guest)
        (λ steps order. cut_files steps order first fresh) (λ steps order. run_files steps order first fresh)

    pub runs : (old : Outside) (answer : Result RunEnd RunFault) (output : Output) (new : Outside)
        → Runs (watched_parts by_context first guest) guest old answer output new
        → Runs (ctx_parts first.callers guest) guest old answer output new
    runs =
        same_runs (watched_parts by_context first guest) (ctx_parts first.callers guest)
        (λ steps order. cut_files steps order first fresh) (λ steps order. run_files steps order first fresh)
