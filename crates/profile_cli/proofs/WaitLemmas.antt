-- What a watch of waits has kept after a run, and the work of `run` that reports it.
use Rattle.std.proofs.Common.{arith, ◌≡◌, ℕ, ◌+◌, ◌≤◌, List, [], ◌∷◌, ◌++◌, length, flat_map, IfSome, Option, None, Some}
use Rattle.std.proofs.Common.{option_map, Result, Ok, Err, inl, inr, refl, sym, ap, subst, ◌∙◌, append-nil}
use Rattle.std.specs.List.{enumerate_from}
use Rattle.std.specs.Result.{IsErrAnd}
use Rattle.outside.specs.Files.{Files, SameBut, with_file}
use Rattle.outside.specs.Outside.{Holds, Leaves, Named, Outside, Output, Stream, and_then, nothing, with_files}
use Rattle.outside.specs.Put.{PutAnswers}
use Rattle.outside.specs.Write.{taken_more}
use Rattle.outside.specs.declared.folder.PutError.{PutError}
use Rattle.outside.specs.declared.folder.PutError.TheVariants as put
use Rattle.event_costs.specs.declared.numbers.ThreadNo.{ThreadNo}
use Rattle.event_costs.specs.declared.outcome.End.{End}
use Rattle.cg_format.specs.declared.trigger.Trigger.{Trigger}
use Rattle.cg_format.specs.declared.trigger.Trigger.TheVariants.{Termination}
use Rattle.elf_read.specs.Refusal.{refusal}
use Rattle.shadow_stack.specs.Traces.{EventOnStack}
use Rattle.sym_map.specs.SymbolMap.{SymbolMap}
use Rattle.part_dump.specs.Calls.{closed_calls, part_calls, steps_calls, thread_calls, tried_calls}
use Rattle.part_dump.specs.Cuts.{cuts}
use Rattle.part_dump.specs.Steps.{Step, events_on_stack_of, threads}
use Rattle.part_dump.specs.Watched.{steps_in}
use Rattle.part_dump.specs.Watching.{after_calls}
use Rattle.part_dump.proofs.CutLemmas.{cuts_together}
use Rattle.profile_run.specs.Program.{Program, head_of_run, CanRun}
use Rattle.profile_run.specs.Parts.{calls_of, calls_so_far, plain_parts}
use Rattle.recorder.specs.Rows.{rows_of}
use Rattle.profile_run.specs.Runs.{RunEnd}
use Rattle.profile_run.specs.Trace.{IsTraceOf, Makes, Stop, RunStep}
use Rattle.profile_run.specs.Trace as trace
use Rattle.profile_run.proofs.CallLemmas.{calls_whole}
use Rattle.profile_run.proofs.PutLemmas.{with-append}
use Rattle.part_dump.proofs.WatchLemmas.{steps-append}
use Rattle.once_each.specs.Runs.{AreOrderlyAfter}
use Rattle.profile_cli.proofs.Others.{orderly, small_numbers}
use Rattle.wait_report.specs.Keeping.{WaitBooks, WaitState, watching}
use Rattle.wait_report.specs.Keeping as keeping
use Rattle.wait_report.specs.Standing.{HaveSums, MayAllFollow, StandsFor}
use Rattle.wait_report.specs.Waits.{AreOfOthers}
use Rattle.wait_report.specs.inner.Law.{may_follow, run_stands}
use Rattle.wait_report.specs.inner.Quiet.{others_pass}
use Rattle.wait_report.proofs.SumLemmas.{sums_fit}
use Rattle.command_status.specs.Ends.{end_status}
use Rattle.command_status.specs.declared.status.Status.{Status}
use Rattle.command_status.specs.declared.status.Status.TheVariants as wanted
use Rattle.command_words.specs.Request.{Job, Run, Waits}
use Rattle.command_words.specs.Within.{IsJob}
use Rattle.profile_files.specs.Loads.{IsLoad}
use Rattle.command_steps.specs.Stages.{final_status}
use Rattle.profile_cli.specs.Course.{Course, WaitsOutcome}
use Rattle.outside.specs.Limits.{text_limit, file_limit}
use Rattle.command_steps.specs.Loading.{IsLoadIf, HasStatus}
use Rattle.command_steps.specs.Gates.{Gate, Outcome, at_gate, or_next, gates_outcome}
use Rattle.profile_cli.specs.Order.{loading, reading, run_gate}
use Rattle.profile_cli.specs.Reply.{Works}
use Rattle.profile_cli.specs.Watching.{IsPut, IsWaited, put_fault, put_output, put_status, waits_gate, waits_name}
use Rattle.profile_cli.specs.Words.{program_of}
use Rattle.command_steps.specs.ReportStages.{report_status}
use Rattle.profile_cli.specs.inner.RunStages.{HasWatched, RanToEnd, end_result}
use Rattle.profile_cli.specs.inner.WaitStages.{CanReport, IsTextOf, PutsWaits, stop_status}
use Rattle.profile_cli.proofs.OutsideLemmas.{holds_nothing}
use Rattle.profile_cli.proofs.PastRunLemmas.{accepted_is}
use Rattle.profile_cli.proofs.WatchLemmas.{WritesPlain}
use Rattle.profile_cli.proofs.WorkLemmas.{by_loading, fits_all, guest_with, met_running, others}
use Rattle.profile_cli.proofs.WorkLemmas.{whole_refused}
use Rattle.byte_text.specs.Memory.{memory}

-- ---- the steps among the calls of a run

steps_of_steps : (xs : List Step) → steps_in (steps_calls xs) ≡ xs
steps_of_steps [] = refl
steps_of_steps (x ∷ xs) = ap (λ ys. x ∷ ys) (steps_of_steps xs)

module _ (guest : Program) where
  no_thread_steps : (part : ℕ) (trigger : Trigger) (thread : ℕ) (xs : List EventOnStack)
      → steps_in (thread_calls (rows_of guest.syms) (head_of_run guest) part trigger thread xs) ≡ []
  no_thread_steps part trigger thread [] = refl
  no_thread_steps part trigger thread (x ∷ xs) = refl

  no_part_steps : (part : ℕ) (segment : List Step) (trigger : Trigger) (ts : List ℕ)
      → steps_in (flat_map (λ thread.
      thread_calls (rows_of guest.syms) (head_of_run guest) part trigger thread (events_on_stack_of thread segment)) ts)
      ≡ []
  no_part_steps part segment trigger [] = refl
  no_part_steps part segment trigger (t ∷ ts) =
      steps-append (thread_calls (rows_of guest.syms) (head_of_run guest) part trigger t (events_on_stack_of t segment))
      (flat_map (λ thread.
      thread_calls (rows_of guest.syms) (head_of_run guest) part trigger thread (events_on_stack_of thread segment)) ts)
      ∙ (λ i. no_thread_steps part trigger t (events_on_stack_of t segment) i ++ no_part_steps part segment trigger ts i)

  closed_steps : (n : ℕ) (segments : List (List Step × Trigger))
      → steps_in (flat_map (λ s. steps_calls s.1.0
      ++ part_calls (rows_of guest.syms) (head_of_run guest) s.0 s.1.0 s.1.1) (enumerate_from n segments))
      ≡ flat_map (λ s. s.0) segments
  closed_steps n [] = refl
  closed_steps n (s ∷ segments) =
      let parts = part_calls (rows_of guest.syms) (head_of_run guest) n s.0 s.1 in
      let more = flat_map (λ q. steps_calls q.1.0
      ++ part_calls (rows_of guest.syms) (head_of_run guest) q.0 q.1.0 q.1.1) (enumerate_from (n + 1) segments) in
      steps-append (steps_calls s.0 ++ parts) more
      ∙ ap (λ xs. xs ++ steps_in more)
      (steps-append (steps_calls s.0) parts
      ∙ (λ i. steps_of_steps s.0 i ++ no_part_steps n s.0 s.1 (threads s.0) i) ∙ append-nil s.0)
      ∙ ap (λ xs. s.0 ++ xs) (closed_steps (n + 1) segments)

  no_tried_steps : (tried : Option (ThreadNo × ℕ)) → steps_in (tried_calls tried) ≡ []
  no_tried_steps None = refl
  no_tried_steps (Some tried) = refl

  -- they are its steps
  steps_called : (xs : List Step) (tried : Option (ThreadNo × ℕ)) → steps_in (calls_of guest xs tried) ≡ xs
  steps_called xs tried =
      let closed = (cuts guest.syms guest.options.dump_points xs).closed in
      let recent = (cuts guest.syms guest.options.dump_points xs).recent in
      let cs = closed_calls (rows_of guest.syms) (head_of_run guest) closed in
      let last = part_calls (rows_of guest.syms) (head_of_run guest) (length closed + 1) recent Termination in
      ap steps_in (calls_whole guest xs tried)
      ∙ steps-append (calls_so_far guest xs ++ tried_calls tried) last
      ∙ (λ i. steps-append (calls_so_far guest xs) (tried_calls tried) i
      ++ no_part_steps (length closed + 1) recent Termination (threads recent) i)
      ∙ append-nil (steps_in (calls_so_far guest xs) ++ steps_in (tried_calls tried))
      ∙ (λ i. steps-append cs (steps_calls recent) i ++ no_tried_steps tried i)
      ∙ append-nil (steps_in cs ++ steps_in (steps_calls recent))
      ∙ (λ i. closed_steps 1 closed i ++ steps_of_steps recent i)
      ∙ cuts_together guest.syms guest.options.dump_points xs

-- ---- what was kept

follow_all : (syms : SymbolMap) (earlier xs : List Step) → AreOrderlyAfter syms earlier xs → MayAllFollow earlier xs
follow_all syms earlier [] are = tt
follow_all syms earlier (x ∷ xs) are =
    (may_follow syms earlier x are.0, follow_all syms (earlier ++ x ∷ []) xs are.1)

module _ (guest : Program) (can : CanRun guest) (xs : List RunStep) (stop : Stop) (is : IsTraceOf guest xs stop) where
  makes : Makes guest xs
  makes = record { last = is.last; run = is.run }

  follow : MayAllFollow [] (trace.steps_of xs)
  follow = follow_all guest.syms [] (trace.steps_of xs) (orderly guest can xs makes)

  pub others_of_run : AreOfOthers (trace.steps_of xs)
  others_of_run = others_pass (trace.steps_of xs) follow

  pub sums_of_run : HaveSums (trace.steps_of xs)
  sums_of_run = sums_fit (trace.steps_of xs) follow (small_numbers guest can xs makes)

  pub kept_of_run : (first last : WaitState) → first.books ≡ keeping.nothing
      → last ≡ after_calls watching guest.syms first (calls_of guest (trace.steps_of xs) stop.tried)
      → StandsFor last.books (trace.steps_of xs)
  kept_of_run first last fresh told =
      let calls = calls_of guest (trace.steps_of xs) stop.tried in
      let steps = steps_called guest (trace.steps_of xs) stop.tried in
      subst (λ (w : WaitState). StandsFor w.books (trace.steps_of xs)) (sym told)
      (subst (StandsFor (after_calls watching guest.syms first calls).books) steps
      (run_stands guest.syms first calls fresh (subst (MayAllFollow []) (sym steps) follow)))

-- ---- the report is made

-- ---- it is put

-- memory was wanting before the put
pub PutsWaits-exit : (kept : WaitBooks) (job : Job) (old : Option Files) (before now : ℕ) (new : Option Files)
    (result : Result (Unit {0}) Status)
    → IsErrAnd result (λ status. status ≡ (wanted.OutOfMemory memory)) → new ≡ old
    → PutsWaits kept job old before now result new
PutsWaits-exit kept job old before now new (Ok done) none same = absurd none
PutsWaits-exit kept job old before now new (Err status) is same = record {
  waits = None;
  text = tt;
  put = tt;
  stops = ap Some (sym is);
  holds = holds_nothing old new same;
}

pub PutsWaits-put : (kept : WaitBooks) (job : Job) (name text : List ℕ) (old : Option Files) (before now : ℕ)
    (new : Option Files)
    → name ≡ waits_name job.base → IsTextOf kept job text
    → new ≡ option_map (λ files. with_file files name text) old → PutsWaits kept job old before now (Ok tt) new
PutsWaits-put kept job name text old before now new same is puts = record {
  waits = Some (record { text = text; put = Ok tt });
  text = is;
  put = tt;
  stops = refl;
  holds = puts ∙ ap (λ n. option_map (λ files. with_file files n text) old) same;
}

same_but : (name : List ℕ) (old new : Option Files) → SameBut name old new
    → SameBut name (option_map (with_files []) old) new
same_but name None new same = same
same_but name (Some files) new same = same

-- the put was refused
refused_put : (kept : WaitBooks) (job : Job) (name text : List ℕ) (old : Option Files) (before now : ℕ)
    (new : Option Files) (error : PutError) (status : Status)
    → name ≡ waits_name job.base → IsTextOf kept job text → IsPut {U = Unit {0}} before now (Err error)
    → Some (put_status name error) ≡ Some status → SameBut name old new
    → PutsWaits kept job old before now (Err status) new
refused_put kept job name text old before now new error status same is put_is stop but = record {
  waits = Some (record { text = text; put = Err error });
  text = is;
  put = put_is;
  stops = ap (λ n. Some (put_status n error)) (sym same) ∙ stop;
  holds = subst (λ n. SameBut n (option_map (with_files []) old) new) same (same_but name old new but);
}

pub PutsWaits-unput : (kept : WaitBooks) (job : Job) (name text : List ℕ) (old : Option Files) (before now : ℕ)
    (new : Option Files) (error : PutError) (status : Status)
    → name ≡ waits_name job.base → IsTextOf kept job text
    → PutAnswers {U = Unit {0}} old name text before now (Err error) new
    → HasStatus (Some (put_status name error)) status → PutsWaits kept job old before now (Err status) new
PutsWaits-unput kept job name text old before now new put.Failed status same is answers (inl wanting) =
    refused_put kept job name text old before now new (put.OutOfMemory memory) status same is tt (ap Some (sym wanting))
    answers.1
PutsWaits-unput kept job name text old before now new (put.OutOfMemory memory) status same is answers (inl wanting) =
    refused_put kept job name text old before now new (put.OutOfMemory memory) status same is tt (ap Some (sym wanting)) answers
PutsWaits-unput kept job name text old before now new put.Failed status same is answers (inr stop) =
    refused_put kept job name text old before now new put.Failed status same is answers.0 stop answers.1
PutsWaits-unput kept job name text old before now new (put.OutOfMemory memory) status same is answers (inr stop) =
    refused_put kept job name text old before now new (put.OutOfMemory memory) status same is tt stop answers

-- ---- what is left

-- files after files
holds_then : (fs gs : List Named) (name : Option (List ℕ)) (old mid new : Option Files)
    → mid ≡ option_map (with_files fs) old → Holds gs name mid new → Holds (fs ++ gs) name old new
holds_then fs gs name old mid new first next = by name next
  where
    both : (files : Option Files)
        → option_map (with_files gs) (option_map (with_files fs) files) ≡ option_map (with_files (fs ++ gs)) files
    both None = refl
    both (Some files) = ap Some (sym (with-append fs gs files))

    same : option_map (with_files gs) mid ≡ option_map (with_files (fs ++ gs)) old
    same = ap (option_map (with_files gs)) first ∙ both old

    by : (name : Option (List ℕ)) → Holds gs name mid new → Holds (fs ++ gs) name old new
    by None holds = holds ∙ same
    by (Some n) holds = subst (λ (f : Option Files). SameBut n f new) same holds

-- a file behind what was put out, or its name
leaves_then : (old mid new : Outside) (output behind : Output) → output.refused ≡ None → Leaves old output mid
    → behind.out ≡ [] → behind.err ≡ [] → Holds behind.files behind.refused mid.files new.files
    → new.out ≡ mid.out → new.err ≡ mid.err → Leaves old (and_then output behind) new
leaves_then old mid new output behind whole left no_out no_err holds out err = record {
  files = holds_then output.files behind.files behind.refused old.files mid.files new.files
      (subst (λ refused. Holds output.files refused old.files mid.files) whole left.files) holds;
  out = ap (λ (s : Stream). s.taken) out ∙ left.out
      ∙ ap (taken_more old.out.taken) (sym (append-nil output.out) ∙ ap (λ bytes. output.out ++ bytes) (sym no_out));
  err = ap (λ (s : Stream). s.taken) err ∙ left.err
      ∙ ap (taken_more old.err.taken) (sym (append-nil output.err) ∙ ap (λ bytes. output.err ++ bytes) (sym no_err));
}

-- what the gate comes to, from what the stage answers
abbrev gate_outcome : Option Status → Output → Status → Outcome
gate_outcome stops output last = at_gate stops output (record { status = last; output = nothing })

status_then : (result : Result (Unit {0}) Status) (output : Output) (last : Status)
    → (gate_outcome (stop_status result) output last).status ≡ report_status last result
status_then (Ok done) output last = refl
status_then (Err status) output last = refl

module _ (old mid new : Outside) (output : Output) (whole : output.refused ≡ None) (left : Leaves old output mid)
    (out : new.out ≡ mid.out) (err : new.err ≡ mid.err) (base : List ℕ) (last : Status) where
  abbrev Left : Option WaitsOutcome → Option Status → Type 0
  Left waited stops =
      Leaves old (and_then output (gate_outcome stops (waits_gate base waited).output last).output) new

  left_then : (waited : Option WaitsOutcome) (stops : Option Status) → (waits_gate base waited).stops ≡ stops
      → Holds (waits_gate base waited).output.files (waits_gate base waited).output.refused mid.files new.files
      → Left waited stops
  left_then waited stops is holds = subst (Left waited) is (by waited holds)
    where
      put_then : (text : List ℕ) (answer : Result (Unit {0}) PutError)
          → Holds (put_output (waits_name base, text) answer).files (put_output (waits_name base, text) answer).refused
          mid.files new.files
          → Left (Some (record { text = text; put = answer })) (put_fault (waits_name base) answer)
      put_then text (Ok done) holds_file =
          leaves_then old mid new output (record nothing { files = (waits_name base, text) ∷ [] }) whole left refl refl
          holds_file out err
      put_then text (Err put.Failed) holds_file =
          leaves_then old mid new output (record nothing { refused = Some (waits_name base) }) whole left refl refl
          holds_file out err
      put_then text (Err (put.OutOfMemory _)) holds_file =
          leaves_then old mid new output (record nothing { refused = Some (waits_name base) }) whole left refl refl
          holds_file out err

      by : (waited : Option WaitsOutcome)
          → Holds (waits_gate base waited).output.files (waits_gate base waited).output.refused mid.files new.files
          → Left waited (waits_gate base waited).stops
      by None holds_none = leaves_then old mid new output nothing whole left refl refl holds_none out err
      by (Some w) holds_file = put_then w.text w.put holds_file

-- ---- the work of `run`

put_since : {U : Type 0} (before mid now : ℕ) (answer : Result U PutError) → before ≤ mid → IsPut mid now answer
    → IsPut before now answer
put_since before mid now (Ok done) early is = tt
put_since before mid now (Err put.Failed) early rose = omega (arith, early, rose)
put_since before mid now (Err (put.OutOfMemory _)) early is = tt

-- What is known once a watched run came to its end.
pub can_run : (old mid : Outside) (job : Job) (IsSo : Program → Type 0) (run : RunEnd) → IsJob job
    → (ran : RanToEnd plain_parts IsSo old job run mid) → CanRun (guest_with job ran.program ran.input ran.syms)
can_run old mid job IsSo run within ran = record {
  accepted = accepted_is (refusal ran.program) ran.accepted;
  image = refl;
  sound = ran.sound;
  budget = within.budget.most_of;
}

pub can_report : (old mid : Outside) (job : Job) (run : RunEnd) (first last : WaitState) → IsJob job
    → first.books ≡ keeping.nothing → RanToEnd plain_parts (HasWatched watching first last) old job run mid
    → CanReport last.books
can_report old mid job run first last within fresh ran =
    let guest = guest_with job ran.program ran.input ran.syms in
    let can = can_run old mid job (HasWatched watching first last) run within ran in
    let w = ran.whole in record {
      steps = trace.steps_of w.trace;
      stands = kept_of_run guest can w.trace w.stop w.is first last fresh (ran.so w.trace w.stop w.is);
      sums = sums_of_run guest can w.trace w.stop w.is;
    }

module _ (old mid new : Outside) (job : Job) (run : RunEnd) (first last : WaitState) (fresh : first.books ≡ keeping.nothing)
    (result : Result (Unit {0}) Status) (early : old.put_faults ≤ mid.put_faults)
    (loads : new.load_faults ≡ mid.load_faults) (out : new.out ≡ mid.out) (err : new.err ≡ mid.err) where
  pub Works-waits : IsJob job → RanToEnd plain_parts (HasWatched watching first last) old job run mid
      → PutsWaits last.books job mid.files mid.put_faults new.put_faults result new.files
      → Works old (Run job Waits) (report_status (end_status run.end) result) new
  Works-waits within ran puts = record {
    course = met;
    met = (
      record {
        program = subst (λ n. IsLoad old.files (program_of job.args) file_limit old.load_faults n (Ok ran.program))
            (sym loads) ran.load;
        input = subst (λ n. IsLoadIf old.files job.input text_limit old.load_faults n (Ok ran.input)) (sym loads)
            ran.fed;
        run = (ran.symbols, ran.sound, (ran.fits, ran.whole));
      },
      known puts.waits puts.text puts.put,
    );
    status_is = sym (ap (λ (o : Outcome). o.status) comes
        ∙ ap (λ s. (gate_outcome s gate.output (end_status run.end)).status) puts.stops
        ∙ status_then result gate.output (end_status run.end));
    leaves = subst (λ (o : Outcome). Leaves old o.output new) (sym comes)
        (left_then old mid new ran.output
        (whole_refused guest run ran.output ran.whole)
        ran.leaves out err job.base (end_status run.end) puts.waits gate.stops refl puts.holds);
  }
    where
      guest : Program
      guest = guest_with job ran.program ran.input ran.syms

      gate : Gate
      gate = waits_gate job.base puts.waits

      met : Course
      met = record (met_running ran.program ran.input (record { syms = ran.syms; stop = Ok run; output = ran.output }))
          { waits = puts.waits }

      comes : gates_outcome (reading met ++ loading job met ++ run_gate job met.run ∷ gate ∷ []) (end_status run.end)
          ≡ at_gate None ran.output (gates_outcome (gate ∷ []) (end_status run.end))
      comes =
          by_loading job met None (gate ∷ []) (end_status run.end) refl
          (ap (λ s. or_next s (others job ran.program (Ok ran.input))) ran.accepted
          ∙ fits_all job ran.program ran.input ran.syms ran.fits)

      known : (waited : Option WaitsOutcome) → IfSome waited (λ w. IsTextOf last.books job w.text)
          → IfSome waited (λ w. IsPut mid.put_faults new.put_faults w.put) → IfSome waited (IsWaited old guest new)
      known None text put_is = tt
      known (Some w) text put_is = record {
        text = λ xs stop is.
            text (trace.steps_of xs)
            (kept_of_run guest (can_run old mid job (HasWatched watching first last) run within ran) xs stop is first last
            fresh (ran.so xs stop is));
        put = put_since old.put_faults mid.put_faults new.put_faults w.put early put_is;
      }

-- ---- the stages of the code

-- a stage stopped the work
pub Works-exit : (old new : Outside) (job : Job) (status : Status) (result : Result End Status)
    → IsErrAnd result (λ s. s ≡ status) → Works old (Run job Waits) status new
    → Works old (Run job Waits) (final_status (end_result result)) new
Works-exit old new job status (Ok end) none works = absurd none
Works-exit old new job status (Err s) is works = subst (λ t. Works old (Run job Waits) t new) (sym is) works

-- a watch of waits writes plain parts
pub waits_write : WritesPlain watching
waits_write = record { text = λ w head rows syms. refl }

-- how it ended, by the fields of what the run answered
pub Works-ended_run : (old new : Outside) (job : Job) (run inside : RunEnd) → run ≡ inside
    → Works old (Run job Waits) (end_status run.end) new → Works old (Run job Waits) (end_status inside.end) new
Works-ended_run old new job run inside same works =
    subst (λ (r : RunEnd). Works old (Run job Waits) (end_status r.end) new) same works
