-- What is told of each stage, and of each command.
use Rattle.std.proofs.Common.{◌≡◌, ◌⊎◌, ℕ, List, [], ◌∷◌, length, Some, None, Result, Ok, Err, inl, inr, refl, sym}
use Rattle.std.proofs.Common.{ap, subst, ◌∙◌, ◌++◌}
use Rattle.std.specs.Result.{IsErrAnd}
use Rattle.event_costs.specs.Costs.{event_names, events_shown}
use Rattle.byte_text.specs.Memory.{memory}
use Rattle.event_costs.specs.declared.outcome.End.{End}
use Rattle.event_costs.specs.declared.outcome.End.TheVariants as end
use Rattle.outside.specs.Outside.{Log, Outside, Stream, Tells, done_then, nothing_done}
use Rattle.outside.specs.Journal.{Put, TellsMore}
use Rattle.outside.specs.declared.folder.PutError.{PutError}
use Rattle.cg_read.specs.Profiles.{Contents}
use Rattle.profile_files.specs.Joined.{no_rows}
use Rattle.wait_report.specs.Keeping.{WaitBooks, WaitState}
use Rattle.wait_report.specs.Keeping as keeping
use Rattle.elf_read.specs.Image.{Image, image_of}
use Rattle.profile_run.specs.Program.{Program}
use Rattle.profile_run.specs.Parts.{Writing, plain_parts}
use Rattle.profile_run.specs.Runs.{RunEnd}
use Rattle.profile_run.specs.Trace.{steps_of}
use Rattle.profile_run.specs.declared.run_end.PartFile.{PartFile}
use Rattle.demo_make.specs.Program.{IsFileOf, demo}
use Rattle.command_status.specs.Ends.{end_status}
use Rattle.command_status.specs.Lines.{message_of}
use Rattle.command_status.specs.declared.status.Status.{Status}
use Rattle.command_status.specs.declared.status.Status.TheVariants.{OutOfMemory, Usage}
use Rattle.command_words.specs.Request as words
use Rattle.command_words.specs.Request.{Request, Job, Positions, View, Waits, Watching, watching_at}
use Rattle.command_words.specs.Within.{IsJob}
use Rattle.report_laws.specs.Exact.{parts_wanted}
use Rattle.profile_cli.specs.Calls.{DoesAsked, DoesDemo, DoesReport, DoesRun, MakesCalls, SumsUp, SumsUpIf}
use Rattle.command_steps.specs.Summary.{WritesSummary}
use Rattle.command_steps.specs.Stages.{final_status, AreWritesOrWants, Did, Gives, Passes, ReadsAll, Reports, Then, asking}
use Rattle.command_steps.specs.declared.summary.Figures.{Figures}
use Rattle.profile_cli.specs.Demo.{demo_job}
use Rattle.command_steps.specs.Saying.{after_line, TellsLine}
use Rattle.profile_cli.specs.Stages as stage
use Rattle.profile_cli.specs.Stages.{LoadsAndRuns, PutsWaits}
use Rattle.profile_cli.specs.Watching.{parts_asked, put_fault, waits_name}
use Rattle.profile_cli.specs.inner.DemoStages.{DidRunDemo, code_of}
use Rattle.command_steps.specs.ReportStages.{reported}
use Rattle.profile_cli.specs.inner.RunStages as inner
use Rattle.profile_cli.specs.inner.RunStages.{DidWork, DidWorkOrWants, RanToEnd, RunsElf, end_result}
use Rattle.profile_cli.specs.inner.WaitStages.{IsTextOf, PutsText}
use Rattle.profile_cli.specs.Blame.{IsToBlame}
use Rattle.profile_cli.proofs.BlameLemmas.{asked_blames, line_blames}
use Rattle.profile_cli.proofs.DemoLemmas.{exited_with}
use Rattle.profile_cli.proofs.StageLemmas.{did_exit, did_quietly, reported_then, tells_calls, tells_line, tells_none}
use Rattle.profile_cli.proofs.StageLemmas.{tells_then, then_goes, then_stops}
use Rattle.profile_cli.proofs.WaitLemmas.{can_run, kept_of_run}
use Rattle.profile_cli.proofs.WorkLemmas.{did_run, guest_with}

-- the same files, as they are handed on
pub read_of : {old new : Outside} (first : Contents) (base : List ℕ) (parts listed : List PartFile)
    (result : Result Contents Status) → listed ≡ parts → Did (ReadsAll first (parts_wanted base listed)) old result new
    → Did (ReadsAll first (parts_wanted base parts)) old result new
read_of {old} {new} first base parts listed result same =
    subst (λ ps. Did (ReadsAll first (parts_wanted base ps)) old result new) same

-- ---- the report on waiting

pub did_put : (old new : Outside) (kept : WaitBooks) (job : Job) (name text : List ℕ) (answer : Result (Unit {0}) PutError)
    (result : Result (Unit {0}) Status) → name ≡ waits_name job.base → IsTextOf kept job text
    → TellsMore old.calls (Put name text answer ∷ []) new.calls → new.out ≡ old.out → new.err ≡ old.err
    → Passes (put_fault name answer) result → Did (PutsText kept job) old result new
did_put old new kept job name text answer result is text_is told out err passes = record {
  log = asking (Put name text answer ∷ []);
  stage = inr (record {
    text = text;
    text_is = text_is;
    answer = answer;
    log_is = ap (λ n. asking (Put n text answer ∷ [])) is;
    passes = subst (λ n. Passes (put_fault n answer) result) is passes;
  });
  tells = tells_calls old new (Put name text answer ∷ []) told out err;
}

pub did_not_put : (old : Outside) (kept : WaitBooks) (job : Job) (result : Result (Unit {0}) Status)
    → IsErrAnd result (λ s. s ≡ OutOfMemory memory) → Did (PutsText kept job) old result old
did_not_put old kept job result wants =
    did_exit old old (OutOfMemory memory) result wants (record {
      log = nothing_done;
      stage = inl (record { nothing = refl; comes = refl });
      tells = tells_none old;
    })

-- it is that of the guest whose run the watch was told of
put_of_run : (old mid new : Outside) (job : Job) (run : RunEnd) (first last : WaitState)
    (result : Result (Unit {0}) Status) → IsJob job → first.books ≡ keeping.nothing
    → (ran : RanToEnd plain_parts (inner.HasWatched keeping.watching first last) old job run mid)
    → Did (PutsText last.books job) mid result new
    → Did (PutsWaits Waits (guest_with job ran.program ran.input ran.syms)) mid result new
put_of_run old mid new job run first last result within fresh ran did =
    record { log = did.log; stage = by did.stage; tells = did.tells }
  where
    guest : Program
    guest = guest_with job ran.program ran.input ran.syms

    by : PutsText last.books job did.log result → PutsWaits Waits guest did.log result
    by (inl wants) = inl wants
    by (inr has) = inr (record {
      text = has.text;
      text_is = λ trace stop is.
          has.text_is (steps_of trace)
          (kept_of_run guest (can_run old mid job (inner.HasWatched keeping.watching first last) run within ran) trace stop is
          first last fresh (ran.so trace stop is));
      answer = has.answer;
      log_is = has.log_is;
      passes = has.passes;
    })

-- ---- `run`

-- where the report on waiting was put, or not
abbrev pub after_put : RunEnd → Result (Unit {0}) Status → Result Status Status
after_put run (Ok _) = Ok (end_status run.end)
after_put run (Err status) = Err status

put_then : (mid new : Outside) (guest : Program) (run : RunEnd) (result : Result (Unit {0}) Status)
    → Did (PutsWaits Waits guest) mid result new
    → Did (Then (PutsWaits Waits guest) (λ put. Gives (end_status run.end))) mid (after_put run result) new
put_then mid new guest run (Ok done) put =
    then_goes mid new new done (Ok (end_status run.end)) put (did_quietly new (Ok (end_status run.end)) refl)
put_then mid new guest run (Err status) put = then_stops mid new status put

pub told_waits : (old mid new : Outside) (job : Job) (run inside : RunEnd) (first last : WaitState)
    (result : Result (Unit {0}) Status) → IsJob job → first.books ≡ keeping.nothing
    → run ≡ inside → RanToEnd plain_parts (inner.HasWatched keeping.watching first last) old job run mid
    → Did (PutsText last.books job) mid result new → Did (DoesRun job Waits) old (after_put inside result) new
told_waits old mid new job run inside first last result within fresh same ran did =
    let guest = guest_with job ran.program ran.input ran.syms in
    subst (λ (r : RunEnd). Did (DoesRun job Waits) old (after_put r result) new) same
    (then_goes old mid new (guest, run) (after_put run result) ran.did
    (put_then mid new guest run result (put_of_run old mid new job run first last result within fresh ran did)))

-- nothing is put behind the parts
pub told_run : (old new : Outside) (job : Job) (watching : Watching) (guest : Program) (run inside : RunEnd)
    (status : Status)
    → ((log : Log) (result : Result (Unit {0}) Status) → Gives tt log result → PutsWaits watching guest log result)
    → status ≡ end_status inside.end → inside ≡ run
    → Did (LoadsAndRuns (parts_asked watching) job) old (Ok (guest, run)) new
    → DidWork old (words.Run job watching) status new
told_run old new job watching guest run inside status quiet is same ran = record {
  comes = Ok (end_status run.end);
  did = then_goes old new new (guest, run) (Ok (end_status run.end)) ran
      (then_goes new new new tt (Ok (end_status run.end)) (record {
        log = nothing_done;
        stage = quiet nothing_done (Ok tt) (record { nothing = refl; comes = refl });
        tells = tells_none new;
      }) (did_quietly new (Ok (end_status run.end)) refl));
  status_is = is ∙ ap (λ (r : RunEnd). end_status r.end) same;
}

pub told_run_stopped : (old new : Outside) (job : Job) (watching : Watching) (status : Status)
    → Did (LoadsAndRuns (parts_asked watching) job) old (Err status) new
    → DidWork old (words.Run job watching) status new
told_run_stopped old new job watching status did =
    record { comes = Err status; did = then_stops old new status did; status_is = refl }

-- the end is not come to
pub ended_exit : {Stage : Log → Result Status Status → Type 0} (old new : Outside) (stop : Status)
    (result : Result End Status) → IsErrAnd result (λ s. s ≡ stop) → Did Stage old (Err stop) new
    → Did Stage old (end_result result) new
ended_exit old new stop (Ok done) none did = absurd none
ended_exit {Stage} old new stop (Err s) is did = subst (λ t. Did Stage old (Err t) new) (sym is) did

-- ---- `report`

-- the parts and the report behind them
abbrev pub behind_run : Job → View → RunEnd → Log → Result Status Status → Type 0
behind_run job view run =
    Then (ReadsAll (no_rows (events_shown job.branches event_names)) (parts_wanted job.base run.parts)) (λ p.
    Then (Reports view p) (λ shown.
    Gives (end_status run.end)))

pub told_reported : (old mid new : Outside) (job : Job) (positions : Positions) (view : View) (guest : Program)
    (run inside : RunEnd) → run ≡ inside
    → Did (LoadsAndRuns (parts_asked (watching_at positions)) job) old (Ok (guest, run)) mid
    → Did (behind_run job view run) mid (Ok (end_status run.end)) new
    → Did (DoesReport job positions view) old (Ok (end_status inside.end)) new
told_reported old mid new job positions view guest run inside same ran behind =
    subst (λ (r : RunEnd). Did (DoesReport job positions view) old (Ok (end_status r.end)) new) same
    (then_goes old mid new (guest, run) (Ok (end_status run.end)) ran behind)

-- its status is the one that it came to
pub did_work : (old new : Outside) (asked : Request) (comes : Result Status Status) (status : Status)
    → status ≡ final_status comes → Did (DoesAsked asked) old comes new → DidWork old asked status new
did_work old new asked comes status is did = record { comes = comes; did = did; status_is = is }

-- ---- `demo`

-- memory was wanting before the run of the demonstration
pub demo_not_run : (old : Outside) (file : List ℕ) (stop : Status) (result : Result RunEnd Status)
    → IsErrAnd result (λ s. s ≡ stop) → stop ≡ OutOfMemory memory → DidRunDemo old file result old
demo_not_run old file stop (Ok run) none wants = absurd none
demo_not_run old file stop (Err s) is wants = record {
  log = nothing_done;
  stage = inl (record { nothing = refl; comes = ap Err (is ∙ wants) });
  tells = tells_none old;
}

-- the run
pub told_demo_run : (parts : Program → Writing) (IsSo : Program → Type 0) (job : Job) (file input : List ℕ) (image : Image)
    (old new : Outside) (result : Result RunEnd Status) → parts ≡ plain_parts → job ≡ demo_job → input ≡ []
    → image ≡ image_of file → RunsElf parts IsSo job image input old result new → DidRunDemo old file result new
told_demo_run parts IsSo job file input image old new result are job_is none is ran =
    by result (subst (λ w. RunsElf w IsSo demo_job (image_of file) [] old result new) are
    (subst (λ j. RunsElf parts IsSo j (image_of file) [] old result new) job_is
    (subst (λ i. RunsElf parts IsSo job (image_of file) i old result new) none
    (subst (λ i. RunsElf parts IsSo job i input old result new) is ran))))
  where
    by : (result : Result RunEnd Status) → RunsElf plain_parts IsSo demo_job (image_of file) [] old result new
        → DidRunDemo old file result new
    by (Ok run) (inl (never, same)) = absurd never
    by (Err status) (inl (wants, same)) =
        subst (DidRunDemo old file (Err status)) (sym same)
        (demo_not_run old file (OutOfMemory memory) (Err status) wants refl)
    by (Ok run) (inr with) = (
      guest_with demo_job file [] with.syms,
      did_run plain_parts demo_job file [] (image_of file) with.syms old new (Ok run) refl with.symbols with.sound
          with.run,
    )
    by (Err status) (inr with) =
        did_run plain_parts demo_job file [] (image_of file) with.syms old new (Err status) refl with.symbols with.sound
        with.run

-- it was not made, or its run stopped before the end
pub told_not_made : (old : Outside) (size : ℕ) (result : Result Status Status)
    → IsErrAnd result (λ s. s ≡ OutOfMemory memory) → Did (DoesDemo size) old result old
told_not_made old size result wants =
    did_exit old old (OutOfMemory memory) result wants
    (then_stops old old (OutOfMemory memory) (did_quietly old (Err (OutOfMemory memory)) refl))

module _ (old mid : Outside) (size : ℕ) (file : List ℕ) (made : IsFileOf (demo size) file) where
  made_then : {new : Outside} {result : Result Status Status}
      → Did (Then (stage.Runs plain_parts demo_job file []) (λ ran. SumsUpIf size (length file) ran.1 ran.1.end)) old
      result new → Did (DoesDemo size) old result new
  made_then {new} {result} did = then_goes old old new file result (did_quietly old (Ok file) made) did

  pub told_not_run : (stop : Status) (result : Result Status Status) → IsErrAnd result (λ s. s ≡ stop)
      → DidRunDemo old file (Err stop) mid → Did (DoesDemo size) old result mid
  told_not_run stop result is ran = did_exit old mid stop result is (made_then (then_stops old mid stop ran))

  module _ (run : RunEnd) (ran : DidRunDemo old file (Ok run) mid) where
    otherwise : (len : ℕ) (stop : End) → code_of stop ≡ None
        → Did (SumsUpIf size len run stop) mid (Ok (end_status stop)) mid
    otherwise len (end.Exited code) none = absurd (cc)
    otherwise len stop none = did_quietly mid (Ok (end_status stop)) refl

    -- it ended otherwise than by an exit
    pub told_otherwise : (inside : RunEnd) (status : Status) → status ≡ end_status inside.end → inside ≡ run
        → code_of inside.end ≡ None → Did (DoesDemo size) old (Ok status) mid
    told_otherwise inside status is same none =
        subst (λ s. Did (DoesDemo size) old (Ok s) mid) (sym (is ∙ ap (λ (r : RunEnd). end_status r.end) same))
        (made_then (then_goes old mid mid (ran.0, run) (Ok (end_status run.end)) ran.1
        (otherwise (length file) run.end (ap (λ (r : RunEnd). code_of r.end) (sym same) ∙ none))))

    -- it exited, and was summed up, or not
    pub told_summed : (new : Outside) (inside told : RunEnd) (code : ℕ) → inside ≡ run → told ≡ run
        → code_of inside.end ≡ Some code → (len : ℕ) → len ≡ length file → (result : Result (Unit {0}) Status)
        → Did (SumsUp size len code told) mid result new → Did (DoesDemo size) old (reported result) new
    told_summed new inside told code same also exited len is_len result sums =
        made_then (then_goes old mid new (ran.0, run) (reported result) ran.1
        (subst (λ stop. Did (SumsUpIf size (length file) run stop) mid (reported result) new)
        (sym (exited_with run.end code (ap (λ (r : RunEnd). code_of r.end) (sym same) ∙ exited)))
        (reported_then mid new result
        (subst (λ n. Did (SumsUp size n code run) mid result new) is_len
        (subst (λ (r : RunEnd). Did (SumsUp size len code r) mid result new) also sums)))))

-- the summary, as its figures are handed on
pub summary_of_figures : {old new : Outside} {figures handed : Figures} (p : Contents)
    (result : Result (Unit {0}) Status) → handed ≡ figures → Did (WritesSummary handed p) old result new
    → Did (WritesSummary figures p) old result new
summary_of_figures {old} {new} p result is = subst (λ f. Did (WritesSummary f p) old result new) is

-- ---- the whole call

pub told_usage : (old : Outside) (asked : Request) → asked ≡ words.Usage → DidWorkOrWants old asked Usage old
told_usage old asked is =
    subst (λ a. DidWorkOrWants old a Usage old) (sym is)
    (inl (record { comes = Ok Usage; did = did_quietly old (Ok Usage) refl; status_is = refl }))

-- the words ask for this, and it was done
pub told_asked : (old new : Outside) (requested asked : Request) (status : Status) → requested ≡ asked
    → DidWork old requested status new → DidWorkOrWants old asked status new
told_asked old new requested asked status is did = inl (subst (λ a. DidWork old a status new) is did)

-- the line behind the work
module _ (old mid new : Outside) (asked : Request) (found status : Status)
    (line : TellsLine found mid.err.writes status new.err.writes) (calls : new.calls ≡ mid.calls)
    (out : new.out ≡ mid.out) where
  lined : (work : Log) (comes : Result Status Status)
      → DoesAsked asked work comes ⊎ ((work ≡ nothing_done) × (comes ≡ Err (OutOfMemory memory))) → found ≡ final_status comes
      → Tells old work mid → MakesCalls old asked status new
  lined work comes does is tells = record {
    work = work;
    comes = comes;
    does = does;
    line = line.line;
    answer = line.answer;
    writes = subst (λ s. AreWritesOrWants (message_of s) line.line line.answer) is line.writes;
    status_is = subst (λ s. status ≡ after_line s line.answer) is line.status_is;
    blame = subst (λ s. IsToBlame s (done_then work (record nothing_done { err = line.line })))
        (sym (subst (λ s. status ≡ after_line s line.answer) is line.status_is))
        (line_blames (final_status comes) work line.line line.answer
        (subst (λ s. AreWritesOrWants (message_of s) line.line line.answer) is line.writes) (blames does));
    tells = tells_then old mid new work (record nothing_done { err = line.line }) tells
        (tells_line mid new line.line line.tells calls out);
  }
    where
      blames : DoesAsked asked work comes ⊎ ((work ≡ nothing_done) × (comes ≡ Err (OutOfMemory memory)))
          → IsToBlame (final_status comes) work
      blames (inl does) = asked_blames asked work comes does
      blames (inr (none, wants)) = subst (λ c. IsToBlame (final_status c) work) (sym wants) tt

  pub told_all : DidWorkOrWants old asked found mid → MakesCalls old asked status new
  told_all (inl work) = lined work.did.log work.comes (inl work.did.stage) work.status_is work.did.tells
  told_all (inr (wants, same)) =
      lined nothing_done (Err (OutOfMemory memory)) (inr (refl, refl)) wants
      (subst (Tells old nothing_done) (sym same) (tells_none old))
