-- The work of `report` behind a run that came to its end.
use Rattle.std.proofs.Common.{Bool, Contains, if◌then◌else◌}
use Rattle.std.proofs.Common.{◌≡◌, ℕ, ◌≤◌, ◌++◌, List, [], ◌∷◌, IfOk, IfSome, Option, Some, None, Result, Ok, Err}
use Rattle.std.proofs.Common.{option_map, refl, sym, ap, subst, ◌∙◌, arith, append-nil}
use Rattle.std.specs.Result.{IsErrAnd}
use Rattle.event_costs.specs.Costs.{event_names, events_shown}
use Rattle.outside.specs.Files.{Files}
use Rattle.outside.specs.Outside.{Holds, Leaves, Output, Outside, Stream, and_then, nothing, with_files}
use Rattle.outside.specs.Write.{taken_more}
use Rattle.event_costs.specs.declared.outcome.End.{End}
use Rattle.outside.specs.declared.sink.WriteError.{WriteError}
use Rattle.outside.specs.declared.sink.WriteError.TheVariants as write
use Rattle.cg_read.specs.Profiles.{Contents, IsProfile}
use Rattle.profile_files.specs.Joined.{no_rows}
use Rattle.profile_files.specs.Reading.{IsReading}
use Rattle.profile_files.specs.declared.fault.ReadFault.{ReadFault}
use Rattle.profile_cli.proofs.Others.{IsReading-within, texts_within, more_taken, rose_from}
use Rattle.profile_run.specs.Runs.{RunEnd}
use Rattle.profile_run.specs.declared.run_end.PartFile.{PartFile}
use Rattle.report_laws.specs.Exact.{parts_wanted}
use Rattle.command_status.specs.Ends.{end_status}
use Rattle.command_status.specs.declared.status.Status.{Status}
use Rattle.command_status.specs.declared.status.Status.TheVariants.{Usage}
use Rattle.command_words.specs.Request.{AddressAndLine, Job, Line, Positions, Report, View, Watching, watching_at}
use Rattle.command_words.specs.Within.{AreFew, IsSortShown}
use Rattle.command_steps.specs.Annotate.{IsShown, IsTaken, ReportOutcome, reporting, sort_fault, text_of}
use Rattle.command_steps.specs.Stages.{final_status}
use Rattle.profile_cli.specs.Course.{Course}
use Rattle.command_steps.specs.Gates.{Outcome, at_gate, check, gates_outcome}
use Rattle.outside.specs.Limits.{text_limit, file_limit}
use Rattle.profile_cli.specs.OwnReport.{parts_to_read, once_put, reporting_own}
use Rattle.profile_cli.specs.Reply.{IsRun, Works}
use Rattle.profile_cli.specs.Watching.{parts_asked}
use Rattle.profile_cli.specs.Words.{program_of}
use Rattle.command_steps.specs.ReportStages.{HasEvents, ReadsFiles, ShowsReport, report_status}
use Rattle.profile_cli.specs.inner.RunStages.{IsAny, RanToEnd, RunsJob, end_result}
use Rattle.profile_cli.proofs.LoadLemmas.{IsLoadIf-within}
use Rattle.profile_cli.proofs.OutsideLemmas.{Leaves-nothing}
use Rattle.profile_cli.proofs.WorkLemmas.{guest_with, met_to_end, past_run, whole_refused}

-- what is left after something was put out, and then something that is no file
pub Leaves-then : (old mid new : Outside) (output next : Output) → output.refused ≡ None → next.files ≡ []
    → next.refused ≡ None → Leaves old output mid → Leaves mid next new → new.files ≡ mid.files
    → Leaves old (and_then output next) new
Leaves-then old mid new output next whole puts refused left behind same = record {
  files = subst (λ r. Holds (output.files ++ next.files) r old.files new.files) (sym refused)
      (subst (λ files. Holds files None old.files new.files)
      (sym (append-nil output.files) ∙ ap (λ files. output.files ++ files) (sym puts)) (same ∙ held));
  out = behind.out ∙ ap (λ taken. taken_more taken next.out) left.out ∙ more_taken old.out.taken output.out next.out;
  err = behind.err ∙ ap (λ taken. taken_more taken next.err) left.err ∙ more_taken old.err.taken output.err next.err;
}
  where
    held : mid.files ≡ option_map (with_files output.files) old.files
    held = subst (λ r. Holds output.files r old.files mid.files) whole left.files

-- the same files, and the same bytes taken
pub Leaves-later : (old mid new : Outside) (output : Output) → new.files ≡ mid.files → new.out ≡ mid.out
    → new.err ≡ mid.err → Leaves old output mid → Leaves old output new
Leaves-later old mid new output files out err left = record {
  files = subst (λ f. Holds output.files output.refused old.files f) (sym files) left.files;
  out = ap (λ (s : Stream). s.taken) out ∙ left.out;
  err = ap (λ (s : Stream). s.taken) err ∙ left.err;
}

pub taken_within : {U : Type 0} (bytes : List ℕ) (before mid now count : ℕ) (written : Result U WriteError)
    → before ≤ mid
    → IsTaken bytes mid now count written → IsTaken bytes before now count written
taken_within bytes before mid now count (Ok done) early is = is
taken_within bytes before mid now count (Err write.Failed) early is = (rose_from before mid now early is.0, is.1)
taken_within bytes before mid now count (Err (write.OutOfMemory _)) early is = is

-- the event to sort by is among those of a profile
own_sorted : (p : Contents) (events : List (List ℕ)) (sort : Option (List ℕ)) → HasEvents events p
    → IfSome sort (λ event. Contains events event) → sort_fault sort (Ok p) ≡ None
own_sorted p events None has is = refl
own_sorted p events (Some event) has is = ap (λ (b : Bool). if b then None else Some Usage) (has event is)

module _ (old mid : Outside) (job : Job) (positions : Positions) (view : View) (run : RunEnd)
    (ran : RanToEnd (parts_asked (watching_at positions)) IsAny old job run mid) where
  abbrev last : Status
  last = end_status run.end

  abbrev met_with : Result Contents ReadFault → Option ReportOutcome → Course
  met_with read shown = record (met_to_end old mid job run ran) { profile = read; report = shown }

  -- the run came to its end, whatever was loaded after it
  still_run : (new : Outside) (read : Result Contents ReadFault) (shown : Option ReportOutcome)
      → mid.load_faults ≤ new.load_faults → IsRun (parts_asked (watching_at positions)) old job (met_with read shown) new
  still_run new read shown late = record {
    program = IsLoadIf-within old.files (Some (program_of job.args)) file_limit old.load_faults old.load_faults
        mid.load_faults new.load_faults (Ok ran.program) (omega arith) late ran.load;
    input = IsLoadIf-within old.files job.input text_limit old.load_faults old.load_faults mid.load_faults
        new.load_faults (Ok ran.input) (omega arith) late ran.fed;
    run = (ran.symbols, ran.sound, (ran.fits, ran.whole));
  }

  still_read : (later new : Outside) (answer : Result Contents ReadFault)
      → IsReading mid.files mid.load_faults later.load_faults (no_rows (events_shown job.branches event_names))
      (parts_wanted job.base run.parts) answer
      → new.files ≡ mid.files → old.load_faults ≤ mid.load_faults → later.load_faults ≤ new.load_faults
      → IsReading new.files old.load_faults new.load_faults (no_rows (events_shown job.branches event_names))
      (parts_to_read job (Ok run)) answer
  still_read later new answer reading same early late =
      subst (λ files. IsReading files old.load_faults new.load_faults (no_rows (events_shown job.branches event_names))
      (parts_wanted job.base run.parts) answer) (sym same)
      (IsReading-within mid.files old.load_faults mid.load_faults later.load_faults new.load_faults
      (no_rows (events_shown job.branches event_names)) (parts_wanted job.base run.parts) answer early late reading)

  works_on : (new : Outside) (read : Result Contents ReadFault) (shown : Option ReportOutcome) (status : Status)
      (next : Output)
      → mid.load_faults ≤ new.load_faults
      → IsReading new.files old.load_faults new.load_faults (no_rows (events_shown job.branches event_names))
      (parts_to_read job (Ok run)) read
      → IfOk read IsProfile → IfSome shown (λ s. IfOk read (λ p. IsShown (once_put old new) view p new s))
      → gates_outcome (reporting_own read shown) last ≡ record { status = status; output = next }
      → Leaves old (and_then ran.output next) new → Works old (Report job positions view) status new
  works_on new read shown status next late reading profile shows comes leaves =
      let all = past_run old mid job run ran (reporting_own read shown) last
      ∙ ap (λ o. at_gate None ran.output o) comes in record {
        course = met_with read shown;
        met = (
          still_run new read shown late,
          record { reading = reading; profile = profile; report = shows },
        );
        status_is = sym (ap (λ (o : Outcome). o.status) all);
        leaves = subst (λ (o : Outcome). Leaves old o.output new) (sym all) leaves;
      }

  no_put_refused : ran.output.refused ≡ None
  no_put_refused = whole_refused (guest_with job ran.program ran.input ran.syms) run ran.output ran.whole

  -- the parts could not be read and joined
  pub Works-unread_parts : (new : Outside) (status : Status)
      → ReadsFiles mid.files mid.load_faults new.load_faults (events_shown job.branches event_names)
      (parts_wanted job.base run.parts) (Err status)
      → new.files ≡ mid.files → new.out ≡ mid.out → new.err ≡ mid.err
      → old.load_faults ≤ mid.load_faults → mid.load_faults ≤ new.load_faults
      → Works old (Report job positions view) status new
  Works-unread_parts new status (refused, reading, is) same out err early late =
      works_on new (Err refused) None status nothing late
      (still_read new new (Err refused) reading same early (omega arith)) tt tt
      (ap (λ s. let o : Outcome = record { status = s; output = nothing } in o) (sym is))
      (Leaves-then old mid new ran.output nothing no_put_refused refl refl ran.leaves
      (Leaves-nothing mid new same (ap (λ (s : Stream). s.taken) out) (ap (λ (s : Stream). s.taken) err)) same)

  shown_own : (later new : Outside) (p : Contents) (shown : Option ReportOutcome)
      → new.files ≡ later.files → old.load_faults ≤ later.load_faults → old.out.faults ≤ later.out.faults
      → IfSome shown (IsShown later view p new) → IfSome shown (IsShown (once_put old new) view p new)
  shown_own later new p None same early out is = tt
  shown_own later new p (Some s) same early out is = record {
    sort = is.sort;
    texts = texts_within view.auto new.files later.files old.load_faults later.load_faults new.load_faults
        new.load_faults p s.texts (sym same) early (omega arith) is.texts;
    report = is.report;
    written = taken_within (text_of s.report) old.out.faults later.out.faults new.out.faults s.count s.written out
        is.written;
  }

  -- they were, and the report on them was shown or not
  pub Works-reported : (later new : Outside) (p : Contents) (result : Result (Unit {0}) Status)
      → ReadsFiles mid.files mid.load_faults later.load_faults (events_shown job.branches event_names)
      (parts_wanted job.base run.parts) (Ok p)
      → IsProfile p → HasEvents (events_shown job.branches event_names) p → IsSortShown job view
      → later.files ≡ mid.files → later.out ≡ mid.out → later.err ≡ mid.err
      → old.load_faults ≤ mid.load_faults → mid.load_faults ≤ later.load_faults → later.load_faults ≤ new.load_faults
      → old.out.faults ≤ mid.out.faults → ShowsReport later view p result new
      → Works old (Report job positions view) (report_status last result) new
  Works-reported later new p result reading profile events sorted same out err first second third faults shows =
      let none = own_sorted p (events_shown job.branches event_names) view.sort events sorted in
      works_on new (Ok p) shows.report (report_status last result) shows.output (omega (arith, second, third))
      (still_read later new (Ok p) reading (shows.same_files ∙ same) first third) profile
      (shown_own later new p shows.report shows.same_files (omega (arith, first, second))
      (subst (λ (s : Stream). old.out.faults ≤ s.faults) (sym out) faults) shows.is)
      (ap (λ s. gates_outcome (check s ∷ reporting shows.report) last) (sym none) ∙ shows.comes last)
      (Leaves-then old later new ran.output shows.output no_put_refused shows.puts shows.refused
      (Leaves-later old mid later ran.output same out err ran.leaves) shows.leaves shows.same_files)

-- a run that puts parts with these positions
pub ran_at : (watching : Watching) (positions : Positions) → watching ≡ watching_at positions → (old new : Outside)
    (job : Job) (result : Result RunEnd Status) → RunsJob (parts_asked watching) IsAny old job result new
    → RunsJob (parts_asked (watching_at positions)) IsAny old job result new
ran_at watching positions is old new job result = subst (λ w. RunsJob (parts_asked w) IsAny old job result new) is

-- so few callers are told apart there as can be
pub few_at : (watching : Watching) (positions : Positions) → watching ≡ watching_at positions → AreFew watching
few_at watching positions is = subst AreFew (sym is) (by positions)
  where
    by : (positions : Positions) → AreFew (watching_at positions)
    by Line = tt
    by AddressAndLine = tt

-- the end of a run, as its fields have it
pub Works-ended : (old new : Outside) (job : Job) (positions : Positions) (view : View) (run inside : RunEnd)
    → run ≡ inside → Works old (Report job positions view) (end_status run.end) new
    → Works old (Report job positions view) (end_status inside.end) new
Works-ended old new job positions view run inside same works =
    subst (λ (r : RunEnd). Works old (Report job positions view) (end_status r.end) new) same works

-- the parts that a run lists
pub of_parts : (told : Option Files) (before now : ℕ) (events : List (List ℕ)) (base : List ℕ)
    (parts parts_to_read : List PartFile) (result : Result Contents Status) → parts_to_read ≡ parts
    → ReadsFiles told before now events (parts_wanted base parts_to_read) result
    → ReadsFiles told before now events (parts_wanted base parts) result
of_parts told before now events base parts parts_to_read result same reads =
    subst (λ ps. ReadsFiles told before now events (parts_wanted base ps) result) same reads

-- a stage stopped the work
pub Works-report_exit : (old new : Outside) (job : Job) (positions : Positions) (view : View) (stop : Status)
    (result : Result End Status) → IsErrAnd result (λ status. status ≡ stop)
    → Works old (Report job positions view) stop new → Works old (Report job positions view) (final_status (end_result result)) new
Works-report_exit old new job positions view stop (Ok end) none works = absurd none
Works-report_exit old new job positions view stop (Err status) is works =
    subst (λ s. Works old (Report job positions view) s new) (sym is) works
