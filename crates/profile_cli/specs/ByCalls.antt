-- The headline by the calls that were told: over any folder that gives back what was put into it.
use Rattle.std.specs.Prelude.{◌≡◌, ℕ, ◌++◌, Bool, true, false, Contains, List, [], ◌∷◌, length, map, Option, Some}
use Rattle.std.specs.Prelude.{None, Ok}
use Rattle.outside.specs.Outside.{Log, Named, Outside, Tells, puts_of}
use Rattle.outside.specs.Journal.{AreWritesOf, AreWritten, Call, Loaded, Put, Wrote}
use Rattle.cg_read.specs.Profiles.{Contents}
use Rattle.annotate.specs.Files.{AreFilesShown}
use Rattle.annotate.specs.Report.{SourceTexts}
use Rattle.source_files.specs.Sources.{loads_of}
use Rattle.profile_run.specs.Trace.{pieces}
use Rattle.command_status.specs.Ends.{end_status}
use Rattle.command_status.specs.Lines.{message_of}
use Rattle.command_status.specs.Numbers.{is_short}
use Rattle.command_status.specs.declared.status.Status.{Status}
use Rattle.command_words.specs.Request.{Request, Job, Positions, Report, View}
use Rattle.profile_cli.specs.HasRun.{RunOf, run_files}
use Rattle.profile_cli.specs.Watching.{files_at}
use Rattle.profile_cli.specs.Headline.{ReportOn}
use Rattle.profile_cli.specs.Counts.{Counts}
use Rattle.outside.specs.Limits.{text_limit, file_limit}
use Rattle.profile_cli.specs.Words.{program_of}

-- Behind the put of a file, a load of its name that gives bytes gives those that were put.
abbrev pub GivesBack : List Call → Type 0
GivesBack calls =
    (before behind : List Call) (name bytes : List ℕ) (limit : ℕ) (given : List ℕ)
    → calls ≡ before ++ Put name bytes (Ok tt) ∷ behind → Contains behind (Loaded name limit (Ok given)) → given ≡ bytes

-- the loads that give these files, each with its length as the limit
abbrev pub loads_back : List Named → List Call
loads_back files = map (λ file. Loaded file.0 (length file.1) (Ok file.1)) files

-- the load of the input, where one is named; else it is empty
abbrev pub IsFed : Option (List ℕ) → List ℕ → List Call → Type 0
IsFed None input calls = (input ≡ []) × (calls ≡ [])
IsFed (Some name) input calls = calls ≡ Loaded name text_limit (Ok input) ∷ []

-- source texts are those of the files that are shown, where they are asked for
abbrev pub AreShown : Bool → Contents → SourceTexts → Type 0
AreShown true p texts = AreFilesShown p (map (λ text. text.0) texts)
AreShown false p texts = texts ≡ []

-- pieces were written, each whole before the next, and then a text, whole
abbrev pub AreWrittenThen : List (List ℕ) → List ℕ → List Wrote → Type 0
AreWrittenThen pieces text writes =
    (first : List Wrote) × (last : List Wrote) × (writes ≡ first ++ last) × AreWritten pieces first
    × AreWritesOf {U = Unit {0}} text last (Ok tt)

-- These are all the calls of a report: PROG was loaded, and its input; the files of the guest's trace were put and
-- loaded again; and the source texts were loaded. To the one sink the guest's pieces were written and then the report
-- on its trace, to the other its pieces and then the line on its end.
pub record IsReportByCalls (job : Job) (positions : Positions) (view : View) (status : Status)
    (log : Log) : Type 0 where
  pub program : List ℕ
  pub input : List ℕ
  pub feeding : List Call
  pub fed : IsFed job.input input feeding
  pub run : RunOf job program input
  pub status_is : status ≡ end_status run.stop.end
  pub report_on : ReportOn run.guest run.trace view
  pub counts : Counts run.guest run.trace view report_on
  pub sources : AreShown view.auto report_on.report.profile report_on.texts
  pub calls : log.calls
      ≡ Loaded (program_of job.args) file_limit (Ok program)
      ∷ feeding ++ puts_of (run_files (files_at positions) run) ++ loads_back (run_files (files_at positions) run)
      ++ loads_of report_on.texts
  pub out : AreWrittenThen (pieces 1 run.trace) report_on.text log.out
  pub err : AreWrittenThen (pieces 2 run.trace) (message_of status) log.err

-- Where the words ask for `report`, and the folder gives back what was put into it, that is all that was called for,
-- unless the work stopped short.
abbrev pub IsHeadlineByCalls : Outside → Request → Status → Outside → Type 0
IsHeadlineByCalls old asked status new =
    (job : Job) (positions : Positions) (view : View) → asked ≡ Report job positions view → is_short status ≡ false
    → (log : Log) × Tells old log new × (GivesBack log.calls → IsReportByCalls job positions view status log)
