-- What `report` shows of a run, and what it leaves.
use Rattle.std.specs.Prelude.{◌≡◌, ℕ, ◌++◌, false, List, Some}
use Rattle.outside.specs.Files.{Files}
use Rattle.outside.specs.Outside.{Outside}
use Rattle.outside.specs.Write.{taken_more}
use Rattle.command_words.specs.Request.{Request, Job, Line, Positions, Report, View}
use Rattle.command_status.specs.Ends.{end_line}
use Rattle.command_status.specs.Numbers.{is_short}
use Rattle.command_status.specs.declared.status.Status.{Status}
use Rattle.annotate.specs.Report.{SourceTexts}
use Rattle.profile_run.specs.Program.{Program}
use Rattle.profile_run.specs.Trace.{RunStep, sent_bytes}
use Rattle.run_laws.specs.OwnParts.{files_of_run}
use Rattle.report_laws.specs.Reports.{IsReportOfRun}
use Rattle.command_steps.specs.Annotate.{AreTextsFor, IsSortPlace, report_options}
use Rattle.profile_cli.specs.HasRun.{HasRun, RunFiles}

-- A report on a trace: each inclusive cost counts every event once. No cost is told of a pair within a group.
pub record ReportOn (guest : Program) (trace : List RunStep) (view : View) : Type 0 where
  pub sort : ℕ
  pub texts : SourceTexts
  pub text : List ℕ
  pub report : IsReportOfRun guest trace (report_options view sort) texts text
  pub sorted : IsSortPlace view.sort report.profile sort

-- The guest ran to its end, and its files are put. `out` has taken the guest's bytes and then the report on its trace,
-- and `err` the guest's bytes and then the line on its end.
pub record IsExactReport (old : Outside) (job : Job) (put : RunFiles) (view : View) (status : Status)
    (new : Outside) : Type 0 where
  pub run : HasRun old job put status new
  pub report_on : ReportOn run.run.guest run.run.trace view
  pub sources : AreTextsFor view.auto new.files old.load_faults new.load_faults report_on.report.profile report_on.texts
  pub out : new.out.taken ≡ taken_more old.out.taken (sent_bytes 1 run.run.trace ++ report_on.text)
  pub err : new.err.taken ≡ taken_more old.err.taken (sent_bytes 2 run.run.trace ++ end_line run.run.stop.end)

-- Where the words ask for `report` with such positions, and the folder tells its contents, the report is exact, and
-- these files are put, unless the work stopped short.
abbrev pub Reports : Positions → RunFiles → Outside → Request → Status → Outside → Type 0
Reports positions put old asked status new =
    (files : Files) (job : Job) (view : View) → asked ≡ Report job positions view → old.files ≡ Some files
    → is_short status ≡ false → IsExactReport old job put view status new

abbrev pub IsHeadline : Outside → Request → Status → Outside → Type 0
IsHeadline = Reports Line files_of_run
