-- What the stages of a demonstration answer: what they came to, or the status with which their gate stops the work.
use Rattle.std.specs.Prelude.{◌≡◌, IfOk, IfSome, List, [], ◌∷◌, ℕ, false, Option, Some, None, Result, Ok, Err}
use Rattle.event_costs.specs.Costs.{event_names, events_shown}
use Rattle.outside.specs.Outside.{Leaves, Outside, Output}
use Rattle.event_costs.specs.declared.outcome.End.{End}
use Rattle.event_costs.specs.declared.outcome.End.TheVariants as end
use Rattle.elf_read.specs.Image.{image_of}
use Rattle.sym_map.specs.SymbolMap.{IsSound, SymbolMap}
use Rattle.cg_read.specs.Profiles.{Contents, IsProfile}
use Rattle.profile_files.specs.Joined.{no_rows}
use Rattle.profile_files.specs.Reading.{IsReading}
use Rattle.profile_files.specs.declared.fault.ReadFault.{ReadFault}
use Rattle.profile_run.specs.Program.{Fits, Program}
use Rattle.profile_run.specs.Parts.{plain_parts}
use Rattle.profile_run.specs.Runs.{RunEnd, IsWhole, Runs}
use Rattle.profile_run.specs.declared.run_end.PartFile.{PartFile}
use Rattle.report_laws.specs.Exact.{parts_wanted}
use Rattle.command_status.specs.declared.status.Status.{Status}
use Rattle.command_steps.specs.Annotate.{read_fault}
use Rattle.profile_cli.specs.Course.{RunOutcome}
use Rattle.command_steps.specs.Summary.{SummaryOutcome, IsSummed, summing}
use Rattle.profile_cli.specs.Demo.{demo_guest, demo_job}
use Rattle.command_steps.specs.Gates.{Gate, check, gates_outcome}
use Rattle.profile_cli.specs.Order.{run_gate}
use Rattle.profile_cli.specs.Program.{IsMapOf}
use Rattle.command_steps.specs.Stages.{Did}
use Rattle.profile_cli.specs.Stages as stage
use Rattle.command_steps.specs.declared.summary.Figures.{Figures}
use Rattle.command_steps.specs.ReportStages.{report_status}

-- The demonstration ran to its end, and all that it puts out is left.
pub record DemoEnded (old : Outside) (file : List ℕ) (run : RunEnd) (new : Outside) : Type 0 where
  pub syms : SymbolMap
  pub output : Output
  pub symbols : IsMapOf (image_of file) syms
  pub sound : IsSound syms
  pub fits : Fits (demo_guest file syms)
  pub whole : IsWhole (plain_parts (demo_guest file syms)) (demo_guest file syms) run output
  pub leaves : Leaves old output new

-- a run that may go so
pub record IsRanSo (old : Outside) (file : List ℕ) (new : Outside) (ran : RunOutcome) : Type 0 where
  pub symbols : IsMapOf (image_of file) ran.syms
  pub sound : IsSound ran.syms
  pub runs : Runs (plain_parts (demo_guest file ran.syms)) (demo_guest file ran.syms) old ran.stop ran.output new

-- The work stopped before the end of the run, whatever stands behind it in the list of gates.
pub record DemoStopped (old : Outside) (file : List ℕ) (status : Status) (new : Outside) : Type 0 where
  pub run : Option RunOutcome
  pub output : Output
  pub is : IfSome run (IsRanSo old file new)
  pub comes : (gates : List Gate) (last : Status)
      → gates_outcome (run_gate demo_job run ∷ gates) last ≡ record { status = status; output = output }
  pub leaves : Leaves old output new

abbrev pub RunsDemo : Outside → List ℕ → Result RunEnd Status → Outside → Type 0
RunsDemo old file (Ok run) new = DemoEnded old file run new
RunsDemo old file (Err status) new = DemoStopped old file status new

-- what was told of the run
abbrev pub DidRunDemo : Outside → List ℕ → Result RunEnd Status → Outside → Type 0
DidRunDemo old file (Ok run) new = (guest : Program) × Did (stage.Runs plain_parts demo_job file []) old (Ok (guest, run)) new
DidRunDemo old file (Err status) new = Did (stage.Runs plain_parts demo_job file []) old (Err status) new

-- the code of an exit
abbrev pub code_of : End → Option ℕ
code_of (end.Exited code) = Some code
code_of stop = None

-- The parts of a run that exited are read and joined, and the summary is written, or something stops this. Nothing is
-- put.
pub record SumsUp (old : Outside) (f : Figures) (parts : List PartFile) (result : Result (Unit {0}) Status)
    (new : Outside) : Type 0 where
  pub read : Result Contents ReadFault
  pub summary : Option SummaryOutcome
  pub output : Output
  pub reading : IsReading old.files old.load_faults new.load_faults (no_rows (events_shown false event_names))
      (parts_wanted demo_job.base parts) read
  pub profile : IfOk read IsProfile
  pub is : IfSome summary (λ s. IfOk read (λ p. IsSummed old f p new s))
  pub comes : (last : Status) → gates_outcome (check (read_fault read) ∷ summing f summary) last
      ≡ record { status = report_status last result; output = output }
  pub puts : output.files ≡ []
  pub refused : output.refused ≡ None
  pub same_files : new.files ≡ old.files
  pub leaves : Leaves old output new
