-- What a command may answer, with its cause, and what it leaves. The gates at which its work may stop are in `Order`,
-- and what it may meet there in `Course`.
use Rattle.std.specs.Prelude.{◌≡◌, ◌≤◌, IfSome, if◌then◌else◌}
use Rattle.outside.specs.Outside.{Leaves, Outside, Stream}
use Rattle.elf_read.specs.Image.{image_of}
use Rattle.sym_map.specs.SymbolMap.{IsSound, SymbolMap}
use Rattle.profile_run.specs.Program.{Program}
use Rattle.profile_run.specs.Parts.{Writing}
use Rattle.profile_run.specs.Runs.{Runs}
use Rattle.command_status.specs.declared.status.Status.{Status}
use Rattle.command_words.specs.Request as words
use Rattle.command_words.specs.Request.{Request, Job, watching_at}
use Rattle.profile_files.specs.Loads.{IsLoad}
use Rattle.outside.specs.Load.{bytes_of}
use Rattle.command_steps.specs.Annotate.{IsAnnotated}
use Rattle.profile_cli.specs.Course.{Course, RunOutcome}
use Rattle.outside.specs.Limits.{text_limit, file_limit}
use Rattle.command_steps.specs.Loading.{IsLoadIf}
use Rattle.profile_cli.specs.Demo.{IsDemoRan}
use Rattle.command_steps.specs.Gates.{outcome}
use Rattle.profile_cli.specs.Order.{work}
use Rattle.profile_cli.specs.OwnReport.{IsReported}
use Rattle.profile_cli.specs.Program.{IsMapOf, guest_of}
use Rattle.profile_cli.specs.Watching.{IsWaited, parts_asked}
use Rattle.profile_cli.specs.Words.{program_of}
use Rattle.command_steps.specs.Saying.{Says}

-- the guest of a job, from what was loaded
abbrev pub guest_met : Job → Course → SymbolMap → Program
guest_met job met syms = guest_of job (image_of (bytes_of met.program)) (bytes_of met.input) syms

-- The run may go so: its symbols are those of the program, in a map as every map is, and it puts out what fits how it
-- stopped.
abbrev pub IsRan : (Program → Writing) → Outside → Job → Course → Outside → RunOutcome → Type 0
IsRan parts old job met new ran =
    IsMapOf (image_of (bytes_of met.program)) ran.syms × IsSound ran.syms
    × Runs (parts (guest_met job met ran.syms)) (guest_met job met ran.syms) old ran.stop ran.output new

-- PROG and its input may load so, and its guest may run so and put these parts.
pub record IsRun (parts : Program → Writing) (old : Outside) (job : Job) (met : Course) (new : Outside) : Type 0 where
  pub program : IsLoad old.files (program_of job.args) file_limit old.load_faults new.load_faults met.program
  pub input : IsLoadIf old.files job.input text_limit old.load_faults new.load_faults met.input
  pub run : IfSome met.run (IsRan parts old job met new)

-- and the report on waiting may be put so
abbrev pub IsWaitedIn : Outside → Job → Course → Outside → RunOutcome → Type 0
IsWaitedIn old job met new ran = IfSome met.waits (IsWaited old (guest_met job met ran.syms) new)

-- What each command met may be met over this outside. After a faulty command line nothing has been touched.
abbrev pub Met : Outside → Request → Course → Outside → Type 0
Met old (words.Run job watching) met new =
    IsRun (parts_asked watching) old job met new × IfSome met.run (IsWaitedIn old job met new)
Met old (words.Report job positions view) met new =
    IsRun (parts_asked (watching_at positions)) old job met new × IfSome met.run (IsReported old job view met new)
Met old (words.Annotate names view) met new = IsAnnotated old names view met.profile met.report new
Met old (words.Demo size) met new = IfSome met.run (IsDemoRan old size met new)
Met old words.Usage met new = new ≡ old

-- A command met something that may be met; its status is the one that its work comes to with that; and what the work
-- has put out by then, and nothing else, is left.
pub record Works (old : Outside) (asked : Request) (status : Status) (new : Outside) : Type 0 where
  pub course : Course
  pub met : Met old asked course new
  pub status_is : status ≡ (outcome (work asked course)).status
  pub leaves : Leaves old (outcome (work asked course)).output new

-- The work comes to a status and leaves the outside, but for the line that is written then.
pub record Replies (old : Outside) (asked : Request) (status : Status) (new : Outside) : Type 0 where
  pub found : Status
  pub err : Stream
  pub works : Works old asked found (record new { err = err })
  pub never_falls : old.err.faults ≤ err.faults
  pub says : Says found err status new.err
