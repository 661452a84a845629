-- A job's run, on which all that is said of reports, parts and rows stands.
use Rattle.std.specs.Prelude.{◌≡◌, ◌⊎◌, ℕ, false, List, Some, Ok, option_map}
use Rattle.outside.specs.Files.{Files}
use Rattle.outside.specs.Outside.{Named, Outside, with_files}
use Rattle.elf_read.specs.Image.{image_of}
use Rattle.sym_map.specs.SymbolMap.{SymbolMap}
use Rattle.profile_files.specs.Loads.{IsLoad}
use Rattle.profile_run.specs.Program.{Program}
use Rattle.profile_run.specs.Trace.{IsTraceOf, Stop, RunStep}
use Rattle.command_status.specs.Ends.{end_status}
use Rattle.command_status.specs.Numbers.{is_short}
use Rattle.command_status.specs.declared.status.Status.{Status}
use Rattle.command_words.specs.Request.{Request, Job, Positions, Report, Run, View, Watching, watching_at}
use Rattle.outside.specs.Limits.{text_limit, file_limit}
use Rattle.command_steps.specs.Loading.{IsLoadIf}
use Rattle.profile_cli.specs.Program.{IsMapOf, guest_of}
use Rattle.profile_cli.specs.Watching.{files_asked}
use Rattle.profile_cli.specs.Words.{program_of}

-- The guest of a job, from these bytes of its program and of its input, runs this trace up to this stop.
pub record RunOf (job : Job) (program input : List ℕ) : Type 0 where
  pub syms : SymbolMap
  pub symbols : IsMapOf (image_of program) syms
  pub guest : Program
  pub guest_is : guest ≡ guest_of job (image_of program) input syms
  pub trace : List RunStep
  pub stop : Stop
  pub is : IsTraceOf guest trace stop

-- which files a run puts, in their order
abbrev pub RunFiles : Type 0
RunFiles = Program → List RunStep → Stop → List Named

abbrev pub run_files : {job : Job} {program input : List ℕ} → RunFiles → RunOf job program input → List Named
run_files files run = files run.guest run.trace run.stop

-- The job's program was loaded, and its input; its guest ran to its end, and the status is that of the end. The folder
-- holds these files of the run besides, and nothing else has changed.
pub record HasRun (old : Outside) (job : Job) (put : RunFiles) (status : Status) (new : Outside) : Type 0 where
  pub program : List ℕ
  pub loaded : IsLoad old.files (program_of job.args) file_limit old.load_faults new.load_faults (Ok program)
  pub input : List ℕ
  pub fed : IsLoadIf old.files job.input text_limit old.load_faults new.load_faults (Ok input)
  pub run : RunOf job program input
  pub status_is : status ≡ end_status run.stop.end
  pub files : new.files ≡ option_map (with_files (run_files put run)) old.files

-- ---- what is so of every run

-- `report` over a folder that tells its contents
pub record AsksToReport (old : Outside) (asked : Request) (job : Job) (watching : Watching) : Type 0 where
  pub positions : Positions
  pub view : View
  pub asked_is : asked ≡ Report job positions view
  pub watching_is : watching ≡ watching_at positions
  pub contents : Files
  pub contents_are : old.files ≡ Some contents

-- the words ask for `run`, or for that
abbrev pub AsksToRun : Outside → Request → Job → Watching → Type 0
AsksToRun old asked job watching = (asked ≡ Run job watching) ⊎ AsksToReport old asked job watching

pub record RanSo (IsSo : Program → List RunStep → Type 0) (old : Outside) (job : Job) (watching : Watching)
    (status : Status) (new : Outside) : Type 0 where
  pub run : HasRun old job (files_asked watching) status new
  pub so : IsSo run.run.guest run.run.trace

-- This is so of the job's run, unless the work stopped short.
abbrev pub OfRuns : (Job → Watching → Program → List RunStep → Type 0) → Outside → Request → Status → Outside → Type 0
OfRuns IsSo old asked status new =
    (job : Job) (watching : Watching) → AsksToRun old asked job watching → is_short status ≡ false
    → RanSo (IsSo job watching) old job watching status new
