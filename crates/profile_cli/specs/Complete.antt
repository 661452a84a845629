-- Which status has to come, over a folder that tells its contents.
use Rattle.std.specs.Prelude.{◌≡◌, ◌≢◌, ℕ, List, [], ◌∷◌, Option, Some, None, Ok}
use Rattle.outside.specs.Files.{Files, Rose, file}
use Rattle.outside.specs.Outside.{Leaves, Outside, Output, and_then, nothing}
use Rattle.profile_files.specs.Loads.{faultless_load}
use Rattle.outside.specs.Load.{Load, bytes_of}
use Rattle.command_status.specs.Ends.{end_status}
use Rattle.command_status.specs.Lines.{message_of}
use Rattle.command_status.specs.declared.status.Status.{Status}
use Rattle.command_status.specs.declared.status.Status.TheVariants.{Usage, OutOfMemory}
use Rattle.command_words.specs.Request as words
use Rattle.command_words.specs.Request.{Request, Job, Watching}
use Rattle.profile_cli.specs.Course.{Course, no_course}
use Rattle.profile_cli.specs.ExactDemo.{IsExactDemo}
use Rattle.command_steps.specs.Gates.{first_stop}
use Rattle.profile_cli.specs.HasRun.{RunOf}
use Rattle.profile_cli.specs.Headline.{IsExactReport}
use Rattle.outside.specs.Limits.{text_limit, file_limit}
use Rattle.profile_cli.specs.Order.{loading}
use Rattle.profile_cli.specs.Watching.{files_at, output_asked}
use Rattle.profile_cli.specs.Words.{program_of}
use Rattle.byte_text.specs.Memory.{memory}
use Rattle.command_steps.specs.Certain.{Decides, IsCalm, IsCertainReport}

-- what a load gives of these contents, where a file is named
abbrev pub faultless_load_if : Files → Option (List ℕ) → ℕ → Load
faultless_load_if files None limit = Ok []
faultless_load_if files (Some name) limit = faultless_load (file files name) limit

-- what `run` meets over these files, as far as it loads
abbrev pub faultless_course : Files → Job → Course
faultless_course files job = record no_course {
  program = faultless_load (file files (program_of job.args)) file_limit;
  input = faultless_load_if files job.input text_limit;
}

-- a line on how the command ended
abbrev pub line : Status → Output
line status = record nothing { err = message_of status }

-- The guest ran to its end, and everything stands: its files, its bytes, and the line behind them.
pub record Ends (old : Outside) (job : Job) (watching : Watching) (met : Course) (status : Status)
    (new : Outside) : Type 0 where
  pub run : RunOf job (bytes_of met.program) (bytes_of met.input)
  pub status_is : status ≡ end_status run.stop.end
  pub leaves : Leaves old (and_then (output_asked watching run.guest run.trace run.stop) (line status)) new

-- The first gate of the loading that stops gives the status, and else the guest's end does, where no put and no write
-- failed; and then the report on it is exact. A demonstration has no such gate, and is exact then.
abbrev pub IsCertain : Outside → Files → Request → Status → Outside → Type 0
IsCertain old files (words.Run job watching) status new =
    Decides (first_stop (loading job (faultless_course files job)))
    (IsCalm old new → Ends old job watching (faultless_course files job) status new) status
IsCertain old files (words.Report job positions view) status new =
    Decides (first_stop (loading job (faultless_course files job)))
    (IsCalm old new → IsExactReport old job (files_at positions) view status new) status
IsCertain old files (words.Annotate names view) status new = IsCertainReport old files names view status new
IsCertain old files (words.Demo size) status new =
    IsCalm old new → IsExactDemo old size status (message_of status) new
IsCertain old files words.Usage status new = status ≡ Usage

-- Where no load failed in the call and memory was not wanting, the status is certain.
abbrev pub IsComplete : Outside → Request → Status → Outside → Type 0
IsComplete old asked status new =
    (files : Files) → old.files ≡ Some files → (Rose old.load_faults new.load_faults → ⊥) → status ≢ OutOfMemory memory
    → IsCertain old files asked status new
