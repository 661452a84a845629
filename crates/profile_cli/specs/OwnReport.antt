-- The work of `report`: a program runs, its own parts are read again and joined, and reported.
use Rattle.std.specs.Prelude.{IfOk, IfSome, List, [], ◌∷◌, Option, Result, Ok, Err}
use Rattle.event_costs.specs.Costs.{event_names, events_shown}
use Rattle.outside.specs.Outside.{Outside}
use Rattle.cg_read.specs.Profiles.{Contents, IsProfile}
use Rattle.profile_files.specs.Joined.{no_rows}
use Rattle.profile_files.specs.Reading.{IsReading}
use Rattle.profile_files.specs.WantedFile.{WantedFile}
use Rattle.profile_files.specs.declared.fault.ReadFault.{ReadFault}
use Rattle.profile_run.specs.Runs.{RunEnd}
use Rattle.profile_run.specs.declared.run_fault.RunFault.{RunFault}
use Rattle.report_laws.specs.Exact.{parts_wanted}
use Rattle.command_words.specs.Request.{Job, View}
use Rattle.command_steps.specs.Annotate.{IsShown, read_fault, reporting, ReportOutcome}
use Rattle.profile_cli.specs.Course.{Course, RunOutcome}
use Rattle.command_steps.specs.Gates.{Gate, check}

-- The parts are read and joined, and the report is made and written. The event to sort by is one that the run shows, so
-- nothing is to be looked up.
abbrev pub reporting_own : Result Contents ReadFault → Option ReportOutcome → List Gate
reporting_own found shown = check (read_fault found) ∷ reporting shown

-- the parts that a run lists, each with its length as the limit; none, where it didn't come to its end
abbrev pub parts_to_read : Job → Result RunEnd RunFault → List WantedFile
parts_to_read job (Ok ended) = parts_wanted job.base ended.parts
parts_to_read job (Err fault) = []

-- the outside once the parts were put
abbrev pub once_put : Outside → Outside → Outside
once_put old new = record old { files = new.files }

-- The parts of a run may read as the profile that was found, and the report on it may go so.
pub record IsReported (old : Outside) (job : Job) (view : View) (met : Course) (new : Outside)
    (ran : RunOutcome) : Type 0 where
  -- from what the folder holds once they were put
  pub reading : IsReading new.files old.load_faults new.load_faults (no_rows (events_shown job.branches event_names))
      (parts_to_read job ran.stop) met.profile
  -- as every profile is
  pub profile : IfOk met.profile IsProfile
  pub report : IfSome met.report (λ s. IfOk met.profile (λ p. IsShown (once_put old new) view p new s))
