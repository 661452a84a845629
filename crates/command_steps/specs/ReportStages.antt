-- What the stages of a report answer: what they came to, or the status with which their gate stops the work.
use Rattle.std.specs.Prelude.{◌≡◌, ℕ, ◌<◌, Contains, true, IfSome, List, [], ◌∷◌, Option, None, Result, Ok, Err}
use Rattle.outside.specs.Files.{Files}
use Rattle.outside.specs.Outside.{Leaves, Outside, Output}
use Rattle.cg_read.specs.Profiles.{Contents, has_text}
use Rattle.profile_files.specs.Joined.{no_rows}
use Rattle.profile_files.specs.Reading.{IsReading}
use Rattle.profile_files.specs.WantedFile.{WantedFile}
use Rattle.profile_files.specs.declared.fault.ReadFault.{ReadFault}
use Rattle.command_status.specs.declared.status.Status.{Status}
use Rattle.command_status.specs.declared.status.Status.TheVariants.{Done}
use Rattle.command_words.specs.Request.{View}
use Rattle.command_steps.specs.Annotate.{IsShown, read_status, reporting, sort_fault, ReportOutcome}
use Rattle.command_steps.specs.Gates.{check, gates_outcome}

-- a profile has each of these events
abbrev pub HasEvents : List (List ℕ) → Contents → Type 0
HasEvents events p = (event : List ℕ) → Contains events event → has_text p.events event ≡ true

-- files are read and joined to a profile that begins with these events
abbrev pub ReadsFiles : Option Files → ℕ → ℕ → List (List ℕ) → List WantedFile → Result Contents Status → Type 0
ReadsFiles told before now events files (Ok joined) = IsReading told before now (no_rows events) files (Ok joined)
ReadsFiles told before now events files (Err status) =
    (fault : ReadFault) × IsReading told before now (no_rows events) files (Err fault) × (status ≡ read_status fault)

-- the status behind a report that was written, or of the gate at which the work stopped
abbrev pub report_status : Status → Result (Unit {0}) Status → Status
report_status last (Ok _) = last
report_status last (Err status) = status

-- The report on a profile is made and written, or something stops it. Nothing is put.
pub record ShowsReport (old : Outside) (view : View) (p : Contents) (result : Result (Unit {0}) Status)
    (new : Outside) : Type 0 where
  pub report : Option ReportOutcome
  pub output : Output
  pub is : IfSome report (IsShown old view p new)
  pub comes : (last : Status) → gates_outcome (check (sort_fault view.sort (Ok p)) ∷ reporting report) last
      ≡ record { status = report_status last result; output = output }
  pub puts : output.files ≡ []
  pub refused : output.refused ≡ None
  pub same_files : new.files ≡ old.files
  pub leaves : Leaves old output new

abbrev pub reported : Result (Unit {0}) Status → Result Status Status
reported (Ok _) = Ok Done
reported (Err status) = Err status
