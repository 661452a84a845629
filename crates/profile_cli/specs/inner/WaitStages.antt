-- What the stages of a run answer that counts what waiting costs.
use Rattle.std.specs.Prelude.{◌≡◌, ◌⊎◌, ℕ, IfSome, List, [], ◌∷◌, codes, Option, Some, None, Result, Ok, Err}
use Rattle.std.specs.List.{join_by}
use Rattle.outside.specs.Files.{Files}
use Rattle.outside.specs.Outside.{Holds, Log}
use Rattle.outside.specs.Journal.{Put}
use Rattle.outside.specs.declared.folder.PutError.{PutError}
use Rattle.part_dump.specs.Steps.{Step}
use Rattle.wait_report.specs.Keeping.{WaitBooks, nothing}
use Rattle.wait_report.specs.Rows.{wait_rows}
use Rattle.wait_report.specs.Standing.{HaveSums, StandsFor}
use Rattle.wait_report.specs.Texts.{waits_text}
use Rattle.run_watches.specs.declared.run_watch.RunWatch.{RunWatch}
use Rattle.run_watches.specs.declared.run_watch.RunWatch.TheVariants as watch
use Rattle.command_status.specs.declared.status.Status.{Status}
use Rattle.command_words.specs.Request.{Job}
use Rattle.profile_cli.specs.Course.{WaitsOutcome}
use Rattle.command_steps.specs.Stages.{Passes, Wants, asking}
use Rattle.profile_cli.specs.Watching.{IsPut, put_fault, waits_gate, waits_name}

-- a watch of waits that was told of nothing yet
abbrev pub unwaited : RunWatch
unwaited = watch.Waits (record { books = nothing; room = 0 })

-- What a watch has kept stands for the steps of a run, whose rows have sums of 64 bits.
pub record CanReport (kept : WaitBooks) : Type 0 where
  pub steps : List Step
  pub stands : StandsFor kept steps
  pub sums : HaveSums steps

-- the text of the report on the steps for which this stands
abbrev pub IsTextOf : WaitBooks → Job → List ℕ → Type 0
IsTextOf kept job text =
    (steps : List Step) → StandsFor kept steps
    → text ≡ waits_text (join_by (λ text. text) (codes " ") job.args) job.branches (wait_rows steps)

-- the status with which the work stops
abbrev pub stop_status : Result (Unit {0}) Status → Option Status
stop_status (Ok _) = None
stop_status (Err status) = Some status

-- The report on waiting is made and put, or its gate stops the work.
pub record PutsWaits (kept : WaitBooks) (job : Job) (old : Option Files) (before now : ℕ) (result : Result (Unit {0}) Status)
    (new : Option Files) : Type 0 where
  pub waits : Option WaitsOutcome
  pub text : IfSome waits (λ w. IsTextOf kept job w.text)
  pub put : IfSome waits (λ w. IsPut before now w.put)
  pub stops : (waits_gate job.base waits).stops ≡ stop_status result
  pub holds : Holds (waits_gate job.base waits).output.files (waits_gate job.base waits).output.refused old new

-- what is put so
pub record HasPutText (kept : WaitBooks) (job : Job) (log : Log) (result : Result (Unit {0}) Status) : Type 0 where
  pub text : List ℕ
  pub text_is : IsTextOf kept job text
  pub answer : Result (Unit {0}) PutError
  pub log_is : log ≡ asking (Put (waits_name job.base) text answer ∷ [])
  pub passes : Passes (put_fault (waits_name job.base) answer) result

abbrev pub PutsText : WaitBooks → Job → Log → Result (Unit {0}) Status → Type 0
PutsText kept job log result = Wants log result ⊎ HasPutText kept job log result
