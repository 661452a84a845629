-- Which status has to come of `annotate`, over a folder that tells its contents.
use Rattle.std.specs.Prelude.{◌≡◌, ◌≢◌, ℕ, List, [], ◌∷◌, map, IfOk, Option, Some, None, Result}
use Rattle.outside.specs.Files.{Files, Rose}
use Rattle.outside.specs.Outside.{Leaves, Outside, nothing}
use Rattle.cg_read.specs.Profiles.{Contents}
use Rattle.cycles.specs.Limits.{AreAllWithin, IsFirstOver}
use Rattle.profile_files.specs.Joined.{no_rows}
use Rattle.profile_files.specs.Loads.{faultless_loads}
use Rattle.profile_files.specs.Reading.{Answers}
use Rattle.profile_files.specs.WantedFile.{with_limit}
use Rattle.profile_files.specs.declared.fault.ReadFault.{ReadFault}
use Rattle.annotate.specs.Report.{IsReportOf, SourceTexts}
use Rattle.command_status.specs.declared.status.Status.{Status}
use Rattle.command_status.specs.declared.status.Status.TheVariants.{Done, SumLimit}
use Rattle.command_words.specs.Request.{View}
use Rattle.command_steps.specs.Annotate.{AreTextsOf, IsSortPlace, profile_limit, report_options, read_fault}
use Rattle.command_steps.specs.Annotate.{sort_fault}
use Rattle.command_steps.specs.Gates.{check, first_stop}

-- the gate that stops gives the status, and else this holds
abbrev pub Decides : Option Status → Type 0 → Status → Type 0
Decides (Some stop) otherwise status = status ≡ stop
Decides None otherwise status = otherwise

-- no put failed, and no write
pub record IsCalm (old new : Outside) : Type 0 where
  pub puts : Rose old.put_faults new.put_faults → ⊥
  pub out : Rose old.out.faults new.out.faults → ⊥
  pub err : Rose old.err.faults new.err.faults → ⊥

-- The report on a profile was written whole, with the source texts that were loaded for it.
pub record ReportsWhole (old : Outside) (view : View) (p : Contents) (status : Status) (new : Outside) : Type 0 where
  pub status_is : status ≡ Done
  pub sort : ℕ
  pub sorted : IsSortPlace view.sort p sort
  pub texts : SourceTexts
  pub sources : AreTextsOf old view p new texts
  pub report : List ℕ
  pub is : IsReportOf p (report_options view sort) texts report
  pub leaves : Leaves old (record nothing { out = report }) new

-- The first sum that is too large stops the report, and else it is written, where no write failed.
pub record IsReportDue (old : Outside) (view : View) (p : Contents) (status : Status) (new : Outside) : Type 0 where
  pub too_large : (position : ℕ) → IsFirstOver p position → status ≡ SumLimit position
  pub within : AreAllWithin p → IsCalm old new → ReportsWhole old view p status new

-- What the files of these names read as, from what the folder holds: they can't be read and joined, or the event to
-- sort by isn't theirs, or the report on them is due.
pub record IsCertainReport (old : Outside) (files : Files) (names : List (List ℕ)) (view : View) (status : Status)
    (new : Outside) : Type 0 where
  pub found : Result Contents ReadFault
  pub answers : Answers (no_rows []) (map (with_limit profile_limit) names)
      (faultless_loads files (map (with_limit profile_limit) names)) found
  pub decides : Decides (first_stop (check (read_fault found) ∷ check (sort_fault view.sort found) ∷ []))
      (IfOk found (λ p. IsReportDue old view p status new)) status
