-- The parts that a report put itself are never too long for it, never refused for lines or events, and no sum of theirs
-- is too large; one that can't be loaded may still stop it. The gates are walked through once more, with the statuses
-- that never come of them.
use Rattle.std.proofs.Common.{◌≡◌, ◌⊎◌, ℕ, Bool, true, false, if◌then◌else◌, List, [], ◌∷◌, Option, None, Some}
use Rattle.std.proofs.Common.{option_map, Result, Ok, Err, refl, sym, subst, inl, inr}
use Rattle.outside.specs.Files.{Files}
use Rattle.outside.specs.Outside.{Outside, nothing}
use Rattle.outside.specs.declared.folder.LoadError.TheVariants as load
use Rattle.event_costs.specs.declared.outcome.End.{End}
use Rattle.event_costs.specs.declared.outcome.End.TheVariants as end
use Rattle.outside.specs.declared.sink.WriteError.{WriteError}
use Rattle.outside.specs.declared.sink.WriteError.TheVariants as write
use Rattle.elf_read.specs.Refusal.{refusal}
use Rattle.elf_read.specs.declared.error.ElfError.{ElfError}
use Rattle.elf_read.specs.declared.error.ElfError.TheVariants as elf
use Rattle.profile_files.specs.Loads.{IsLoad}
use Rattle.outside.specs.Load.{Load, bytes_of}
use Rattle.profile_run.specs.declared.run_fault.RunFault.{RunFault}
use Rattle.profile_run.specs.declared.run_fault.RunFault.TheVariants as fault
use Rattle.command_status.specs.Ends.{end_status}
use Rattle.command_status.specs.Numbers.{is_finished}
use Rattle.command_status.specs.declared.status.Status.{Status}
use Rattle.command_status.specs.declared.status.Status.TheVariants.{OutFault, OutOfMemory}
use Rattle.command_words.specs.Request.{Request, Demo, Job, Positions, Report, View}
use Rattle.command_words.specs.Within.{IsJob, IsWithin}
use Rattle.profile_cli.specs.Course.{Course}
use Rattle.outside.specs.Limits.{text_limit, file_limit}
use Rattle.command_steps.specs.Loading.{IsLoadIf, input_fault, load_fault}
use Rattle.profile_cli.specs.Demo.{demo_job}
use Rattle.profile_cli.specs.ExactDemo.{IsExactDemo, demo_status}
use Rattle.command_steps.specs.Gates.{check, gates_outcome}
use Rattle.profile_cli.specs.Order.{behind_demo, elf_status, fault_status, run_gate}
use Rattle.profile_cli.specs.OwnParts.{IsNotOfParts, IsOfJob, IsReadable}
use Rattle.profile_cli.specs.OwnReport.{reporting_own}
use Rattle.profile_cli.specs.Reply.{Replies}
use Rattle.command_steps.specs.Saying.{after_line}
use Rattle.profile_cli.specs.Words.{program_of}
use Rattle.profile_cli.proofs.PastDemoLemmas.{demo_on}
use Rattle.profile_cli.proofs.PastRunLemmas.{At, IsWorked, run_on}
use Rattle.profile_cli.proofs.ShortLemmas.{StopsSo, none_stops, some_stops}
use Rattle.profile_cli.proofs.WalkLemmas.{LoadingStops, loading_on}
use Rattle.byte_text.specs.Memory.{memory}

-- such is a status where a file that is too long is given so
module _ (IsGiven : List ℕ → ℕ → Type 0) where
  abbrev Stops : Status → Type 0
  Stops = IsNotOfParts IsGiven

  elf_is : (refused : ElfError) → Stops (elf_status refused)
  elf_is (elf.OutOfMemory _) = tt
  elf_is _ = tt

  elf_stops : (refused : Option ElfError) → StopsSo Stops (option_map elf_status refused)
  elf_stops None = none_stops Stops
  elf_stops (Some refused) = some_stops Stops (elf_status refused) (elf_is refused)

  fault_is : (base : List ℕ) (refused : RunFault) → Stops (fault_status base refused)
  fault_is base fault.GuestFull = tt
  fault_is base _ = tt

  end_is : (end : End) → Stops (end_status end)
  end_is (end.Exited code) = tt
  end_is _ = tt

  line_is : (found : Status) (answer : Result (Unit {0}) WriteError) → Stops found → Stops (after_line found answer)
  line_is found (Ok done) such = such
  line_is found (Err write.Failed) such = by (is_finished found)
    where
      by : (b : Bool) → Stops (if b then OutFault else found)
      by true = tt
      by false = such
  line_is found (Err (write.OutOfMemory _)) such = tt

-- ---- `report`

module _ (old new : Outside) (job : Job) where
  abbrev StopsJob : Status → Type 0
  StopsJob = Stops (IsOfJob old job new)

  program_stops : (found : Load)
      → IsLoad old.files (program_of job.args) file_limit old.load_faults new.load_faults found
      → StopsSo StopsJob (load_fault (program_of job.args) found)
  program_stops (Ok bytes) is = none_stops StopsJob
  program_stops (Err load.Failed) is = some_stops StopsJob _ tt
  program_stops (Err (load.TooLong len)) is = some_stops StopsJob _ (inl (refl, is))
  program_stops (Err (load.OutOfMemory _)) is = some_stops StopsJob _ tt

  input_stops : (name : Option (List ℕ)) → job.input ≡ name → (found : Load)
      → IsLoadIf old.files name text_limit old.load_faults new.load_faults found
      → StopsSo StopsJob (input_fault name found)
  input_stops None named found is = none_stops StopsJob
  input_stops (Some name) named (Ok bytes) is = none_stops StopsJob
  input_stops (Some name) named (Err load.Failed) is = some_stops StopsJob _ tt
  input_stops (Some name) named (Err (load.TooLong len)) is = some_stops StopsJob _ (inr (named, is))
  input_stops (Some name) named (Err (load.OutOfMemory _)) is = some_stops StopsJob _ tt

  loading_stops : (met : Course)
      → IsLoad old.files (program_of job.args) file_limit old.load_faults new.load_faults met.program
      → IsLoadIf old.files job.input text_limit old.load_faults new.load_faults met.input
      → LoadingStops StopsJob job met
  loading_stops met program input = record {
    wanting = tt;
    program = program_stops met.program program;
    elf = elf_stops (IsOfJob old job new) (refusal (bytes_of met.program));
    input = input_stops job.input refl met.input input;
    arguments = λ len. tt;
    pages = tt;
  }

  readable : (positions : Positions) (view : View) (status : Status) → IsJob job
      → (replies : Replies old (Report job positions view) status new) → (contents : Files)
      → old.files ≡ Some contents → StopsJob status
  readable positions view status within replies contents told =
      subst StopsJob (sym replies.says.status_is)
      (line_is (IsOfJob old job new) replies.found replies.says.answer
      (by (loading_on StopsJob old job replies.found (record new { err = replies.err })
      (IsWorked old job positions view replies.found (record new { err = replies.err }))
      replies.works.course
      (loading_stops replies.works.course replies.works.met.0.program replies.works.met.0.input)
      (reporting_own replies.works.course.profile replies.works.course.report)
      (λ program_none elf_none input_none at.
      run_on old job positions view contents told within replies.found
      (record new { err = replies.err }) StopsJob tt
      (λ name rose. tt) (λ rose. tt) replies.works.course
      program_none elf_none input_none
      (λ syms refused output runs. fault_is (IsOfJob old job new) job.base refused) replies.works.met.0
      replies.works.met.1 at)
      (record { status_is = replies.works.status_is; leaves = replies.works.leaves }))))
    where
      by : StopsJob replies.found ⊎ IsWorked old job positions view replies.found (record new { err = replies.err })
          → StopsJob replies.found
      by (inl such) = such
      by (inr w) = subst StopsJob (sym w.run.status_is) (end_is (IsOfJob old job new) w.run.run.stop.end)

-- ---- `demo`

abbrev NoFile : List ℕ → ℕ → Type 0
NoFile name len = ⊥

demo_is : (end : End) → Stops NoFile (demo_status end)
demo_is (end.Exited code) = tt
demo_is _ = tt

readable_demo : (old new : Outside) (size : ℕ) (status : Status) → (replies : Replies old (Demo size) status new)
    → (contents : Files) → old.files ≡ Some contents → Stops NoFile status
readable_demo old new size status replies contents told =
    subst (Stops NoFile) (sym replies.says.status_is)
    (line_is NoFile replies.found replies.says.answer
    (read replies.works.course.words_read
    (record { status_is = replies.works.status_is; leaves = replies.works.leaves })))
  where
    mid : Outside
    mid = record new { err = replies.err }

    met : Course
    met = replies.works.course

    by : Stops NoFile replies.found ⊎ IsExactDemo old size replies.found [] mid → Stops NoFile replies.found
    by (inl such) = such
    by (inr exact) = subst (Stops NoFile) (sym exact.status_is) (demo_is exact.run.stop.end)

    read : (b : Bool) → At old replies.found mid nothing
        (gates_outcome (check (if b then None else Some (OutOfMemory memory))
        ∷ run_gate demo_job met.run ∷ (behind_demo size met met.run).gates) (behind_demo size met met.run).last)
        → Stops NoFile replies.found
    read false at = subst (Stops NoFile) (sym at.status_is) tt
    read true at =
        by (demo_on old mid size contents told replies.found (Stops NoFile) tt (λ name rose. tt) (λ rose. tt) met
        (λ file syms refused output made runs. fault_is NoFile demo_job.base refused) replies.works.met
        (record { status_is = at.status_is; leaves = at.leaves }))

pub IsReadable-replies : (old new : Outside) (asked : Request) (status : Status) → IsWithin asked
    → Replies old asked status new → IsReadable old asked status new
IsReadable-replies old new asked status within replies = record {
  report = λ files job positions view is told.
      readable old new job positions view status (subst IsWithin is within).0
      (subst (λ a. Replies old a status new) is replies) files told;
  demo = λ files size is told.
      readable_demo old new size status (subst (λ a. Replies old a status new) is replies) files told;
}
