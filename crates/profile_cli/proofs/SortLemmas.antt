-- The statuses with which the stages of a command stop the work are of a sort, where those of its calls and gates are.
use Rattle.std.proofs.Common.{◌≡◌, ℕ, Bool, true, false, List, Option, Some, None, Result, Ok, Err, inl, inr, sym, ap}
use Rattle.std.proofs.Common.{[], ◌∷◌, subst, option_map}
use Rattle.byte_text.specs.Memory.{memory}
use Rattle.outside.specs.Load.{Load}
use Rattle.outside.specs.Outside.{Log, done_then}
use Rattle.outside.specs.Journal.{Loaded, Wrote}
use Rattle.outside.specs.declared.sink.WriteError.{WriteError}
use Rattle.elf_read.specs.Image.{image_of}
use Rattle.elf_read.specs.Refusal.{refusal}
use Rattle.elf_read.specs.declared.error.ElfError.{ElfError}
use Rattle.cg_read.specs.Profiles.{Contents, has_text}
use Rattle.cycles.specs.Limits.{IsFirstOver}
use Rattle.report_rows.specs.declared.options.ReportOptions.{ReportOptions}
use Rattle.annotate.specs.Report.{SourceTexts}
use Rattle.annotate.specs.declared.error.ReportError.{ReportError}
use Rattle.annotate.specs.declared.error.ReportError.TheVariants as report
use Rattle.profile_run.specs.Program.{Program}
use Rattle.profile_run.specs.Parts.{Writing}
use Rattle.profile_run.specs.Runs.{Does, RunEnd}
use Rattle.profile_run.specs.declared.run_fault.RunFault.{RunFault}
use Rattle.command_status.specs.declared.status.Status.{Status}
use Rattle.command_status.specs.declared.status.Status.TheVariants.{Done, OutOfMemory, SumLimit, Usage}
use Rattle.command_words.specs.Request.{Job, View}
use Rattle.command_steps.specs.Annotate.{IsMade, MakesReport, SettlesOptions, report_fault, sort_fault, write_fault}
use Rattle.outside.specs.Limits.{text_limit, file_limit}
use Rattle.command_steps.specs.Loading.{HasStatus, load_fault}
use Rattle.profile_cli.specs.Order.{elf_fault, elf_status, fault_status}
use Rattle.profile_cli.specs.Program.{guest_of}
use Rattle.profile_cli.specs.Stages as stage
use Rattle.command_steps.specs.Stages.{AreWritesOrWants, Gives, Goes, Loads, LoadsIf, LoadsTexts, Passes, Quiet}
use Rattle.command_steps.specs.Stages.{Reports, Stops, Then, WritesText, asking, writing}
use Rattle.profile_cli.specs.Stages.{LoadsAndRuns, ComesTo}
use Rattle.profile_cli.specs.Words.{program_of}
use Rattle.profile_cli.proofs.ShortLemmas.{StopsSo, none_stops, some_stops, unless_stops}

-- the status of a refusal
abbrev status_in : {X : Type 0} → Result X Status → Status
status_in (Ok x) = Done
status_in (Err s) = s

pub in_err : {X : Type 0} {s t : Status} → ◌≡◌ {A = Result X Status} (Err s) (Err t) → s ≡ t
in_err is = ap status_in is

-- Statuses with the log of what was done up to them: of a sort are those of the calls, and of the gates that need none.
pub record IsSort (Such : Status → Log → Type 0) : Type 0 where
  pub later : (s : Status) (before log : Log) → Such s log → Such s (done_then before log)
  pub wants : (log : Log) → Such (OutOfMemory memory) log
  pub usage : (log : Log) → Such Usage log
  pub elf : (error : ElfError) (log : Log) → Such (elf_status error) log
  pub load : (name : List ℕ) (limit : ℕ) (found : Load)
      → StopsSo (λ s. Such s (asking (Loaded name limit found ∷ []))) (load_fault name found)
  pub run : (parts : Writing) (guest : Program) (refused : RunFault) (log : Log) → Does parts guest (Err refused) log
      → Such (fault_status guest.options.base refused) log
  pub write : (bytes : List ℕ) (writes : List Wrote) (answer : Result (Unit {0}) WriteError)
      → AreWritesOrWants bytes writes answer → StopsSo (λ s. Such s (writing writes)) (write_fault answer)

-- a stage stops with such
abbrev pub AllSuch : (Status → Log → Type 0) → {A : Type 0} → (Log → Result A Status → Type 0) → Type 0
AllSuch Such Stage = (log : Log) (s : Status) → Stage log (Err s) → Such s log

module _ (Such : Status → Log → Type 0) (sort : IsSort Such) where
  pub wanting : (s : Status) (log : Log) → s ≡ OutOfMemory memory → Such s log
  wanting s log is = subst (λ t. Such t log) (sym is) (sort.wants log)

  pub has_such : (stops : Option Status) (log : Log) → StopsSo (λ s. Such s log) stops → (s : Status)
      → HasStatus stops s → Such s log
  has_such stops log such s (inl wants) = wanting s log wants
  has_such stops log such s (inr is) = such s is

  pub then_such : {A B : Type 0} (First : Log → Result A Status → Type 0)
      (Next : A → Log → Result B Status → Type 0) → AllSuch Such First → ((came : A) → AllSuch Such (Next came))
      → AllSuch Such (Then First Next)
  then_such First Next first next log s (Stops t is stops) =
      subst (λ r. Such r log) (sym (in_err is)) (first log t stops)
  then_such First Next first next log s (Goes came before later is ran goes) =
      subst (Such s) (sym is) (sort.later s before later (next came later s goes))

  pub gives_such : {A : Type 0} (x : A) → AllSuch Such (Gives x)
  gives_such x log s given = absurd (cc given.comes)

  -- ---- the run

  loads_such : (name : List ℕ) (limit : ℕ) → AllSuch Such (Loads name limit)
  loads_such name limit log s (found, is, has) =
      subst (Such s) (sym is) (has_such (load_fault name found) _ (sort.load name limit found) s has)

  input_such : (name : Option (List ℕ)) → AllSuch Such (LoadsIf name)
  input_such None = gives_such []
  input_such (Some name) = loads_such name text_limit

  elf_such : (bytes : List ℕ) → AllSuch Such (Quiet (Passes (elf_fault bytes)))
  elf_such bytes log s passes = has_such (elf_fault bytes) log (by (refusal bytes)) s passes.comes
    where
      by : (refused : Option ElfError) → StopsSo (λ s. Such s log) (option_map elf_status refused)
      by None = none_stops (λ s. Such s log)
      by (Some error) = some_stops (λ s. Such s log) (elf_status error) (sort.elf error log)

  pub run_such : (parts : Program → Writing) (job : Job) (program input : List ℕ)
      → AllSuch Such (stage.Runs parts job program input)
  run_such parts job program input log s (inl wants) = wanting s log (in_err wants.comes)
  run_such parts job program input log s (inr has) = by has.stop has.does has.comes
    where
      guest : Program
      guest = guest_of job (image_of program) input has.syms

      by : (stop : Result RunEnd RunFault) → Does (parts guest) guest stop log → ComesTo job.base guest stop (Err s)
          → Such s log
      by (Ok run) does is = absurd (cc is)
      by (Err refused) does has =
          has_such (Some (fault_status job.base refused)) log
          (some_stops (λ t. Such t log) (fault_status job.base refused) (sort.run (parts guest) guest refused log does))
          s has

  pub job_such : (parts : Program → Writing) (job : Job) → AllSuch Such (LoadsAndRuns parts job)
  job_such parts job =
      then_such _ _ (loads_such (program_of job.args) file_limit) (λ program.
      then_such _ _ (elf_such program) (λ accepted.
      then_such _ _ (input_such job.input) (λ input. run_such parts job program input)))

  -- ---- a report

  pub writes_such : (bytes : List ℕ) → AllSuch Such (WritesText bytes)
  writes_such bytes log s text =
      subst (Such s) (sym text.log_is) (sort.write bytes text.writes text.answer text.are s text.gate)

  texts_such : (asked : Bool) (p : Contents) → AllSuch Such (LoadsTexts asked p)
  texts_such true p log s (wants, loads) = wanting s log wants
  texts_such false p log s given = gives_such {A = SourceTexts} [] log s given

  module _ (view : View) (p : Contents)
      (over : (position : ℕ) (log : Log) → IsFirstOver p position → Such (SumLimit position) log) where
    settled_such : AllSuch Such (Quiet (SettlesOptions view p))
    settled_such log s settles = by view.sort s settles.comes
      where
        by : (event : Option (List ℕ)) → StopsSo (λ s. Such s log) (sort_fault event (Ok p))
        by None = none_stops (λ s. Such s log)
        by (Some event) = unless_stops (λ s. Such s log) (has_text p.events event) Usage (sort.usage log)

    made_such : (options : ReportOptions) (texts : SourceTexts) → AllSuch Such (Quiet (MakesReport p options texts))
    made_such options texts log s made = by made.comes.0 made.comes.1 s made.comes.2
      where
        by : (e : ReportError) → IsMade p options texts (Err e) → StopsSo (λ s. Such s log) (report_fault (Err e))
        by (report.SumLimit position) is = some_stops (λ s. Such s log) (SumLimit position) (over position log is)
        by (report.OutOfMemory _) is = some_stops (λ s. Such s log) (OutOfMemory memory) (sort.wants log)

    pub report_such : AllSuch Such (Reports view p)
    report_such =
        then_such _ _ settled_such (λ options.
        then_such _ _ (texts_such view.auto p) (λ texts. then_such _ _ (made_such options texts) writes_such))
