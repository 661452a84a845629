-- What a command does, call by call. Its work is in stages: each leaves a log of what it did, and comes to something, or
-- to the status with which it stops the work.
use Rattle.std.specs.Prelude.{◌≡◌, ◌⊎◌, ℕ, ◌++◌, IfOk, List, [], ◌∷◌, Some, Result, Ok, Err}
use Rattle.outside.specs.Outside.{Log}
use Rattle.outside.specs.Journal.{Put}
use Rattle.outside.specs.declared.folder.PutError.{PutError}
use Rattle.elf_read.specs.Image.{image_of}
use Rattle.sym_map.specs.SymbolMap.{IsSound, SymbolMap}
use Rattle.profile_run.specs.Program.{Program}
use Rattle.profile_run.specs.Parts.{ArePartsOf, Writing}
use Rattle.profile_run.specs.Runs.{Does, RunEnd}
use Rattle.profile_run.specs.Trace.{IsTraceOf, Stop, RunStep, steps_of}
use Rattle.profile_run.specs.declared.run_fault.RunFault.{RunFault}
use Rattle.command_status.specs.declared.status.Status.{Status}
use Rattle.command_words.specs.Request.{Addresses, Contexts, Job, Nothing, Waits, Watching}
use Rattle.command_steps.specs.Loading.{HasStatus}
use Rattle.outside.specs.Limits.{file_limit}
use Rattle.profile_cli.specs.Order.{elf_fault, fault_status}
use Rattle.profile_cli.specs.Program.{IsMapOf, guest_of}
use Rattle.profile_cli.specs.Watching.{put_fault, waits_file, waits_name}
use Rattle.profile_cli.specs.Words.{program_of}
use Rattle.command_steps.specs.Stages.{Then, Quiet, Gives, Wants, Passes, asking, Loads, LoadsIf}

-- what a run comes to: a guest and how it ended, or the status of what stopped it; that may take memory to tell
abbrev pub ComesTo : List ℕ → Program → Result RunEnd RunFault → Result (Program × RunEnd) Status → Type 0
ComesTo base guest (Ok run) result = result ≡ Ok (guest, run)
ComesTo base guest (Err fault) (Ok ran) = ⊥
ComesTo base guest (Err fault) (Err status) = HasStatus (Some (fault_status base fault)) status

-- the end of its trace, and the parts that were put for that
pub record IsEndOf (parts : Writing) (guest : Program) (run : RunEnd) : Type 0 where
  pub trace : List RunStep
  pub stop : Stop
  pub is : IsTraceOf guest trace stop
  pub end : run.end ≡ stop.end
  pub parts_are : ArePartsOf guest.options.base (parts.whole (steps_of trace) stop.tried) run.parts

-- The guest of a job ran, from the bytes that were loaded of its program and its input.
pub record GuestRan (parts : Program → Writing) (job : Job) (program input : List ℕ) (log : Log)
    (result : Result (Program × RunEnd) Status) : Type 0 where
  pub syms : SymbolMap
  pub symbols : IsMapOf (image_of program) syms
  pub sound : IsSound syms
  pub stop : Result RunEnd RunFault
  pub ended : IfOk stop (IsEndOf (parts (guest_of job (image_of program) input syms))
      (guest_of job (image_of program) input syms))
  pub does : Does (parts (guest_of job (image_of program) input syms)) (guest_of job (image_of program) input syms) stop
      log
  pub comes : ComesTo job.base (guest_of job (image_of program) input syms) stop result

-- it runs and puts its parts, or memory is wanting before that
abbrev pub Runs : (Program → Writing) → Job → List ℕ → List ℕ → Log → Result (Program × RunEnd) Status → Type 0
Runs parts job program input log result = Wants log result ⊎ GuestRan parts job program input log result

-- PROG is loaded and read, then its input is loaded where one is named, and then the guest runs.
abbrev pub LoadsAndRuns : (Program → Writing) → Job → Log → Result (Program × RunEnd) Status → Type 0
LoadsAndRuns parts job =
    Then (Loads (program_of job.args) file_limit) (λ program.
    Then (Quiet (Passes (elf_fault program))) (λ accepted.
    Then (LoadsIf job.input) (λ input.
    Runs parts job program input)))

-- the report on waiting is put
pub record HasPut (guest : Program) (log : Log) (result : Result (Unit {0}) Status) : Type 0 where
  pub text : List ℕ
  pub text_is : (trace : List RunStep) (stop : Stop) → IsTraceOf guest trace stop → text ≡ (waits_file guest trace).1
  pub answer : Result (Unit {0}) PutError
  pub log_is : log ≡ asking (Put (waits_name guest.options.base) text answer ∷ [])
  pub passes : Passes (put_fault (waits_name guest.options.base) answer) result

-- where what waiting costs is asked for
abbrev pub PutsWaits : Watching → Program → Log → Result (Unit {0}) Status → Type 0
PutsWaits Nothing guest = Gives tt
PutsWaits Waits guest = λ log result. Wants log result ⊎ HasPut guest log result
PutsWaits (Contexts callers) guest = Gives tt
PutsWaits Addresses guest = Gives tt
