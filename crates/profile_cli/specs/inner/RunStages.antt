-- What the stages of a command answer: what they came to, or the status with which their gate stops the work.
use Rattle.std.specs.Prelude.{◌≡◌, ◌⊎◌, ℕ, ◌++◌, IfOk, IfSome, List, ◌∷◌, None, Result, Ok, Err}
use Rattle.std.specs.Result.{IsErrAnd}
use Rattle.outside.specs.Outside.{Leaves, Log, Outside, Output, Tells}
use Rattle.event_costs.specs.declared.outcome.End.{End}
use Rattle.elf_read.specs.Image.{Image, image_of}
use Rattle.sym_map.specs.SymbolMap.{IsSound, SymbolMap}
use Rattle.part_dump.specs.Watching.{Meaning, after_calls}
use Rattle.profile_run.specs.Program.{Fits, Program}
use Rattle.profile_run.specs.Parts.{Writing, calls_of, plain_parts}
use Rattle.profile_run.specs.Runs.{Does, RunEnd, IsWhole, Runs}
use Rattle.profile_run.specs.Trace.{IsTraceOf, Stop, RunStep, steps_of}
use Rattle.profile_run.specs.declared.run_fault.RunFault.{RunFault}
use Rattle.command_status.specs.Ends.{end_status}
use Rattle.command_status.specs.declared.status.Status.{Status}
use Rattle.command_status.specs.declared.status.Status.TheVariants.{OutOfMemory}
use Rattle.run_watches.specs.declared.run_watch.RunWatch.{RunWatch}
use Rattle.run_watches.specs.declared.run_watch.RunWatch.TheVariants as watch
use Rattle.command_words.specs.Request.{Request, Contexts, Job, Watching}
use Rattle.profile_files.specs.Loads.{IsLoad}
use Rattle.outside.specs.Load.{bytes_of}
use Rattle.profile_cli.specs.Calls.{DoesAsked}
use Rattle.command_steps.specs.Stages.{CameTo, Did}
use Rattle.profile_cli.specs.Course.{Course}
use Rattle.outside.specs.Limits.{text_limit, file_limit}
use Rattle.command_steps.specs.Loading.{IsLoadIf, HasStatus}
use Rattle.command_steps.specs.Gates.{Gate, gates_outcome}
use Rattle.profile_cli.specs.Order.{elf_fault, fault_status, loading, reading, run_gate}
use Rattle.profile_cli.specs.Program.{IsMapOf, guest_of}
use Rattle.profile_cli.specs.Reply.{IsRun}
use Rattle.profile_cli.specs.Stages.{ComesTo, LoadsAndRuns}
use Rattle.profile_cli.specs.Watching.{parts_asked}
use Rattle.profile_cli.specs.Words.{program_of}
use Rattle.byte_text.specs.Memory.{memory}

-- a program is read
abbrev pub ReadsProgram : List ℕ → Result Image Status → Type 0
ReadsProgram bytes (Ok image) = (elf_fault bytes ≡ None) × (image ≡ image_of bytes)
ReadsProgram bytes (Err status) = HasStatus (elf_fault bytes) status

-- a run that came to its end, or the status of what stopped it
abbrev pub IsAnswered : List ℕ → Result RunEnd RunFault → Result RunEnd Status → Type 0
IsAnswered base stop (Ok run) = stop ≡ Ok run
IsAnswered base stop (Err status) = (fault : RunFault) × (stop ≡ Err fault) × (status ≡ fault_status base fault)

-- the end of a run, with its guest
abbrev pub with_guest : Program → Result RunEnd Status → Result (Program × RunEnd) Status
with_guest guest (Ok run) = Ok (guest, run)
with_guest guest (Err status) = Err status

-- a guest is run, and puts these parts; memory may be wanting for the status of what stopped it
pub record RunsGuest (parts : Program → Writing) (job : Job) (image : Image) (syms : SymbolMap) (input : List ℕ)
    (old : Outside)
    (result : Result RunEnd Status) (new : Outside) : Type 0 where
  pub stop : Result RunEnd RunFault
  pub answered : IsAnswered job.base stop result
  pub output : Output
  pub runs : Runs (parts (guest_of job image input syms)) (guest_of job image input syms) old stop output new
  pub leaves : Leaves old output new
  pub outcome : Result RunEnd RunFault
  pub same : IfOk outcome (λ run. stop ≡ Ok run)
  pub log : Log
  pub does : Does (parts (guest_of job image input syms)) (guest_of job image input syms) outcome log
  pub tells : Tells old log new
  pub comes : ComesTo job.base (guest_of job image input syms) outcome (with_guest (guest_of job image input syms) result)

-- a watch was told of the whole run of a guest
abbrev pub HasWatched : {W : Type 0} → Meaning W → W → W → Program → Type 0
HasWatched meaning first last guest =
    (trace : List RunStep) (stop : Stop) → IsTraceOf guest trace stop
    → last ≡ after_calls meaning guest.syms first (calls_of guest (steps_of trace) stop.tried)

-- the symbols of a guest are read, and it is run
pub record RunsWithSymbols (parts : Program → Writing) (IsSo : Program → Type 0) (job : Job) (image : Image)
    (input : List ℕ) (old : Outside) (result : Result RunEnd Status) (new : Outside) : Type 0 where
  pub syms : SymbolMap
  pub symbols : IsMapOf image syms
  pub sound : IsSound syms
  pub so : IfOk result (λ run. IsSo (guest_of job image input syms))
  pub run : RunsGuest parts job image syms input old result new

-- the same, or memory is wanting before that
abbrev pub RunsElf : (Program → Writing) → (Program → Type 0) → Job → Image → List ℕ → Outside → Result RunEnd Status
    → Outside → Type 0
RunsElf parts IsSo job image input old result new =
    (IsErrAnd result (λ status. status ≡ (OutOfMemory memory)) × (new ≡ old))
    ⊎ RunsWithSymbols parts IsSo job image input old result new

-- A program ran to its end and put these parts: it was loaded and accepted, and so was its input; and all that it puts
-- out is left. This is so of its guest.
pub record RanToEnd (parts : Program → Writing) (IsSo : Program → Type 0) (old : Outside) (job : Job) (run : RunEnd)
    (new : Outside) : Type 0 where
  pub program : List ℕ
  pub input : List ℕ
  pub syms : SymbolMap
  pub output : Output
  pub load : IsLoad old.files (program_of job.args) file_limit old.load_faults new.load_faults (Ok program)
  pub accepted : elf_fault program ≡ None
  pub fed : IsLoadIf old.files job.input text_limit old.load_faults new.load_faults (Ok input)
  pub symbols : IsMapOf (image_of program) syms
  pub sound : IsSound syms
  pub fits : Fits (guest_of job (image_of program) input syms)
  pub whole : IsWhole (parts (guest_of job (image_of program) input syms))
      (guest_of job (image_of program) input syms) run output
  pub so : IsSo (guest_of job (image_of program) input syms)
  pub leaves : Leaves old output new
  pub did : Did (LoadsAndRuns parts job) old (Ok (guest_of job (image_of program) input syms, run)) new

-- The work stopped before the end of the run, whatever stands behind it in the list of gates.
pub record StopsBefore (parts : Program → Writing) (old : Outside) (job : Job) (status : Status)
    (new : Outside) : Type 0 where
  pub met : Course
  pub output : Output
  pub is : IsRun parts old job met new
  pub accepted : IfSome met.run (λ ran. elf_fault (bytes_of met.program) ≡ None)
  pub comes : (gates : List Gate) (last : Status)
      → gates_outcome (reading met ++ loading job met ++ run_gate job met.run ∷ gates) last
      ≡ record { status = status; output = output }
  pub leaves : Leaves old output new

-- a program is loaded and run
abbrev pub RunsJob : (Program → Writing) → (Program → Type 0) → Outside → Job → Result RunEnd Status → Outside → Type 0
RunsJob parts IsSo old job (Ok run) new = RanToEnd parts IsSo old job run new
RunsJob parts IsSo old job (Err status) new =
    StopsBefore parts old job status new × Did (LoadsAndRuns parts job) old (Err status) new

-- a watch writes the parts that are asked for
abbrev pub WritesAsked : Watching → RunWatch → Type 0
WritesAsked asked (watch.Nobody w) = parts_asked asked ≡ plain_parts
WritesAsked asked (watch.Waits w) = ⊥
WritesAsked asked (watch.Contexts w) = asked ≡ Contexts w.callers
WritesAsked asked (watch.Addresses w) = ⊥

-- nothing more is said of the guest
abbrev pub IsAny : Program → Type 0
IsAny guest = Unit {0}

-- how a run ended, or the status with which a stage stopped it
abbrev pub end_result : Result End Status → Result Status Status
end_result (Ok end) = Ok (end_status end)
end_result (Err status) = Err status

-- the work of a command was done, and came to this status
abbrev pub DidWork : Outside → Request → Status → Outside → Type 0
DidWork old asked = CameTo (DoesAsked asked) old

-- or the words could not be read for want of memory
abbrev pub DidWorkOrWants : Outside → Request → Status → Outside → Type 0
DidWorkOrWants old asked status new =
    DidWork old asked status new ⊎ ((status ≡ OutOfMemory memory) × (new ≡ old))
