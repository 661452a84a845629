-- The work of `run`, by how far it came.
use Rattle.std.proofs.Common.{Bor, ◌<◌, length, map, ◌≡◌, ℕ, ◌≤◌, List, [], ◌∷◌, ◌++◌, Bool, true, false}
use Rattle.std.proofs.Common.{if◌then◌else◌, IfOk, IfSome, Option, Some, None, Result, Ok, Err, Vec, inl, inr, refl}
use Rattle.std.proofs.Common.{sym, ap, subst, ◌∙◌, arith}
use Rattle.std.specs.Result.{IsErrAnd}
use Rattle.std.specs.declared.alloc.Global.{Global}
use Rattle.event_costs.specs.Costs.{event_names, events_shown}
use Rattle.outside.specs.Files.{Files}
use Rattle.outside.specs.Outside.{Leaves, Output, Outside, Stream, Tells, nothing, nothing_done}
use Rattle.outside.specs.declared.folder.LoadError.TheVariants as load
use Rattle.elf_read.specs.Image.{Image, image_of}
use Rattle.sym_map.specs.SymbolMap.{IsSound, SymbolMap}
use Rattle.profile_run.specs.Program.{Fits, Program}
use Rattle.profile_run.specs.Parts.{ArePartsOf, Writing}
use Rattle.profile_run.specs.Runs.{RunEnd, IsWhole, Runs}
use Rattle.profile_run.specs.declared.run_fault.RunFault.{RunFault}
use Rattle.profile_run.specs.declared.run_fault.RunFault.TheVariants as fault
use Rattle.command_status.specs.Ends.{end_status}
use Rattle.command_status.specs.declared.status.Status.{Status}
use Rattle.command_status.specs.declared.status.Status.TheVariants as wanted
use Rattle.command_words.specs.Request.{Request, Job, Positions, Run, Usage, View, Watching, watching_at}
use Rattle.command_words.specs.Within.{IsBetween, IsWithin}
use Rattle.command_words.specs.Request as words
use Rattle.profile_files.specs.Loads.{IsLoad}
use Rattle.outside.specs.Load.{Load, bytes_of}
use Rattle.profile_files.specs.Joined.{no_rows}
use Rattle.profile_files.specs.declared.fault.ReadFault.TheVariants as read
use Rattle.profile_cli.proofs.Others.{IsReading-wanting}
use Rattle.profile_cli.specs.Course.{Course, RunOutcome, no_course}
use Rattle.outside.specs.Limits.{text_limit, file_limit}
use Rattle.command_steps.specs.Loading.{IsLoadIf, HasStatus, input_fault, load_fault, LoadsFile}
use Rattle.command_steps.specs.Loading.{LoadsInput}
use Rattle.command_steps.specs.Gates.{Gate, Outcome, at_gate, check, first_stop, or_next, gates_outcome}
use Rattle.profile_cli.specs.Order.{arguments_fault, elf_fault, fault_status, last_status, loading, pages_fault}
use Rattle.profile_cli.specs.Order.{reading, run_gate}
use Rattle.profile_cli.specs.OwnReport.{IsReported, parts_to_read, reporting_own}
use Rattle.profile_cli.specs.Program.{IsMapOf, guest_of}
use Rattle.profile_cli.specs.Reply.{IsWaitedIn, Works}
use Rattle.profile_cli.specs.Watching.{parts_asked, watch_gates}
use Rattle.profile_cli.specs.Words.{program_of}
use Rattle.profile_cli.specs.inner.RunStages.{IsAny, IsAnswered, RanToEnd, ReadsProgram, RunsElf, RunsGuest, RunsJob}
use Rattle.profile_cli.specs.inner.RunStages.{StopsBefore, with_guest}
use Rattle.profile_cli.specs.Stages as stage
use Rattle.command_steps.specs.Stages.{Did}
use Rattle.profile_cli.specs.Stages.{IsEndOf, LoadsAndRuns}
use Rattle.profile_cli.proofs.GateLemmas.{gates_outcome-five_checks, unless_stopped}
use Rattle.profile_cli.proofs.LoadLemmas.{IsLoadIf-within, IsLoad-wanting, IsLoadIf-unknown, few_arguments, few_pages}
use Rattle.profile_cli.proofs.LoadLemmas.{many_arguments, many_pages, unknown_input}
use Rattle.profile_cli.proofs.OutsideLemmas.{Leaves-and_nothing, Leaves-earlier, Leaves-nothing}
use Rattle.command_steps.specs.Annotate.{Annotates, profile_limit}
use Rattle.profile_files.specs.WantedFile.{with_limit}
use Rattle.profile_cli.proofs.RunLemmas.{Runs-earlier}
use Rattle.profile_cli.proofs.StageLemmas.{tells_none}
use Rattle.byte_text.specs.Memory.{memory}

-- what the work comes to once it is known which gate of the loading stops it
pub by_loading : (job : Job) (met : Course) (stop : Option Status) (gates : List Gate) (last : Status)
    → met.words_read ≡ true → first_stop (loading job met) ≡ stop
    → gates_outcome (reading met ++ loading job met ++ run_gate job met.run ∷ gates) last
    ≡ unless_stopped stop (gates_outcome (run_gate job met.run ∷ gates) last)
by_loading job met stop gates last read is =
    ap (λ (b : Bool).
    gates_outcome (check (if b then None else Some (wanted.OutOfMemory memory)) ∷ (loading job met ++ run_gate job met.run ∷ gates))
    last)
    read
    ∙ gates_outcome-five_checks (load_fault (program_of job.args) met.program) (elf_fault (bytes_of met.program))
    (input_fault job.input met.input) (arguments_fault job.args)
    (pages_fault (image_of (bytes_of met.program))) (run_gate job met.run ∷ gates) last
    ∙ ap (λ s. unless_stopped s (gates_outcome (run_gate job met.run ∷ gates) last)) is

-- ---- the run is not come to

abbrev met_loading : Load → Load → Course
met_loading program input = record no_course { program = program; input = input }

stopped : {parts : Program → Writing} (old new : Outside) (job : Job) (program input : Load) (status : Status)
    → IsLoad old.files (program_of job.args) file_limit old.load_faults new.load_faults program
    → IsLoadIf old.files job.input text_limit old.load_faults new.load_faults input
    → first_stop (loading job (met_loading program input)) ≡ Some status → Leaves old nothing new
    → StopsBefore parts old job status new
stopped old new job program input status is also stop leaves = record {
  met = met_loading program input;
  output = nothing;
  is = record { program = is; input = also; run = tt };
  accepted = tt;
  comes = λ gates last. by_loading job (met_loading program input) (Some status) gates last refl stop;
  leaves = leaves;
}

-- memory was wanting before anything was put out
pub Stops-wanting : {parts : Program → Writing} (old new : Outside) (job : Job) (status : Status)
    → status ≡ wanted.OutOfMemory memory
    → Leaves old nothing new
    → StopsBefore parts old job status new
Stops-wanting old new job status is leaves =
    stopped old new job (Err (load.OutOfMemory memory)) (unknown_input job.input) status
    (IsLoad-wanting old.files (program_of job.args) file_limit old.load_faults new.load_faults)
    (IsLoadIf-unknown old.files job.input text_limit old.load_faults new.load_faults)
    (ap (λ s. Some s) (sym is)) leaves

-- the checks behind the first two
abbrev pub others : Job → List ℕ → Load → Option Status
others job program input =
    or_next (input_fault job.input input)
    (or_next (arguments_fault job.args) (or_next (pages_fault (image_of program)) None))

-- the program was not loaded
pub Stops-unloaded : {parts : Program → Writing} (old new : Outside) (job : Job) (found : Load) (status : Status)
    → IsLoad old.files (program_of job.args) file_limit old.load_faults new.load_faults found
    → HasStatus (load_fault (program_of job.args) found) status → Leaves old nothing new
    → StopsBefore parts old job status new
Stops-unloaded old new job found status is (inl wanting) leaves = Stops-wanting old new job status wanting leaves
Stops-unloaded old new job found status is (inr stop) leaves =
    stopped old new job found (unknown_input job.input) status is
    (IsLoadIf-unknown old.files job.input text_limit old.load_faults new.load_faults)
    (ap (λ s. or_next s (or_next (elf_fault (bytes_of found))
    (others job (bytes_of found) (unknown_input job.input)))) stop) leaves

-- it was refused
pub Stops-refused : {parts : Program → Writing} (old new : Outside) (job : Job) (bytes : List ℕ) (status : Status)
    → IsLoad old.files (program_of job.args) file_limit old.load_faults new.load_faults (Ok bytes)
    → HasStatus (elf_fault bytes) status → Leaves old nothing new → StopsBefore parts old job status new
Stops-refused old new job bytes status is (inl wanting) leaves = Stops-wanting old new job status wanting leaves
Stops-refused old new job bytes status is (inr stop) leaves =
    stopped old new job (Ok bytes) (unknown_input job.input) status is
    (IsLoadIf-unknown old.files job.input text_limit old.load_faults new.load_faults)
    (ap (λ s. or_next s (others job bytes (unknown_input job.input))) stop) leaves

-- What is known once a program and its input were loaded, and the program was read.
pub record IsRead (old new : Outside) (job : Job) (bytes : List ℕ) (input : Load) : Type 0 where
  pub load : IsLoad old.files (program_of job.args) file_limit old.load_faults new.load_faults (Ok bytes)
  pub accepted : elf_fault bytes ≡ None
  pub also : IsLoadIf old.files job.input text_limit old.load_faults new.load_faults input

-- a gate behind the reading stops the work
past_reading : {parts : Program → Writing} (old new : Outside) (job : Job) (bytes : List ℕ) (input : Load)
    (status : Status)
    → IsRead old new job bytes input
    → others job bytes input ≡ Some status → Leaves old nothing new → StopsBefore parts old job status new
past_reading old new job bytes input status known stop leaves =
    stopped old new job (Ok bytes) input status known.load known.also
    (ap (λ s. or_next s (others job bytes input)) known.accepted ∙ stop) leaves

-- the input was not loaded
pub Stops-no_input : {parts : Program → Writing} (old new : Outside) (job : Job) (bytes : List ℕ) (input : Load)
    (status : Status)
    → IsRead old new job bytes input
    → HasStatus (input_fault job.input input) status → Leaves old nothing new → StopsBefore parts old job status new
Stops-no_input old new job bytes input status known (inl wanting) leaves =
    Stops-wanting old new job status wanting leaves
Stops-no_input old new job bytes input status known (inr stop) leaves =
    past_reading old new job bytes input status known
    (ap (λ s. or_next s (or_next (arguments_fault job.args) (or_next (pages_fault (image_of bytes)) None))) stop) leaves

-- ---- the run

-- an input that was loaded has no fault
no_fault : (name : Option (List ℕ)) (input : List ℕ) → input_fault name (Ok input) ≡ None
no_fault None input = refl
no_fault (Some name) input = refl

abbrev pub guest_with : Job → List ℕ → List ℕ → SymbolMap → Program
guest_with job bytes input syms = guest_of job (image_of bytes) input syms

abbrev pub met_running : List ℕ → List ℕ → RunOutcome → Course
met_running bytes input ran = record no_course { program = Ok bytes; input = Ok input; run = Some ran }

pub fits_all : (job : Job) (bytes input : List ℕ) (syms : SymbolMap) → Fits (guest_with job bytes input syms)
    → others job bytes (Ok input) ≡ None
fits_all job bytes input syms fits =
    ap (λ s. or_next s (or_next (arguments_fault job.args) (or_next (pages_fault (image_of bytes)) None)))
    (no_fault job.input input)
    ∙ ap (λ s. or_next s (or_next (pages_fault (image_of bytes)) None)) (few_arguments job.args fits.arguments)
    ∙ ap (λ s. or_next s None) (few_pages (image_of bytes) fits.pages)

-- the guest was run, and something stopped the run
running : {parts : Program → Writing} (old new : Outside) (job : Job) (bytes input : List ℕ) (syms : SymbolMap)
    (refused : RunFault)
    (output : Output)
    → IsRead old new job bytes (Ok input) → Fits (guest_with job bytes input syms) → IsMapOf (image_of bytes) syms
    → IsSound syms
    → Runs (parts (guest_with job bytes input syms)) (guest_with job bytes input syms) old (Err refused) output new
    → Leaves old output new → StopsBefore parts old job (fault_status job.base refused) new
running old new job bytes input syms refused output known fits symbols sound runs leaves =
    let ran : RunOutcome = record { syms = syms; stop = Err refused; output = output } in record {
      met = met_running bytes input ran;
      output = output;
      is = record { program = known.load; input = known.also; run = (symbols, sound, runs) };
      accepted = known.accepted;
      comes = λ gates last.
          by_loading job (met_running bytes input ran) None gates last refl
          (ap (λ s. or_next s (others job bytes (Ok input))) known.accepted ∙ fits_all job bytes input syms fits);
      leaves = leaves;
    }

too_long : (job : Job) (bytes input : List ℕ) (status : Status) → arguments_fault job.args ≡ Some status
    → others job bytes (Ok input) ≡ Some status
too_long job bytes input status stop =
    ap (λ s. or_next s (or_next (arguments_fault job.args) (or_next (pages_fault (image_of bytes)) None)))
    (no_fault job.input input)
    ∙ ap (λ s. or_next s (or_next (pages_fault (image_of bytes)) None)) stop

too_full : (job : Job) (bytes input : List ℕ) (status : Status) → arguments_fault job.args ≡ None
    → pages_fault (image_of bytes) ≡ Some status
    → others job bytes (Ok input) ≡ Some status
too_full job bytes input status few stop =
    ap (λ s. or_next s (or_next (arguments_fault job.args) (or_next (pages_fault (image_of bytes)) None)))
    (no_fault job.input input)
    ∙ ap (λ s. or_next s (or_next (pages_fault (image_of bytes)) None)) few
    ∙ ap (λ s. or_next s None) stop

pub ran_to : {parts : Program → Writing} (old new : Outside) (job : Job) (bytes input : List ℕ) (syms : SymbolMap)
    (refused : RunFault)
    (output : Output)
    → IsRead old new job bytes (Ok input) → IsMapOf (image_of bytes) syms → IsSound syms
    → Runs (parts (guest_with job bytes input syms)) (guest_with job bytes input syms) old (Err refused) output new
    → Leaves old output new → StopsBefore parts old job (fault_status job.base refused) new
ran_to old new job bytes input syms (fault.ArgsTooLong len) output known symbols sound runs leaves =
    past_reading old new job bytes (Ok input) (wanted.ArgsTooLong len) known
    (too_long job bytes input (wanted.ArgsTooLong len) (many_arguments job.args len runs.0))
    (subst (λ o. Leaves old o new) runs.1 leaves)
ran_to old new job bytes input syms fault.GuestFull output known symbols sound runs leaves =
    past_reading old new job bytes (Ok input) wanted.GuestFull known
    (too_full job bytes input wanted.GuestFull (few_arguments job.args runs.0) (many_pages (image_of bytes) runs.1))
    (subst (λ o. Leaves old o new) runs.2 leaves)
ran_to old new job bytes input syms (fault.PutFault part thread) output known symbols sound runs leaves =
    running old new job bytes input syms (fault.PutFault part thread) output known runs.0 symbols sound runs leaves
ran_to old new job bytes input syms fault.OutFault output known symbols sound runs leaves =
    running old new job bytes input syms fault.OutFault output known runs.0 symbols sound runs leaves
ran_to old new job bytes input syms (fault.OutOfMemory memory) output known symbols sound (inl runs) leaves =
    running old new job bytes input syms (fault.OutOfMemory memory) output known runs.0 symbols sound (inl runs) leaves
ran_to old new job bytes input syms (fault.OutOfMemory memory) output known symbols sound (inr none) leaves =
    Stops-wanting old new job (wanted.OutOfMemory memory) refl (subst (λ o. Leaves old o new) none leaves)

-- ---- what is told of it

-- how a run ended that came to its end
ended : (parts : Writing) (guest : Program) (old : Outside) (stop : Result RunEnd RunFault) (output : Output) (new : Outside)
    → Runs parts guest old stop output new → IfOk stop (IsEndOf parts guest)
ended parts guest old (Ok run) output new runs = record {
  trace = runs.1.trace;
  stop = runs.1.stop;
  is = runs.1.is;
  end = runs.1.end;
  parts_are = subst (λ (o : Output). ArePartsOf guest.options.base o.files run.parts) runs.1.output runs.1.parts;
}
ended parts guest old (Err refused) output new runs = tt

pub did_run : (parts : Program → Writing) (job : Job) (bytes input : List ℕ) (image : Image) (syms : SymbolMap)
    (old new : Outside) (result : Result RunEnd Status) → image ≡ image_of bytes → IsMapOf image syms → IsSound syms
    → RunsGuest parts job image syms input old result new
    → Did (stage.Runs parts job bytes input) old (with_guest (guest_with job bytes input syms) result) new
did_run parts job bytes input image syms old new result is symbols sound ran =
    by (subst (λ i. IsMapOf i syms) is symbols) (subst (λ i. RunsGuest parts job i syms input old result new) is ran)
  where
    guest : Program
    guest = guest_with job bytes input syms

    by : IsMapOf (image_of bytes) syms → RunsGuest parts job (image_of bytes) syms input old result new
        → Did (stage.Runs parts job bytes input) old (with_guest guest result) new
    by symbols ran = record {
      log = ran.log;
      stage = inr (record {
        syms = syms;
        symbols = symbols;
        sound = sound;
        stop = ran.outcome;
        ended = ends ran.outcome ran.same;
        does = ran.does;
        comes = ran.comes;
      });
      tells = ran.tells;
    }
      where
        ends : (said : Result RunEnd RunFault) → IfOk said (λ run. ran.stop ≡ Ok run)
            → IfOk said (IsEndOf (parts guest) guest)
        ends (Ok run) same =
            ended (parts guest) guest old (Ok run) ran.output new
            (subst (λ s. Runs (parts guest) guest old s ran.output new) same ran.runs)
        ends (Err refused) same = tt

-- what is told of the run is told of all behind the loads
abbrev pub IsToldBehind : (Program → Writing) → Outside → Outside → Outside → Job → List ℕ → List ℕ → Type 0
IsToldBehind parts old mid new job bytes input =
    (result : Result (Program × RunEnd) Status) → Did (stage.Runs parts job bytes input) mid result new
    → Did (LoadsAndRuns parts job) old result new

-- a guest was run to its end, or not, seen from the outside before the loads
RunsJob-ran : (parts : Program → Writing) (IsSo : Program → Type 0) (old mid new : Outside) (job : Job)
    (bytes input : List ℕ) (image : Image) (syms : SymbolMap)
    (result : Result RunEnd Status)
    → IsRead old new job bytes (Ok input) → image ≡ image_of bytes → IsMapOf image syms → IsSound syms
    → mid.files ≡ old.files → mid.put_faults ≡ old.put_faults → mid.out ≡ old.out → mid.err ≡ old.err
    → IfOk result (λ run. IsSo (guest_of job image input syms)) → IsToldBehind parts old mid new job bytes input
    → RunsGuest parts job image syms input mid result new → RunsJob parts IsSo old job result new
RunsJob-ran parts IsSo old mid new job bytes input image syms result known is symbols sound files puts out err so behind
    ran =
    by result ran.stop ran.answered so (behind (with_guest (guest_with job bytes input syms) result)
    (did_run parts job bytes input image syms mid new result is symbols sound ran))
    (Runs-earlier (parts (guest_with job bytes input syms)) (guest_with job bytes input syms) old mid ran.stop
    ran.output new puts out err
    (subst (λ i. Runs (parts (guest_of job i input syms)) (guest_of job i input syms) mid ran.stop
    ran.output new) is ran.runs))
  where
    symbols_of : IsMapOf (image_of bytes) syms
    symbols_of = subst (λ i. IsMapOf i syms) is symbols

    left : Leaves old ran.output new
    left = Leaves-earlier old mid new ran.output files out err ran.leaves

    by : (result : Result RunEnd Status) (stop : Result RunEnd RunFault) → IsAnswered job.base stop result
        → IfOk result (λ run. IsSo (guest_of job image input syms))
        → Did (LoadsAndRuns parts job) old (with_guest (guest_with job bytes input syms) result) new
        → Runs (parts (guest_with job bytes input syms)) (guest_with job bytes input syms) old stop
        ran.output new
        → RunsJob parts IsSo old job result new
    by (Ok run) stop same is_so did runs =
        let whole = subst (λ s. Runs (parts (guest_with job bytes input syms)) (guest_with job bytes input syms)
        old s ran.output new) same runs in record {
          program = bytes;
          input = input;
          syms = syms;
          output = ran.output;
          load = known.load;
          accepted = known.accepted;
          fed = known.also;
          symbols = symbols_of;
          sound = sound;
          fits = whole.0;
          whole = whole.1;
          so = subst (λ i. IsSo (guest_of job i input syms)) is is_so;
          leaves = left;
          did = did;
        }
    by (Err status) stop (refused, same, says) is_so did runs = (
      subst (λ s. StopsBefore parts old job s new) (sym says)
          (ran_to old new job bytes input syms refused ran.output known symbols_of sound
          (subst (λ s. Runs (parts (guest_with job bytes input syms)) (guest_with job bytes input syms) old s
          ran.output new) same runs) left),
      did,
    )

-- ---- the stages of the code

pub same_count : (n : ℕ) → n ≤ n
same_count n = omega arith

pub equal_counts : (before now : ℕ) → now ≡ before → before ≤ now
equal_counts before now is = omega (arith, is)

-- the program was not loaded
pub Stops-not_loaded : {parts : Program → Writing} (old new : Outside) (job : Job) (name : List ℕ) (status : Status)
    → name ≡ program_of job.args
    → LoadsFile old.files name file_limit old.load_faults new.load_faults (Err status) → Leaves old nothing new
    → StopsBefore parts old job status new
Stops-not_loaded old new job name status is loads leaves =
    let answer = subst
    (λ n. LoadsFile old.files n file_limit old.load_faults new.load_faults (Err status)) is loads in
    Stops-unloaded old new job answer.0 status answer.1 answer.2 leaves

-- what was loaded, however much later
pub load_later : (files : Option Files) (name program : List ℕ) (before now later : ℕ) (found : Vec ℕ Global)
    (bytes : List ℕ) → name ≡ program → bytes ≡ found.items → now ≤ later
    → LoadsFile files name file_limit before now (Ok found)
    → IsLoad files program file_limit before later (Ok bytes)
load_later files name program before now later found bytes is held late loads =
    subst (λ b. IsLoad files program file_limit before later (Ok b)) (sym held)
    (subst (λ n. IsLoad files n file_limit before later (Ok found.items)) is
    (IsLoadIf-within files (Some name) file_limit before before now later (Ok found.items) (same_count before) late loads))

-- what is known where the program was read, and its input loaded after that, or not
read_then : (old new : Outside) (job : Job) (bytes : List ℕ) (image : Image) (input : Load) (files : Option Files)
    (before now : ℕ)
    → IsLoad old.files (program_of job.args) file_limit old.load_faults before (Ok bytes)
    → ReadsProgram bytes (Ok image) → files ≡ old.files → old.load_faults ≤ before → before ≤ now
    → now ≤ new.load_faults
    → IsLoadIf files job.input text_limit before now input → IsRead old new job bytes input
read_then old new job bytes image input files before now loads reads same first second third also = record {
  load = IsLoadIf-within old.files (Some (program_of job.args)) file_limit old.load_faults old.load_faults before
      new.load_faults (Ok bytes) (same_count old.load_faults) (omega (arith, second, third)) loads;
  accepted = reads.0;
  also = IsLoadIf-within old.files job.input text_limit old.load_faults before now new.load_faults input first third
      (subst (λ f. IsLoadIf f job.input text_limit before now input) same also);
}

-- the input was not loaded
pub Stops-input_refused : {parts : Program → Writing} (old new : Outside) (job : Job) (bytes : List ℕ) (image : Image)
    (status : Status)
    (files : Option Files) (before : ℕ)
    → IsLoad old.files (program_of job.args) file_limit old.load_faults before (Ok bytes)
    → ReadsProgram bytes (Ok image) → files ≡ old.files → old.load_faults ≤ before → before ≤ new.load_faults
    → LoadsInput files job.input before new.load_faults (Err status) → Leaves old nothing new
    → StopsBefore parts old job status new
Stops-input_refused old new job bytes image status files before loads reads same first second input leaves =
    Stops-no_input old new job bytes input.0 status
    (read_then old new job bytes image input.0 files before new.load_faults loads reads same first second
    (same_count new.load_faults) input.1)
    input.2 leaves

-- both were loaded
pub IsRead-both : (old new : Outside) (job : Job) (bytes : List ℕ) (image : Image) (input : Vec ℕ Global)
    (files : Option Files) (before now : ℕ)
    → IsLoad old.files (program_of job.args) file_limit old.load_faults before (Ok bytes)
    → ReadsProgram bytes (Ok image) → files ≡ old.files → old.load_faults ≤ before → before ≤ now
    → now ≤ new.load_faults
    → LoadsInput files job.input before now (Ok input) → IsRead old new job bytes (Ok input.items)
IsRead-both old new job bytes image input files before now loads reads same first second third also =
    read_then old new job bytes image (Ok input.items) files before now loads reads same first second third also

-- a stage stopped the work
pub RunsJob-exit : (parts : Program → Writing) (IsSo : Program → Type 0) (old new : Outside) (job : Job) (stop : Status)
    (result : Result RunEnd Status)
    → IsErrAnd result (λ status. status ≡ stop)
    → StopsBefore parts old job stop new → Did (LoadsAndRuns parts job) old (Err stop) new
    → RunsJob parts IsSo old job result new
RunsJob-exit parts IsSo old new job stop (Ok run) none stops did = absurd none
RunsJob-exit parts IsSo old new job stop (Err status) is stops did =
    subst (λ s. StopsBefore parts old job s new × Did (LoadsAndRuns parts job) old (Err s) new) (sym is) (stops, did)

-- the guest of a program that was read, and its input too, was run or not
pub RunsJob-elf : (parts : Program → Writing) (IsSo : Program → Type 0) (old mid new : Outside) (job : Job)
    (bytes input : List ℕ) (image : Image) (result : Result RunEnd Status)
    → IsRead old new job bytes (Ok input) → image ≡ image_of bytes → mid.files ≡ old.files
    → mid.put_faults ≡ old.put_faults → mid.out ≡ old.out → mid.err ≡ old.err
    → IsToldBehind parts old mid new job bytes input
    → RunsElf parts IsSo job image input mid result new → RunsJob parts IsSo old job result new
RunsJob-elf parts IsSo old mid new job bytes input image result known is files puts out err behind
    (inl (wants, same)) =
    RunsJob-exit parts IsSo old new job (wanted.OutOfMemory memory) result wants
    (Stops-wanting old new job (wanted.OutOfMemory memory) refl
    (subst (λ o. Leaves old nothing o) (sym same)
    (Leaves-nothing old mid files (ap (λ (s : Stream). s.taken) out) (ap (λ (s : Stream). s.taken) err))))
    (behind (Err (wanted.OutOfMemory memory)) (record {
      log = nothing_done;
      stage = inl (record { nothing = refl; comes = refl });
      tells = subst (Tells mid nothing_done) (sym same) (tells_none mid);
    }))
RunsJob-elf parts IsSo old mid new job bytes input image result known is files puts out err behind (inr with) =
    RunsJob-ran parts IsSo old mid new job bytes input image with.syms result known is with.symbols with.sound files
    puts out err with.so behind with.run

-- ---- the command `run`

-- nothing was put for a watch
abbrev unwatched : Course → Course
unwatched met = record met { waits = None }

unwaited : (old new : Outside) (job : Job) (met : Course) (ran : Option RunOutcome)
    → IfSome ran (IsWaitedIn old job (unwatched met) new)
unwaited old new job met None = tt
unwaited old new job met (Some ran) = tt

-- it stopped before the end of the run
pub Works-stopped_run : (old new : Outside) (job : Job) (watching : Watching) (status : Status)
    → StopsBefore (parts_asked watching) old job status new → Works old (Run job watching) status new
Works-stopped_run old new job watching status stops =
    let comes = stops.comes (watch_gates watching job.base None) (last_status job stops.met.run) in record {
      course = unwatched stops.met;
      met = (
        record { program = stops.is.program; input = stops.is.input; run = stops.is.run },
        unwaited old new job stops.met stops.met.run,
      );
      status_is = sym (ap (λ o. o.status) comes);
      leaves = subst (λ (o : Outcome). Leaves old o.output new) (sym comes) stops.leaves;
    }

-- ---- the command `report`

-- the parts were not read again
abbrev unread : Course → Course
unread met = record met { profile = Err (read.OutOfMemory memory); report = None }

unreported : (old new : Outside) (job : Job) (view : View) (met : Course) (ran : Option RunOutcome)
    → IfSome ran (IsReported old job view (unread met) new)
unreported old new job view met None = tt
unreported old new job view met (Some ran) = record {
  reading = IsReading-wanting new.files old.load_faults new.load_faults
      (no_rows (events_shown job.branches event_names)) (parts_to_read job ran.stop) (read.OutOfMemory memory) refl;
  profile = tt;
  report = tt;
}

-- it stopped before the end of the run
pub Works-stopped_report : (old new : Outside) (job : Job) (positions : Positions) (view : View) (status : Status)
    → StopsBefore (parts_asked (watching_at positions)) old job status new
    → Works old (words.Report job positions view) status new
Works-stopped_report old new job positions view status stops =
    let comes = stops.comes (reporting_own (Err (read.OutOfMemory memory)) None) (last_status job stops.met.run) in record {
      course = unread stops.met;
      met = (
        record { program = stops.is.program; input = stops.is.input; run = stops.is.run },
        unreported old new job view stops.met stops.met.run,
      );
      status_is = sym (ap (λ o. o.status) comes);
      leaves = subst (λ (o : Outcome). Leaves old o.output new) (sym comes) stops.leaves;
    }

-- ---- what was met where a run came to its end
abbrev pub met_to_end : {parts : Program → Writing} (old new : Outside) (job : Job) (run : RunEnd)
    → RanToEnd parts IsAny old job run new → Course
met_to_end old new job run ran =
    met_running ran.program ran.input (record { syms = ran.syms; stop = Ok run; output = ran.output })

-- what the work comes to then
pub past_run : {parts : Program → Writing} (old new : Outside) (job : Job) (run : RunEnd)
    (ran : RanToEnd parts IsAny old job run new) (gates : List Gate)
    (last : Status)
    → gates_outcome (reading (met_to_end old new job run ran) ++ loading job (met_to_end old new job run ran)
    ++ run_gate job (met_to_end old new job run ran).run ∷ gates) last
    ≡ at_gate None ran.output (gates_outcome gates last)
past_run old new job run ran gates last =
    by_loading job (met_to_end old new job run ran) None gates last refl
    (ap (λ s. or_next s (others job ran.program (Ok ran.input))) ran.accepted
    ∙ fits_all job ran.program ran.input ran.syms ran.fits)

-- a run that came to its end has had no put refused
pub whole_refused : {writing : Writing} (guest : Program) (run : RunEnd) (output : Output)
    → IsWhole writing guest run output → output.refused ≡ None
whole_refused guest run output is = ap (λ (o : Output). o.refused) is.output

-- what puts nothing behind the last part; how it ended, by the fields of what the run answered
pub Works-run_as : (old new : Outside) (job : Job) (watching : Watching) (run inside : RunEnd) (status : Status)
    → watch_gates watching job.base None ≡ [] → status ≡ end_status inside.end → inside ≡ run
    → RanToEnd (parts_asked watching) IsAny old job run new → Works old (Run job watching) status new
Works-run_as old new job watching run inside status quiet is same ran =
    let comes = past_run old new job run ran (watch_gates watching job.base None) (end_status run.end)
    ∙ ap (λ gates. at_gate None ran.output (gates_outcome gates (end_status run.end))) quiet in
    subst (λ s. Works old (Run job watching) s new) (sym (is ∙ ap (λ (r : RunEnd). end_status r.end) same)) (record {
      course = met_to_end old new job run ran;
      met = (
        record { program = ran.load; input = ran.fed; run = (ran.symbols, ran.sound, (ran.fits, ran.whole)) },
        tt,
      );
      status_is = sym (ap (λ o. o.status) comes);
      leaves = subst (λ (o : Outcome). Leaves old o.output new) (sym comes)
          (Leaves-and_nothing old new ran.output
          (whole_refused (guest_with job ran.program ran.input ran.syms) run ran.output ran.whole) ran.leaves);
    })

-- ---- no command

quiet : (old : Outside) → Leaves old nothing old
quiet old = Leaves-nothing old old refl refl refl

-- memory was wanting for the words
pub Works-unread : (old : Outside) (asked : Request) → Works old asked (wanted.OutOfMemory memory) old
Works-unread old asked = by asked
  where
    unread : Course
    unread = record no_course { words_read = false }

    by : (a : Request) → Works old a (wanted.OutOfMemory memory) old
    by (Run job watching) =
        Works-stopped_run old old job watching (wanted.OutOfMemory memory)
        (Stops-wanting old old job (wanted.OutOfMemory memory) refl (quiet old))
    by (words.Report job positions view) =
        Works-stopped_report old old job positions view (wanted.OutOfMemory memory)
        (Stops-wanting old old job (wanted.OutOfMemory memory) refl (quiet old))
    by (words.Annotate names view) = record {
      course = unread;
      met = record {
        reading = IsReading-wanting old.files old.load_faults old.load_faults (no_rows [])
            (map (with_limit profile_limit) names) (read.OutOfMemory memory) refl;
        report = tt;
      };
      status_is = refl;
      leaves = quiet old;
    }
    by (words.Demo size) = record { course = unread; met = tt; status_is = refl; leaves = quiet old }
    by Usage = record { course = unread; met = refl; status_is = refl; leaves = quiet old }

-- the command line is faulty
pub Works-usage : (old : Outside) (asked : Request) → asked ≡ Usage → Works old asked wanted.Usage old
Works-usage old asked is =
    subst (λ a. Works old a wanted.Usage old) (sym is)
    (record { course = no_course; met = refl; status_is = refl; leaves = quiet old })

-- what was met where files are reported
Works-annotates : (old new : Outside) (names : List (List ℕ)) (view : View) (status : Status)
    → Annotates old names view status new → Works old (words.Annotate names view) status new
Works-annotates old new names view status work = record {
  course = record no_course { profile = work.found; report = work.report };
  met = work.met;
  status_is = work.status_is;
  leaves = work.leaves;
}

-- the words ask for a report on files
pub Works-annotated : (old new : Outside) (status : Status) (names items : List (Bor (List ℕ))) (view : View)
    (requested asked : Request)
    → names ≡ items → requested ≡ words.Annotate (map (λ name. name.now) items) view → requested ≡ asked
    → Annotates old (map (λ name. name.now) names) view status new
    → Works old asked status new
Works-annotated old new status names items view requested asked same is asks work =
    subst (λ a. Works old a status new)
    (ap (λ n. words.Annotate (map (λ name. name.now) n) view) same ∙ sym is ∙ asks)
    (Works-annotates old new (map (λ name. name.now) names) view status work)

-- some file is named
pub some_named : (names items : List (Bor (List ℕ))) (view : View) (requested : Request)
    → names ≡ items → requested ≡ words.Annotate (map (λ name. name.now) items) view → IsWithin requested
    → 0 < length names
some_named names items view requested same is within =
    by items same (subst (λ r. IsWithin r) is within).0
  where
    by : (items : List (Bor (List ℕ))) → names ≡ items → 0 < length (map (λ name. name.now) items) → 0 < length names
    by [] same some = absurd (omega (arith, some))
    by (item ∷ items) same some = subst (λ n. 0 < length n) (sym same) (omega arith)

-- the words ask for a demonstration
pub Works-demonstrated : (old new : Outside) (status : Status) (size : ℕ) (requested asked : Request)
    → requested ≡ words.Demo size → requested ≡ asked → Works old (words.Demo size) status new
    → Works old asked status new
Works-demonstrated old new status size requested asked is asks works =
    subst (λ a. Works old a status new) (sym is ∙ asks) works

-- the size is one that a demonstration may have
pub size_within : (size : ℕ) (requested : Request) → requested ≡ words.Demo size → IsWithin requested
    → IsBetween 1 100000 size
size_within size requested is within = subst (λ r. IsWithin r) is within
