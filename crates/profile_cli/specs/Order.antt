-- The order of work: what each command does, gate after gate, and the status with which each gate stops it.
use Rattle.std.specs.Prelude.{ℕ, ◌-◌, ◌^◌, ◌++◌, min, nat_lt, if◌then◌else◌, List, [], ◌∷◌, Option, Some}
use Rattle.std.specs.Prelude.{None, option_map, length, Result, Ok, Err}
use Rattle.event_costs.specs.declared.outcome.End.{End}
use Rattle.event_costs.specs.declared.outcome.End.TheVariants as end
use Rattle.elf_read.specs.Image.{Image, image_of}
use Rattle.elf_read.specs.Refusal.{refusal}
use Rattle.elf_read.specs.declared.error.ElfError.{ElfError}
use Rattle.elf_read.specs.declared.error.ElfError.TheVariants as elf
use Rattle.guest_mem.specs.Memory.{page_limit}
use Rattle.guest_load.specs.Arguments.{arguments_len, arguments_limit}
use Rattle.guest_load.specs.Segments.{pages_of}
use Rattle.part_dump.specs.Files.{part_name}
use Rattle.profile_run.specs.Runs.{RunEnd}
use Rattle.profile_run.specs.declared.run_fault.RunFault.{RunFault}
use Rattle.profile_run.specs.declared.run_fault.RunFault.TheVariants as fault
use Rattle.command_status.specs.Ends.{end_status}
use Rattle.command_status.specs.declared.status.Status.{Status}
use Rattle.command_status.specs.declared.status.Status.TheVariants.{Done, Usage, ElfRefused, PutFault, OutFault}
use Rattle.command_status.specs.declared.status.Status.TheVariants.{GuestFull, ArgsTooLong, OutOfMemory}
use Rattle.command_words.specs.Request as words
use Rattle.command_words.specs.Request.{Request, Job}
use Rattle.outside.specs.Limits.{file_limit}
use Rattle.outside.specs.Load.{bytes_of}
use Rattle.command_steps.specs.Annotate.{annotating, read_fault}
use Rattle.profile_cli.specs.Course.{Course, RunOutcome}
use Rattle.profile_cli.specs.Demo.{demo_job, figures_of}
use Rattle.command_steps.specs.Summary.{summing}
use Rattle.command_steps.specs.Gates.{Gate, Work, check}
use Rattle.profile_cli.specs.OwnReport.{reporting_own}
use Rattle.profile_cli.specs.Watching.{watch_gates}
use Rattle.profile_cli.specs.Words.{program_of}
use Rattle.byte_text.specs.Memory.{memory}
use Rattle.command_steps.specs.Loading.{load_fault, input_fault}

-- bytes that are no program: the first check that they fail
abbrev pub elf_status : ElfError → Status
elf_status (elf.OutOfMemory _) = OutOfMemory memory
elf_status error = ElfRefused error

abbrev pub elf_fault : List ℕ → Option Status
elf_fault bytes = option_map elf_status (refusal bytes)

-- arguments that need more than 65,536 bytes; how many, as far as the number fits 64 bits
abbrev pub arguments_fault : List (List ℕ) → Option Status
arguments_fault args =
    if nat_lt arguments_limit (arguments_len args) then Some (ArgsTooLong (min (arguments_len args) (2 ^ 64 - 1)))
    else None

-- more than 65,536 pages, that is 256 MiB
abbrev pub pages_fault : Image → Option Status
pages_fault image = if nat_lt page_limit (pages_of image) then Some GuestFull else None

-- the status of a run whose parts' names begin so
abbrev pub fault_status : List ℕ → RunFault → Status
fault_status base fault.GuestFull = GuestFull
fault_status base (fault.ArgsTooLong len) = ArgsTooLong len
fault_status base (fault.PutFault part thread) = PutFault (part_name base part thread.0)
fault_status base fault.OutFault = OutFault
fault_status base (fault.OutOfMemory _) = OutOfMemory memory

abbrev pub run_status : List ℕ → Result RunEnd RunFault → Status
run_status base (Ok ended) = end_status ended.end
run_status base (Err fault) = fault_status base fault

-- a run that stopped before the guest's end
abbrev pub run_fault : List ℕ → Result RunEnd RunFault → Option Status
run_fault base (Ok ended) = None
run_fault base (Err fault) = Some (fault_status base fault)

-- ---- the gates, in their order

-- the words are read
abbrev pub reading : Course → List Gate
reading met = check (if met.words_read then None else Some (OutOfMemory memory)) ∷ []

-- PROG is loaded and read, then its input is loaded, and then the guest is laid out in memory
abbrev pub loading : Job → Course → List Gate
loading job met =
    check (load_fault (program_of job.args) met.program)
    ∷ check (elf_fault (bytes_of met.program))
    ∷ check (input_fault job.input met.input)
    ∷ check (arguments_fault job.args)
    ∷ check (pages_fault (image_of (bytes_of met.program)))
    ∷ []

-- the guest runs: its files are put, and its bytes are written
abbrev pub run_gate : Job → Option RunOutcome → Gate
run_gate job None = check (Some (OutOfMemory memory))
run_gate job (Some ran) = record { stops = run_fault job.base ran.stop; output = ran.output }

abbrev pub last_status : Job → Option RunOutcome → Status
last_status job None = OutOfMemory memory
last_status job (Some ran) = run_status job.base ran.stop

-- Behind the demonstration's run: where it exited, its parts are read and joined, and the summary of it is written. Any
-- other end is the status.
abbrev pub behind_end : ℕ → Course → RunEnd → End → Work
behind_end size met run (end.Exited code) = record {
  gates = check (read_fault met.profile) ∷ summing (figures_of size (length (bytes_of met.program)) code run) met.summary;
  last = Done;
}
behind_end size met run stop = record { gates = []; last = end_status stop }

abbrev pub behind_stop : ℕ → Course → Result RunEnd RunFault → Work
behind_stop size met (Ok run) = behind_end size met run run.end
behind_stop size met (Err fault) = record { gates = []; last = (OutOfMemory memory) }

abbrev pub behind_demo : ℕ → Course → Option RunOutcome → Work
behind_demo size met None = record { gates = []; last = (OutOfMemory memory) }
behind_demo size met (Some ran) = behind_stop size met ran.stop

-- The work of each command. The end of the guest is the last status, and stops nothing: `report` does what `run` does,
-- and then reports on its own parts.
abbrev pub work : Request → Course → Work
work (words.Run job watching) met = record {
  gates = reading met ++ loading job met ++ run_gate job met.run ∷ watch_gates watching job.base met.waits;
  last = last_status job met.run;
}
work (words.Report job positions view) met = record {
  gates = reading met ++ loading job met ++ run_gate job met.run ∷ reporting_own met.profile met.report;
  last = last_status job met.run;
}
work (words.Annotate names view) met = record { gates = reading met ++ annotating view met.profile met.report; last = Done }
work (words.Demo size) met = record {
  gates = reading met ++ run_gate demo_job met.run ∷ (behind_demo size met met.run).gates;
  last = (behind_demo size met met.run).last;
}
work words.Usage met = record { gates = reading met; last = Usage }
