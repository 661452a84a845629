-- What `run` counts besides its parts, and the files that it puts for it. What waiting costs has a file of its own,
-- which is put behind the last part; the parts stay as they are. What functions cost by their callers, or instructions
-- by their addresses, stands in the parts, in place of the plain rows.
use Rattle.std.specs.Prelude.{◌≡◌, ℕ, ◌++◌, List, [], ◌∷◌, codes, Option, Some, None, Result, Ok, Err}
use Rattle.outside.specs.Files.{Rose}
use Rattle.outside.specs.Outside.{Named, Outside, Output, nothing}
use Rattle.outside.specs.declared.folder.PutError.{PutError}
use Rattle.outside.specs.declared.folder.PutError.TheVariants as put
use Rattle.run_laws.specs.OwnParts.{files_of_run}
use Rattle.profile_run.specs.Program.{Program, head_of_run}
use Rattle.profile_run.specs.Parts.{Writing, plain_parts}
use Rattle.profile_run.specs.Runs.{whole_output}
use Rattle.profile_run.specs.Trace.{IsTraceOf, Stop, RunStep, steps_of}
use Rattle.wait_report.specs.Rows.{wait_rows}
use Rattle.wait_report.specs.Texts.{waits_text}
use Rattle.command_status.specs.declared.status.Status.{Status}
use Rattle.command_status.specs.declared.status.Status.TheVariants.{OutOfMemory, PutFault}
use Rattle.command_words.specs.Request.{AddressAndLine, Addresses, Contexts, Line, Nothing, Positions, Waits, Watching}
use Rattle.run_laws.specs.Addresses.{addr_parts}
use Rattle.run_laws.specs.Contexts.{ctx_parts}
use Rattle.profile_cli.specs.Course.{WaitsOutcome}
use Rattle.command_steps.specs.Gates.{Gate, check}
use Rattle.byte_text.specs.Memory.{memory}

-- ---- the files

-- the parts
abbrev pub parts_asked : Watching → Program → Writing
parts_asked Nothing = plain_parts
parts_asked Waits = plain_parts
parts_asked (Contexts callers) = ctx_parts callers
parts_asked Addresses = addr_parts

-- the name of the report on waiting
abbrev pub waits_name : List ℕ → List ℕ
waits_name base = base ++ codes ".waits"

-- its file, from the guest's trace
abbrev pub waits_file : Program → List RunStep → Named
waits_file guest trace = (
  waits_name guest.options.base,
  waits_text (head_of_run guest).cmd guest.options.branch (wait_rows (steps_of trace)),
)

-- the files of a run with such positions, in the order in which they are put
abbrev pub files_at : Positions → Program → List RunStep → Stop → List Named
files_at Line = files_of_run
files_at AddressAndLine = λ guest trace stop. (addr_parts guest).whole (steps_of trace) stop.tried

-- and those of a run that counts this besides
abbrev pub files_asked : Watching → Program → List RunStep → Stop → List Named
files_asked Nothing = files_at Line
files_asked Waits = λ guest trace stop. files_at Line guest trace stop ++ waits_file guest trace ∷ []
files_asked (Contexts callers) = λ guest trace stop. (ctx_parts callers guest).whole (steps_of trace) stop.tried
files_asked Addresses = files_at AddressAndLine

-- all that a run puts out
abbrev pub output_asked : Watching → Program → List RunStep → Stop → Output
output_asked watching guest trace stop =
    record (whole_output (parts_asked watching guest) trace stop) { files = files_asked watching guest trace stop }

-- ---- the gates behind the run

-- a file that can't be put
abbrev pub put_status : List ℕ → PutError → Status
put_status name put.Failed = PutFault name
put_status name (put.OutOfMemory _) = OutOfMemory memory

abbrev pub put_fault : {U : Type 0} → List ℕ → Result U PutError → Option Status
put_fault name (Ok _) = None
put_fault name (Err error) = Some (put_status name error)

-- the file was put, or its name was refused
abbrev pub put_output : {U : Type 0} → Named → Result U PutError → Output
put_output file (Ok _) = record nothing { files = file ∷ [] }
put_output file (Err error) = record nothing { refused = Some file.0 }

-- the report on waiting is made and put; where the work didn't come to it, memory was wanting
abbrev pub waits_gate : List ℕ → Option WaitsOutcome → Gate
waits_gate base None = check (Some (OutOfMemory memory))
waits_gate base (Some waited) = record {
  stops = put_fault (waits_name base) waited.put;
  output = put_output (waits_name base, waited.text) waited.put;
}

abbrev pub watch_gates : Watching → List ℕ → Option WaitsOutcome → List Gate
watch_gates Nothing base waited = []
watch_gates Waits base waited = waits_gate base waited ∷ []
watch_gates (Contexts callers) base waited = []
watch_gates Addresses base waited = []

-- ---- what is so of them

-- a put fails only where the count of faults of the folder rose
abbrev pub IsPut : {U : Type 0} → ℕ → ℕ → Result U PutError → Type 0
IsPut before now (Ok _) = Unit {0}
IsPut before now (Err put.Failed) = Rose before now
IsPut before now (Err (put.OutOfMemory _)) = Unit {0}

-- The report on waiting may be put so: its text is that of the guest's trace.
pub record IsWaited (old : Outside) (guest : Program) (new : Outside) (waited : WaitsOutcome) : Type 0 where
  pub text : (trace : List RunStep) (stop : Stop) → IsTraceOf guest trace stop
      → waited.text ≡ (waits_file guest trace).1
  pub put : IsPut old.put_faults new.put_faults waited.put
