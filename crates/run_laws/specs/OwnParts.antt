-- The parts of a run, loaded again from the folder into which they were put.
use Rattle.std.specs.Prelude.{◌≡◌, ◌⊎◌, ℕ, List, length, map}
use Rattle.outside.specs.Files.{Rose}
use Rattle.outside.specs.Outside.{Named}
use Rattle.profile_files.specs.WantedFile.{WantedFile}
use Rattle.profile_files.specs.declared.fault.ReadFault.{ReadFault}
use Rattle.profile_files.specs.declared.fault.ReadFault.TheVariants.{LoadFault, OutOfMemory}
use Rattle.recorder.specs.Rows.{rows_of}
use Rattle.part_dump.specs.Parts.{files}
use Rattle.profile_run.specs.Program.{Program, head_of_run}
use Rattle.profile_run.specs.Trace.{Stop, RunStep, steps_of}
use Rattle.byte_text.specs.Memory.{memory}

-- the files of a run that nobody watches
abbrev pub files_of_run : Program → List RunStep → Stop → List Named
files_of_run guest trace stop =
    files (rows_of guest.syms) (head_of_run guest) guest.syms guest.options.base guest.options.dump_points (steps_of trace)

abbrev pub texts_of_files : List Named → List (List ℕ)
texts_of_files files = map (λ f. f.1) files

-- each file with its length as the limit
abbrev pub with_their_lengths : List Named → List WantedFile
with_their_lengths files = map (λ f. record { name = f.0; limit = length f.1 }) files

-- memory was wanting, or a load failed
abbrev pub IsOwnFault : ℕ → ℕ → ReadFault → Type 0
IsOwnFault before now fault =
    (fault ≡ (OutOfMemory memory)) ⊎ ((name : List ℕ) × (fault ≡ LoadFault name) × Rose before now)
