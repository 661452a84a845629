-- The reading of profile files: each is loaded, read and joined before the next. What stops it is one recursion over
-- what the loads gave.
use Rattle.std.specs.Prelude.{◌≡◌, ◌≢◌, ℕ, if◌then◌else◌, List, [], ◌∷◌, length, map, Option, Some, None, option_map}
use Rattle.std.specs.Prelude.{unwrap_or, Result, Ok, Err}
use Rattle.outside.specs.Files.{Files, Rose}
use Rattle.outside.specs.declared.folder.LoadError.TheVariants as load
use Rattle.cg_read.specs.Meaning.{events, or_else}
use Rattle.cg_read.specs.Merge.{agree, longer}
use Rattle.cg_read.specs.Profiles.{Contents}
use Rattle.cg_read.specs.AddressReading.{first_bad_of, lines_said}
use Rattle.cg_read.specs.declared.error.FormatError.{FormatError}
use Rattle.cg_read.specs.declared.error.FormatError.TheVariants as format
use Rattle.profile_files.specs.Joined.{Joins}
use Rattle.profile_files.specs.Loads.{AreLoads, faultless_loads}
use Rattle.outside.specs.Load.{Load, bytes_of}
use Rattle.profile_files.specs.WantedFile.{WantedFile}
use Rattle.profile_files.specs.declared.fault.ReadFault.{ReadFault}
use Rattle.profile_files.specs.declared.fault.ReadFault.TheVariants.{LoadFault, TooLong, FormatRefused, EventsDiffer}
use Rattle.profile_files.specs.declared.fault.ReadFault.TheVariants.{OutOfMemory}
use Rattle.byte_text.specs.Memory.{memory}

-- ---- why a file stops the reading

-- it was not loaded
abbrev pub load_fault : List ℕ → Load → Option ReadFault
load_fault name (Ok bytes) = None
load_fault name (Err load.Failed) = Some (LoadFault name)
load_fault name (Err (load.TooLong len)) = Some (TooLong name len)
load_fault name (Err (load.OutOfMemory _)) = Some (OutOfMemory memory)

-- want of memory is no fault of the file
abbrev pub refusal_of : List ℕ → FormatError → ReadFault
refusal_of name (format.OutOfMemory _) = OutOfMemory memory
refusal_of name error = FormatRefused name error

-- a line of it is bad: the first one
abbrev pub format_fault : List ℕ → List ℕ → Option ReadFault
format_fault name bytes = option_map (refusal_of name) (first_bad_of bytes)

-- the names of the events in a file
abbrev pub events_of : List ℕ → List (List ℕ)
events_of bytes = unwrap_or (events (lines_said bytes)) []

-- neither its list of events nor the one joined before it begins with the other
abbrev pub events_fault : List ℕ → List (List ℕ) → List (List ℕ) → Option ReadFault
events_fault name before own = if agree before own then None else Some (EventsDiffer name)

-- the first of these, where the load gave this and these events were joined before
abbrev pub file_fault : WantedFile → List (List ℕ) → Load → Option ReadFault
file_fault wanted before found =
    or_else (load_fault wanted.name found)
    (or_else (format_fault wanted.name (bytes_of found))
    (events_fault wanted.name before (events_of (bytes_of found))))

-- ---- why the reading stops

-- The first file with a fault stops it. Each file that has none leaves the longer list of events to the next. Where no
-- load of a file is told, the reading didn't come to it for want of memory.
abbrev pub reading_fault : List (List ℕ) → List WantedFile → List Load → Option ReadFault
reading_fault before [] loads = None
reading_fault before (wanted ∷ files) [] = Some (OutOfMemory memory)
reading_fault before (wanted ∷ files) (found ∷ loads) =
    or_else (file_fault wanted before found)
    (reading_fault (longer before (events_of (bytes_of found))) files loads)

-- ---- what the reading answers

-- From what the loads gave: the first profile with all files joined to it, where none has a fault; else the first
-- fault; else want of memory.
abbrev pub Answers : Contents → List WantedFile → List Load → Result Contents ReadFault → Type 0
Answers first files loads (Ok joined) =
    (reading_fault first.events files loads ≡ None) × (length loads ≡ length files)
    × Joins first (map bytes_of loads) joined
Answers first files loads (Err fault) = fault ≡ unwrap_or (reading_fault first.events files loads) (OutOfMemory memory)

-- The loads are some that the folder may give while its count of faults went so, and the answer follows from them.
pub record IsReading (told : Option Files) (before now : ℕ) (first : Contents) (files : List WantedFile)
    (result : Result Contents ReadFault) : Type 0 where
  pub loads : List Load
  pub met : AreLoads told before now files loads
  pub answers : Answers first files loads result

-- Over a folder that tells its contents, where no load failed in the call and memory was not wanting, the answer
-- follows from what the folder holds.
abbrev pub IsComplete : Option Files → ℕ → ℕ → Contents → List WantedFile → Result Contents ReadFault → Type 0
IsComplete told before now first files result =
    (contents : Files) → told ≡ Some contents → (Rose before now → ⊥) → result ≢ Err (OutOfMemory memory)
    → Answers first files (faultless_loads contents files) result
