-- What the steps of the reading answer: what they came to, or why the reading stops.
use Rattle.std.specs.Prelude.{◌≡◌, ℕ, true, List, [], ◌∷◌, Option, Result, Ok, Err, Vec}
use Rattle.std.specs.declared.alloc.Global.{Global}
use Rattle.outside.specs.Files.{Files}
use Rattle.cg_read.specs.Meaning.{or_else}
use Rattle.cg_read.specs.Merge.{IsJoined, agree}
use Rattle.cg_read.specs.Profiles.{Contents}
use Rattle.cg_read.specs.AddressReading.{ReadsLines}
use Rattle.profile_files.specs.Calls.{HasFault}
use Rattle.profile_files.specs.Loads.{IsLoad}
use Rattle.outside.specs.Load.{Load, bytes_of}
use Rattle.outside.specs.Journal.{Call, Loaded, TellsMore}
use Rattle.profile_files.specs.Reading.{events_fault, format_fault, load_fault}
use Rattle.profile_files.specs.WantedFile.{WantedFile}
use Rattle.profile_files.specs.declared.fault.ReadFault.{ReadFault}

-- The folder is asked for a file, once: it gives this, and tells so.
pub record Asks (told : Option Files) (before now : ℕ) (old new : Option (List Call)) (wanted : WantedFile)
    (found : Load) : Type 0 where
  pub is : IsLoad told wanted.name wanted.limit before now found
  pub calls : TellsMore old (Loaded wanted.name wanted.limit found ∷ []) new

-- a file is loaded, and this holds of what its load gives
abbrev pub LoadsFile : (Load → Type 0) → WantedFile → Result (Vec ℕ Global) ReadFault → Type 0
LoadsFile gives wanted (Ok bytes) = gives (Ok bytes.items)
LoadsFile gives wanted (Err fault) = (found : Load) × gives found × HasFault (load_fault wanted.name found) fault

-- a file is loaded and read, and this holds of what its load gives
abbrev pub ReadsFile : (Load → Type 0) → WantedFile → Result Contents ReadFault → Type 0
ReadsFile gives wanted (Ok profile) = (bytes : List ℕ) × gives (Ok bytes) × ReadsLines bytes profile
ReadsFile gives wanted (Err fault) =
    (found : Load) × gives found
    × HasFault (or_else (load_fault wanted.name found) (format_fault wanted.name (bytes_of found))) fault

-- what a file reads as is joined
abbrev pub JoinsFile : {U : Type 0} → WantedFile → Contents → Contents → Result U ReadFault → Contents → Type 0
JoinsFile wanted old read (Ok _) new = (agree old.events read.events ≡ true) × IsJoined old read new
JoinsFile wanted old read (Err fault) new = HasFault (events_fault wanted.name old.events read.events) fault
