-- The reading of profile files, call by call: each is loaded, read and joined before the next is loaded.
use Rattle.std.specs.Prelude.{◌≡◌, ◌⊎◌, ℕ, true, List, [], ◌∷◌, Option, Some, Result, Ok, Err}
use Rattle.outside.specs.Load.{Load}
use Rattle.outside.specs.Journal.{Call, Loaded, TellsMore}
use Rattle.outside.specs.declared.folder.LoadError.TheVariants as load
use Rattle.cg_read.specs.AddressReading.{ReadsLines}
use Rattle.cg_read.specs.Merge.{IsJoined, agree}
use Rattle.cg_read.specs.Profiles.{Contents}
use Rattle.profile_files.specs.Reading.{file_fault}
use Rattle.profile_files.specs.WantedFile.{WantedFile}
use Rattle.profile_files.specs.declared.fault.ReadFault.{ReadFault}
use Rattle.profile_files.specs.declared.fault.ReadFault.TheVariants.{OutOfMemory}
use Rattle.byte_text.specs.Memory.{memory}

-- this fault, or want of memory
abbrev pub HasFault : Option ReadFault → ReadFault → Type 0
HasFault stops fault = (fault ≡ (OutOfMemory memory)) ⊎ (stops ≡ Some fault)

-- The folder is asked for a file, or memory was wanting before.
abbrev pub IsAsked : WantedFile → Load → List Call → Type 0
IsAsked wanted found calls =
    (calls ≡ Loaded wanted.name wanted.limit found ∷ [])
    ⊎ ((calls ≡ []) × (found ≡ Err (load.OutOfMemory memory)))

-- The load of a file is the last call, as its fault stops the reading.
pub record StopsAt (wanted : WantedFile) (before : Contents) (calls : List Call)
    (result : Result Contents ReadFault) : Type 0 where
  pub found : Load
  pub calls_are : IsAsked wanted found calls
  pub fault : ReadFault
  pub why : HasFault (file_fault wanted before.events found) fault
  pub result_is : result ≡ Err fault

-- A file is read and joined, and then the rest is called for.
pub record GoesOn (wanted : WantedFile) (before next : Contents) (calls later : List Call) : Type 0 where
  pub bytes : List ℕ
  pub calls_are : calls ≡ Loaded wanted.name wanted.limit (Ok bytes) ∷ later
  pub read : Contents
  pub reads : ReadsLines bytes read
  pub agrees : agree before.events read.events ≡ true
  pub joins : IsJoined before read next

-- What the folder is asked for to join these files to a profile, and what that comes to.
abbrev pub Reads : Contents → List WantedFile → List Call → Result Contents ReadFault → Type 0
Reads before [] calls result = (calls ≡ []) × ((result ≡ Ok before) ⊎ (result ≡ Err (OutOfMemory memory)))
Reads before (wanted ∷ files) calls result =
    StopsAt wanted before calls result
    ⊎ ((next : Contents) × (later : List Call) × GoesOn wanted before next calls later × Reads next files later result)

-- It is asked for that, and nothing else.
abbrev pub TellsReading : Contents → List WantedFile → Result Contents ReadFault → Option (List Call) → Option (List Call)
    → Type 0
TellsReading first files result old new =
    (calls : List Call) × Reads first files calls result × TellsMore old calls new
