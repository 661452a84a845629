-- Files that a command loads, and the status with which a load stops its work.
use Rattle.std.specs.Prelude.{◌≡◌, ℕ, List, [], Option, Some, None, Result, Ok, Err, ◌⊎◌, ◌-◌, ◌^◌, ◌++◌}
use Rattle.std.specs.Prelude.{if◌then◌else◌, ◌∷◌, Vec}
use Rattle.outside.specs.Files.{Files}
use Rattle.outside.specs.declared.folder.LoadError.TheVariants as load
use Rattle.profile_files.specs.Loads.{IsLoad}
use Rattle.outside.specs.Limits.{text_limit}
use Rattle.outside.specs.Load.{Load}
use Rattle.byte_text.specs.Memory.{memory}
use Rattle.command_status.specs.declared.status.Status.{Status}
use Rattle.command_status.specs.declared.status.Status.TheVariants.{LoadFault, TooLong, OutOfMemory}
use Rattle.std.specs.declared.alloc.Global.{Global}

-- what a folder may give for a file that need not be named: without a name it is empty
abbrev pub IsLoadIf : Option Files → Option (List ℕ) → ℕ → ℕ → ℕ → Load → Type 0
IsLoadIf files None limit before now found = found ≡ Ok []
IsLoadIf files (Some name) limit before now found = IsLoad files name limit before now found

-- a file that was not loaded
abbrev pub load_fault : List ℕ → Load → Option Status
load_fault name (Ok bytes) = None
load_fault name (Err load.Failed) = Some (LoadFault name)
load_fault name (Err (load.TooLong len)) = Some (TooLong name len)
load_fault name (Err (load.OutOfMemory _)) = Some (OutOfMemory memory)

-- where one was named
abbrev pub input_fault : Option (List ℕ) → Load → Option Status
input_fault None found = None
input_fault (Some name) found = load_fault name found

-- the status with which a gate stops, or want of memory
abbrev pub HasStatus : Option Status → Status → Type 0
HasStatus stops status = (status ≡ (OutOfMemory memory)) ⊎ (stops ≡ Some status)

-- what was loaded, in words that don't speak of its memory
abbrev pub bytes_loaded : Result (Vec ℕ Global) Status → Result (List ℕ) Status
bytes_loaded (Ok bytes) = Ok bytes.items
bytes_loaded (Err status) = Err status

-- a file is loaded
abbrev pub LoadsFile : Option Files → List ℕ → ℕ → ℕ → ℕ → Result (Vec ℕ Global) Status → Type 0
LoadsFile files name limit before now (Ok bytes) = IsLoad files name limit before now (Ok bytes.items)
LoadsFile files name limit before now (Err status) =
    (found : Load) × IsLoad files name limit before now found × HasStatus (load_fault name found) status

-- the input is loaded
abbrev pub LoadsInput : Option Files → Option (List ℕ) → ℕ → ℕ → Result (Vec ℕ Global) Status → Type 0
LoadsInput files name before now (Ok bytes) = IsLoadIf files name text_limit before now (Ok bytes.items)
LoadsInput files name before now (Err status) =
    (found : Load) × IsLoadIf files name text_limit before now found × HasStatus (input_fault name found) status
