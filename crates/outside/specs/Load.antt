-- What a folder may answer to a load.
use Rattle.std.specs.Prelude.{◌≡◌, ℕ, ◌<◌, ◌≤◌, ◌⊎◌, Bool, true, false, List, [], Option, Some, None, Result, Ok, Err, Vec}
use Rattle.std.specs.Prelude.{length}
use Rattle.std.specs.declared.alloc.Global.{Global}
use Rattle.outside.specs.Files.{Files, file, Rose}
use Rattle.outside.specs.declared.folder.LoadError.{LoadError}
use Rattle.outside.specs.declared.folder.LoadError.TheVariants.{Failed, TooLong, OutOfMemory}

-- From a folder that tells its contents: the bytes of the name, within the limit; a failure, where the name isn't
-- there or the count of faults rose; the length of a file that is above the limit; or want of memory.
abbrev pub ToldLoad : Files → List ℕ → ℕ → ℕ → ℕ → Result (Vec ℕ Global) LoadError → Type 0
ToldLoad files name limit before now (Ok bytes) = (file files name ≡ Some bytes.items) × (length bytes.items ≤ limit)
ToldLoad files name limit before now (Err Failed) = (file files name ≡ None) ⊎ Rose before now
ToldLoad files name limit before now (Err (TooLong len)) =
    (bytes : List ℕ) × (file files name ≡ Some bytes) × (length bytes ≡ len) × (limit < len)
ToldLoad files name limit before now (Err (OutOfMemory _)) = Unit {0}

-- From a folder that doesn't tell its contents: the same, as far as it doesn't speak of them.
abbrev pub UntoldLoad : ℕ → ℕ → ℕ → Result (Vec ℕ Global) LoadError → Type 0
UntoldLoad limit before now (Ok bytes) = length bytes.items ≤ limit
UntoldLoad limit before now (Err Failed) = Rose before now
UntoldLoad limit before now (Err (TooLong len)) = limit < len
UntoldLoad limit before now (Err (OutOfMemory _)) = Unit {0}

-- What a load may answer, from the contents, the name, the limit and the count of faults before and after it.
abbrev pub LoadAnswers : Option Files → List ℕ → ℕ → ℕ → ℕ → Result (Vec ℕ Global) LoadError → Type 0
LoadAnswers (Some files) name limit before now answer = ToldLoad files name limit before now answer
LoadAnswers None name limit before now answer = UntoldLoad limit before now answer

-- what a load answers that isn't told to fail, from the file of the name
abbrev pub IsLoaded : Option (List ℕ) → ℕ → Result (Vec ℕ Global) LoadError → Type 0
IsLoaded found limit (Ok bytes) = (found ≡ Some bytes.items) × (length bytes.items ≤ limit)
IsLoaded found limit (Err Failed) = found ≡ None
IsLoaded found limit (Err (TooLong len)) = (bytes : List ℕ) × (found ≡ Some bytes) × (length bytes ≡ len)
    × (limit < len)
IsLoaded found limit (Err (OutOfMemory _)) = Unit {0}

-- what a load gave, in words that don't speak of the memory of what was loaded
abbrev pub Load : Type 0
Load = Result (List ℕ) LoadError

abbrev pub bytes_of : Load → List ℕ
bytes_of (Ok bytes) = bytes
bytes_of (Err error) = []

abbrev pub load_of : Result (Vec ℕ Global) LoadError → Load
load_of (Ok bytes) = Ok bytes.items
load_of (Err error) = Err error

-- the load is a fault
abbrev pub load_failed : {A : Type 0} → Result A LoadError → Bool
load_failed (Err Failed) = true
load_failed (Err (TooLong _)) = false
load_failed (Err (OutOfMemory _)) = false
load_failed (Ok _) = false
