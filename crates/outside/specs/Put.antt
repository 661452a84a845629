-- What a folder may answer to a put, and what it then holds.
use Rattle.std.specs.Prelude.{◌≡◌, ℕ, Bool, true, false, List, Option, Result, Ok, Err, option_map}
use Rattle.outside.specs.Files.{Files, with_file, SameBut, Rose}
use Rattle.outside.specs.declared.folder.PutError.{PutError}
use Rattle.outside.specs.declared.folder.PutError.TheVariants.{Failed, OutOfMemory}

-- From the contents, the name, the bytes, the count of faults before and after it, the answer and the contents after:
-- that one name has these bytes; or it may hold anything, after a fault that the count shows or want of memory.
abbrev pub PutAnswers : {U : Type 0} → Option Files → List ℕ → List ℕ → ℕ → ℕ → Result U PutError
    → Option Files → Type 0
PutAnswers old name bytes before now (Ok _) new = new ≡ option_map (λ files. with_file files name bytes) old
PutAnswers old name bytes before now (Err Failed) new = Rose before now × SameBut name old new
PutAnswers old name bytes before now (Err (OutOfMemory _)) new = SameBut name old new

-- what a put does that isn't told to fail
abbrev pub IsStored : {U : Type 0} → Files → List ℕ → List ℕ → Result U PutError → Files → Type 0
IsStored old name bytes (Ok _) new = new ≡ with_file old name bytes
IsStored old name bytes (Err Failed) new = ⊥
IsStored old name bytes (Err (OutOfMemory _)) new = new ≡ old

-- the put is a fault
abbrev pub put_failed : {U : Type 0} → Result U PutError → Bool
put_failed (Err Failed) = true
put_failed (Err (OutOfMemory _)) = false
put_failed (Ok _) = false
