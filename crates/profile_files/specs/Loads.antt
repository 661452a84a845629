-- What loads gave, in words that don't speak of the memory of what was loaded.
use Rattle.std.specs.Prelude.{◌≡◌, ℕ, nat_lt, if◌then◌else◌, List, [], ◌∷◌, length, map, Option, Some, None, Result, Ok}
use Rattle.std.specs.Prelude.{Err, Vec}
use Rattle.std.specs.declared.alloc.Global.{Global}
use Rattle.outside.specs.Files.{Files, file}
use Rattle.outside.specs.Load.{Load, LoadAnswers, load_of}
use Rattle.outside.specs.declared.folder.LoadError.{LoadError}
use Rattle.outside.specs.declared.folder.LoadError.TheVariants.{Failed, TooLong}
use Rattle.profile_files.specs.WantedFile.{WantedFile}

-- A folder of these contents may give this for the file of the name, within the limit, while its count of faults went
-- so.
pub record IsLoad (told : Option Files) (name : List ℕ) (limit before now : ℕ) (found : Load) : Type 0 where
  pub answer : Result (Vec ℕ Global) LoadError
  pub answers : LoadAnswers told name limit before now answer
  pub is : found ≡ load_of answer

-- It may give these for the first of the files, one after another. There are no more loads than files.
abbrev pub AreLoads : Option Files → ℕ → ℕ → List WantedFile → List Load → Type 0
AreLoads told before now files [] = Unit {0}
AreLoads told before now [] (found ∷ loads) = ⊥
AreLoads told before now (file ∷ files) (found ∷ loads) =
    IsLoad told file.name file.limit before now found × AreLoads told before now files loads

-- what a load gives where this is the file of the name, and nothing fails
abbrev pub faultless_load : Option (List ℕ) → ℕ → Load
faultless_load None limit = Err Failed
faultless_load (Some bytes) limit = if nat_lt limit (length bytes) then Err (TooLong (length bytes)) else Ok bytes

-- what the loads of all files give over these contents, where nothing fails
abbrev pub faultless_loads : Files → List WantedFile → List Load
faultless_loads contents files = map (λ wanted. faultless_load (file contents wanted.name) wanted.limit) files
