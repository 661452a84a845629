-- Loads within a longer call.
use Rattle.std.proofs.Common.{ℕ, ◌≤◌, List, [], ◌∷◌, Option, Some, None, Result, Ok, Err, Vec, inl, inr}
use Rattle.std.proofs.Common.{◌≡◌, refl, subst, arith}
use Rattle.std.specs.declared.alloc.Global.{Global}
use Rattle.outside.specs.Files.{Files, Rose}
use Rattle.outside.specs.Load.{Load, LoadAnswers}
use Rattle.outside.specs.Journal.{Call, Loaded, TellsMore}
use Rattle.outside.specs.declared.folder.LoadError.{LoadError}
use Rattle.outside.specs.declared.folder.LoadError.TheVariants as load
use Rattle.profile_files.specs.Loads.{IsLoad}
use Rattle.profile_files.specs.Reading.{load_fault}
use Rattle.profile_files.specs.WantedFile.{WantedFile}
use Rattle.profile_files.specs.declared.fault.ReadFault.{ReadFault}
use Rattle.profile_files.specs.Calls.{HasFault}
use Rattle.profile_files.specs.inner.Stages.{Asks, LoadsFile}

Rose-within : (before from to now : ℕ) → before ≤ from → to ≤ now → Rose from to → Rose before now
Rose-within before from to now early late rose = omega arith

answers_within : (told : Option Files) (name : List ℕ) (limit before from to now : ℕ)
    (answer : Result (Vec ℕ Global) LoadError)
    → before ≤ from → to ≤ now → LoadAnswers told name limit from to answer
    → LoadAnswers told name limit before now answer
answers_within (Some files) name limit before from to now (Ok bytes) early late answers = answers
answers_within (Some files) name limit before from to now (Err load.Failed) early late (inl none) = inl none
answers_within (Some files) name limit before from to now (Err load.Failed) early late (inr rose) =
    inr (Rose-within before from to now early late rose)
answers_within (Some files) name limit before from to now (Err (load.TooLong len)) early late answers = answers
answers_within (Some files) name limit before from to now (Err (load.OutOfMemory _)) early late answers = answers
answers_within None name limit before from to now (Ok bytes) early late answers = answers
answers_within None name limit before from to now (Err load.Failed) early late rose =
    Rose-within before from to now early late rose
answers_within None name limit before from to now (Err (load.TooLong len)) early late answers = answers
answers_within None name limit before from to now (Err (load.OutOfMemory _)) early late answers = answers

pub IsLoad-within : (told : Option Files) (name : List ℕ) (limit before from to now : ℕ) (found : Load)
    → before ≤ from → to ≤ now → IsLoad told name limit from to found → IsLoad told name limit before now found
IsLoad-within told name limit before from to now found early late is = record {
  answer = is.answer;
  answers = answers_within told name limit before from to now is.answer early late is.answers;
  is = is.is;
}

-- a file that isn't loaded, under its name and limit
pub LoadsFile-refused : (told : Option Files) (before now : ℕ) (old new : Option (List Call)) (wanted : WantedFile)
    (name : List ℕ) (limit : ℕ) (error : LoadError) (fault : ReadFault)
    → record { name = name; limit = limit } ≡ wanted → LoadAnswers told name limit before now (Err error)
    → TellsMore old (Loaded name limit (Err error) ∷ []) new → HasFault (load_fault name (Err error)) fault
    → LoadsFile (Asks told before now old new wanted) wanted (Err fault)
LoadsFile-refused told before now old new wanted name limit error fault seen answers asked has =
    subst (λ (w : WantedFile). LoadsFile (Asks told before now old new w) w (Err fault)) seen (
      Err error,
      record { is = record { answer = Err error; answers = answers; is = refl }; calls = asked },
      has,
    )
