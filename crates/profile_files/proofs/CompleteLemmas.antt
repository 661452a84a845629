-- Where the folder tells its contents, the answer is the one that they give.
use Rattle.std.proofs.Common.{◌≡◌, ◌≢◌, ◌⊎◌, ℕ, ◌≤◌, ◌<◌, if◌then◌else◌, Bool, List, [], ◌∷◌, length}
use Rattle.std.proofs.Common.{Option, Some, None, unwrap_or, Result, Ok, Err, Vec, inl, inr, refl, sym, ap, subst, ◌∙◌}
use Rattle.std.proofs.lemmas.Bool.{le-ltb, lt-ltb}
use Rattle.std.specs.declared.alloc.Global.{Global}
use Rattle.outside.specs.Files.{Files, Rose, file}
use Rattle.outside.specs.Load.{Load, LoadAnswers, ToldLoad, bytes_of, load_of}
use Rattle.outside.specs.declared.folder.LoadError.{LoadError}
use Rattle.outside.specs.declared.folder.LoadError.TheVariants as load
use Rattle.cg_read.specs.Meaning.{or_else}
use Rattle.cg_read.specs.Merge.{longer}
use Rattle.cg_read.specs.Profiles.{Contents}
use Rattle.profile_files.specs.Loads.{AreLoads, IsLoad, faultless_load, faultless_loads}
use Rattle.profile_files.specs.Reading.{Answers, IsComplete, IsReading, events_of, file_fault, reading_fault}
use Rattle.profile_files.specs.WantedFile.{WantedFile}
use Rattle.profile_files.specs.declared.fault.ReadFault.{ReadFault}
use Rattle.profile_files.specs.declared.fault.ReadFault.TheVariants.{OutOfMemory}
use Rattle.byte_text.specs.Memory.{memory}

-- What is loaded is what the folder holds, or memory was wanting.
told_load : (files : Files) (name : List ℕ) (limit before now : ℕ) (answer : Result (Vec ℕ Global) LoadError)
    → (Rose before now → ⊥) → ToldLoad files name limit before now answer
    → (load_of answer ≡ faultless_load (file files name) limit) ⊎ (load_of answer ≡ Err (load.OutOfMemory memory))
told_load files name limit before now (Ok bytes) calm told =
    inl (sym (ap (λ found. faultless_load found limit) told.0 ∙ within bytes.items told.1))
  where
    within : (items : List ℕ) → length items ≤ limit → faultless_load (Some items) limit ≡ Ok items
    within items short =
        ap (λ (long : Bool). if long then Err (load.TooLong (length items)) else Ok items)
        (le-ltb limit (length items) short)
told_load files name limit before now (Err load.Failed) calm (inl none) =
    inl (sym (ap (λ found. faultless_load found limit) none))
told_load files name limit before now (Err load.Failed) calm (inr rose) = absurd (calm rose)
told_load files name limit before now (Err (load.TooLong len)) calm told =
    inl (sym (ap (λ found. faultless_load found limit) told.1 ∙ above told.0 (subst (λ n. limit < n) (sym told.2) told.3)
    ∙ ap (λ n. let is : Load = Err (load.TooLong n) in is) told.2))
  where
    above : (items : List ℕ) → limit < length items → faultless_load (Some items) limit ≡ Err (load.TooLong (length items))
    above items long =
        ap (λ (more : Bool). if more then Err (load.TooLong (length items)) else Ok items)
        (lt-ltb limit (length items) long)
told_load files name limit before now (Err (load.OutOfMemory _)) calm told = inr refl

pub held_load : (told : Option Files) (files : Files) (name : List ℕ) (limit before now : ℕ) (found : Load)
    → told ≡ Some files
    → (Rose before now → ⊥) → IsLoad told name limit before now found
    → (found ≡ faultless_load (file files name) limit) ⊎ (found ≡ Err (load.OutOfMemory memory))
held_load told files name limit before now found is calm loads =
    subst (λ f. (f ≡ faultless_load (file files name) limit) ⊎ (f ≡ Err (load.OutOfMemory memory))) (sym loads.is)
    (told_load files name limit before now loads.answer calm
    (subst (λ t. LoadAnswers t name limit before now loads.answer) is loads.answers))

-- what follows a file is the same, so all is the same
same_after : (fault rest other : Option ReadFault) → (rest ≢ Some (OutOfMemory memory) → rest ≡ other)
    → or_else fault rest ≢ Some (OutOfMemory memory)
    → or_else fault rest ≡ or_else fault other
same_after (Some f) rest other same known = refl
same_after None rest other same known = same known

-- The reading stops for the same reason over what the folder holds.
agrees : (told : Option Files) (contents : Files) (before now : ℕ) (names : List (List ℕ)) (files : List WantedFile)
    (loads : List Load)
    → told ≡ Some contents → (Rose before now → ⊥) → AreLoads told before now files loads
    → reading_fault names files loads ≢ Some (OutOfMemory memory)
    → reading_fault names files loads ≡ reading_fault names files (faultless_loads contents files)
agrees told contents before now names [] loads is calm met known = refl
agrees told contents before now names (wanted ∷ files) [] is calm met known = absurd (known refl)
agrees told contents before now names (wanted ∷ files) (found ∷ loads) is calm met known =
    by (agrees told contents before now (longer names (events_of (bytes_of found))) files loads is calm met.1)
    (held_load told contents wanted.name wanted.limit before now found is calm met.0)
  where
    by : (reading_fault (longer names (events_of (bytes_of found))) files loads ≢ Some (OutOfMemory memory)
        → reading_fault (longer names (events_of (bytes_of found))) files loads
        ≡ reading_fault (longer names (events_of (bytes_of found))) files (faultless_loads contents files))
        → (found ≡ faultless_load (file contents wanted.name) wanted.limit) ⊎ (found ≡ Err (load.OutOfMemory memory))
        → reading_fault names (wanted ∷ files) (found ∷ loads)
        ≡ reading_fault names (wanted ∷ files) (faultless_loads contents (wanted ∷ files))
    by rest (inr none) = absurd (known (ap (λ f. reading_fault names (wanted ∷ files) (f ∷ loads)) none))
    by rest (inl same) =
        same_after (file_fault wanted names found)
        (reading_fault (longer names (events_of (bytes_of found))) files loads)
        (reading_fault (longer names (events_of (bytes_of found))) files (faultless_loads contents files)) rest known
        ∙ ap (λ f. reading_fault names (wanted ∷ files) (f ∷ faultless_loads contents files)) same

none_before : (fault rest : Option ReadFault) → or_else fault rest ≡ None → rest ≡ None
none_before None rest none = none
none_before (Some f) rest none = absurd (cc)

-- Where nothing stops it, the loads are those that the folder's contents give.
all_held : (told : Option Files) (contents : Files) (before now : ℕ) (names : List (List ℕ)) (files : List WantedFile)
    (loads : List Load)
    → told ≡ Some contents → (Rose before now → ⊥) → AreLoads told before now files loads
    → reading_fault names files loads ≡ None
    → loads ≡ faultless_loads contents files
all_held told contents before now names [] [] is calm met none = refl
all_held told contents before now names [] (found ∷ loads) is calm met none = absurd met
all_held told contents before now names (wanted ∷ files) [] is calm met none = absurd (cc)
all_held told contents before now names (wanted ∷ files) (found ∷ loads) is calm met none =
    by (all_held told contents before now (longer names (events_of (bytes_of found))) files loads is calm met.1
    (none_before (file_fault wanted names found)
    (reading_fault (longer names (events_of (bytes_of found))) files loads) none))
    (held_load told contents wanted.name wanted.limit before now found is calm met.0)
  where
    by : loads ≡ faultless_loads contents files
        → (found ≡ faultless_load (file contents wanted.name) wanted.limit) ⊎ (found ≡ Err (load.OutOfMemory memory))
        → found ∷ loads ≡ faultless_loads contents (wanted ∷ files)
    by rest (inr wanting) =
        let stop : Some (OutOfMemory memory) ≡ None =
        sym (ap (λ f. reading_fault names (wanted ∷ files) (f ∷ loads)) wanting) ∙ none in absurd (cc)
    by rest (inl same) = ap (λ f. f ∷ loads) same ∙ ap (λ l. faultless_load (file contents wanted.name) wanted.limit ∷ l) rest

pub IsComplete-from : (told : Option Files) (before now : ℕ) (first : Contents) (files : List WantedFile)
    (result : Result Contents ReadFault)
    → IsReading told before now first files result → IsComplete told before now first files result
IsComplete-from told before now first files (Ok joined) reading = λ contents is calm known.
    subst (λ loads. Answers first files loads (Ok joined))
    (all_held told contents before now first.events files reading.loads is calm reading.met reading.answers.0)
    reading.answers
IsComplete-from told before now first files (Err fault) reading = λ contents is calm known.
    reading.answers
    ∙ ap (λ f. unwrap_or f (OutOfMemory memory))
    (agrees told contents before now first.events files reading.loads is calm reading.met
    (λ wanting. known (ap (λ (f : ReadFault). Err f)
    (reading.answers ∙ ap (λ f. unwrap_or f (OutOfMemory memory)) wanting))))
