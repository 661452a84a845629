-- What a sink may answer to a write, and what it has taken then.
use Rattle.std.specs.Prelude.{◌≡◌, ℕ, ◌<◌, ◌≤◌, ◌++◌, Bool, true, false, List, Option, Result, Ok, Err, option_map}
use Rattle.std.specs.Prelude.{length, take}
use Rattle.outside.specs.Files.{Rose}
use Rattle.outside.specs.declared.sink.WriteError.{WriteError}
use Rattle.outside.specs.declared.sink.WriteError.TheVariants.{Failed, OutOfMemory}

-- the bytes taken, once these are at their end
abbrev pub taken_more : Option (List ℕ) → List ℕ → Option (List ℕ)
taken_more taken bytes = option_map (λ before. before ++ bytes) taken

-- From the bytes taken before, the piece, the count of faults before and after it, the answer and the bytes taken
-- after: a front of the piece, and at least a byte of one that isn't empty, is at the end; or all is as before.
abbrev pub WriteAnswers : Option (List ℕ) → List ℕ → ℕ → ℕ → Result ℕ WriteError → Option (List ℕ) → Type 0
WriteAnswers old piece before now (Ok count) new =
    (count ≤ length piece) × (0 < length piece → 0 < count) × (new ≡ taken_more old (take count piece))
WriteAnswers old piece before now (Err Failed) new = (0 < length piece) × Rose before now × (new ≡ old)
WriteAnswers old piece before now (Err (OutOfMemory _)) new = (0 < length piece) × (new ≡ old)

-- A whole write: all of the bytes were taken, or after a refusal a front that is not the whole.
abbrev pub WritesAll : {U : Type 0} → Option (List ℕ) → List ℕ → ℕ → ℕ → Result U WriteError → Option (List ℕ) → Type 0
WritesAll old bytes before now (Ok _) new = new ≡ taken_more old bytes
WritesAll old bytes before now (Err Failed) new =
    Rose before now × ((count : ℕ) × (count < length bytes) × (new ≡ taken_more old (take count bytes)))
WritesAll old bytes before now (Err (OutOfMemory _)) new =
    (count : ℕ) × (count < length bytes) × (new ≡ taken_more old (take count bytes))

-- the write is a fault
abbrev pub write_failed : {A : Type 0} → Result A WriteError → Bool
write_failed (Err Failed) = true
write_failed (Err (OutOfMemory _)) = false
write_failed (Ok _) = false
