-- What a put of a part may answer, and what the folder then holds and tells.
use Rattle.std.specs.Prelude.{◌≡◌, ◌⊎◌, ℕ, List, [], ◌∷◌, length, Result, Ok, Err, option_map}
use Rattle.outside.specs.Files.{Rose, SameBut, with_file}
use Rattle.outside.specs.Outside.{Shelf}
use Rattle.byte_text.specs.Memory.{memory}
use Rattle.outside.specs.Journal.{Call, Put, TellsMore}
use Rattle.outside.specs.declared.folder.PutError.TheVariants as put
use Rattle.part_dump.specs.declared.dumping.DumpError.{DumpError}
use Rattle.part_dump.specs.declared.dumping.DumpError.TheVariants.{PutFault, OutOfMemory}

-- the put of a text for which memory was wanting; or nothing, where it was before
abbrev pub IsUnput : List ℕ → List ℕ → List Call → Type 0
IsUnput name text calls = (calls ≡ []) ⊎ (calls ≡ Put name text (Err (put.OutOfMemory memory)) ∷ [])

-- From the name and the text, the folder and its count of faults before, and those after: the name has the text, whose
-- length is answered; or it may hold anything or be absent, after a fault that the count shows or want of memory. One put
-- is told at most.
abbrev pub Dumps : List ℕ → List ℕ → Shelf → ℕ → Result ℕ DumpError → Shelf → ℕ → Type 0
Dumps name text old before (Ok len) new now =
    (len ≡ length text) × (new.files ≡ option_map (λ files. with_file files name text) old.files)
    × TellsMore old.calls (Put name text (Ok tt) ∷ []) new.calls
Dumps name text old before (Err PutFault) new now =
    Rose before now × SameBut name old.files new.files
    × TellsMore old.calls (Put name text (Err put.Failed) ∷ []) new.calls
Dumps name text old before (Err (OutOfMemory _)) new now =
    SameBut name old.files new.files
    × ((calls : List Call) × IsUnput name text calls × TellsMore old.calls calls new.calls)
