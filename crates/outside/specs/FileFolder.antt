-- What a folder over calls on files answers, where the calls tell of the files.
use Rattle.std.specs.Prelude.{◌≡◌, ℕ, ◌+◌, ◌<◌, ◌≤◌, ◌⊎◌, List, Some, None, IsSome, Result, Ok, Err, Vec, length}
use Rattle.std.specs.declared.alloc.Global.{Global}
use Rattle.outside.specs.Calls.{Disk, stated_length}
use Rattle.outside.specs.Files.{Rose, SameBut, file, with_file}
use Rattle.outside.specs.declared.folder.LoadError.{LoadError}
use Rattle.outside.specs.declared.folder.LoadError.TheVariants as load
use Rattle.outside.specs.declared.folder.PutError.{PutError}
use Rattle.outside.specs.declared.folder.PutError.TheVariants as put

-- a folder over calls on files, with its counts of faults, one of loads and one of puts
pub record FileFolder (C : Type 0) : Type 0 where
  pub calls : C
  pub loads : ℕ
  pub puts : ℕ

-- The length that is told of a file that is too long: what the system says of it; or one more than the limit, where it
-- says less of a file that has more.
abbrev pub IsTooLong : ℕ → ℕ → List ℕ → ℕ → Type 0
IsTooLong limit says bytes len = ((limit < says) × (len ≡ says))
    ⊎ ((says ≤ limit) × (limit < length bytes) × (len ≡ limit + 1))

-- The whole file, within the limit; a failure, where the name isn't there or a call failed; a file that is too long;
-- or want of memory, but not for a name that isn't there.
abbrev pub LoadsFrom : List ℕ → ℕ → Result (Vec ℕ Global) LoadError → Disk → Disk → Type 0
LoadsFrom name limit (Ok bytes) before now = (file before.files name ≡ Some bytes.items) × (length bytes.items ≤ limit)
LoadsFrom name limit (Err load.Failed) before now = (file before.files name ≡ None) ⊎ Rose before.faults now.faults
LoadsFrom name limit (Err (load.TooLong len)) before now =
    (bytes : List ℕ) × (file before.files name ≡ Some bytes) × IsTooLong limit (stated_length before bytes) bytes len
LoadsFrom name limit (Err (load.OutOfMemory _)) before now = IsSome (file before.files name)

-- The name has these bytes, all of them and no others; or it may hold anything, after a call that failed or want of
-- memory.
abbrev pub PutsTo : {U : Type 0} → List ℕ → List ℕ → Result U PutError → Disk → Disk → Type 0
PutsTo name bytes (Ok _) before now = now.files ≡ with_file before.files name bytes
PutsTo name bytes (Err put.Failed) before now = Rose before.faults now.faults
    × SameBut name (Some before.files) (Some now.files)
PutsTo name bytes (Err (put.OutOfMemory _)) before now = SameBut name (Some before.files) (Some now.files)
