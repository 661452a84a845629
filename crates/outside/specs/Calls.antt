-- What the calls on files may answer, where they tell of the files.
use Rattle.std.specs.Prelude.{◌≡◌, ◌≢◌, ℕ, ◌<◌, ◌≤◌, ◌⊎◌, Bool, if◌then◌else◌, List, [], ◌++◌, Option, Some, None}
use Rattle.std.specs.Prelude.{Result, Ok, Err, length, take}
use Rattle.std.specs.IoError.{error_kind}
use Rattle.std.specs.declared.io.Error.{Error}
use Rattle.std.specs.declared.io.ErrorKind.TheVariants.{OutOfMemory}
use Rattle.outside.specs.Files.{Files, Rose, SameBut, file, with_file}

-- The files, whether the system says their lengths (of a device it says 0), and how many calls have failed.
pub record Disk : Type 0 where
  pub files : Files
  pub tells_lengths : Bool
  pub faults : ℕ

-- An open file: the bytes that are left to be read of it; and its name and the bytes that were written to it.
pub record OpenFile : Type 0 where
  pub rest : List ℕ
  pub name : List ℕ
  pub written : List ℕ

-- the length that is said of a file of these bytes
abbrev pub stated_length : Disk → List ℕ → ℕ
stated_length disk bytes = if disk.tells_lengths then length bytes else 0

-- Calls that tell of their files go on to tell, and this holds of what they told before and now.
abbrev pub Tell : Option Disk → Option Disk → (Disk → Disk → Type 0) → Type 0
Tell None now holds = Unit {0}
Tell (Some before) None holds = ⊥
Tell (Some before) (Some now) holds = holds before now

-- what a call that changes files leaves besides them
pub record GoesOn (before now : Disk) : Type 0 where
  pub tells_lengths : now.tells_lengths ≡ before.tells_lengths
  pub faults : before.faults ≤ now.faults

-- what a call leaves that changes no file
pub record Stays (before now : Disk) : Type 0 where
  pub files : now.files ≡ before.files
  pub tells_lengths : now.tells_lengths ≡ before.tells_lengths
  pub faults : before.faults ≤ now.faults

-- a call was refused: memory was, or it is one more that failed
abbrev pub IsRefused : Error → Disk → Disk → Type 0
IsRefused error before now = (error_kind error ≡ OutOfMemory) ⊎ Rose before.faults now.faults

-- Why a file wasn't opened: a name that isn't there is no want of memory.
abbrev pub NotOpened : Option (List ℕ) → Error → Disk → Disk → Type 0
NotOpened None error before now = error_kind error ≢ OutOfMemory
NotOpened (Some bytes) error before now = IsRefused error before now

-- The file of the name is open at its start.
abbrev pub Opens : {F : Type 0} → (F → OpenFile) → List ℕ → Result F Error → Disk → Disk → Type 0
Opens seen name (Ok opened) before now = file before.files name ≡ Some (seen opened).rest
Opens seen name (Err error) before now = NotOpened (file before.files name) error before now

-- The length is said of a file of which nothing has been read.
abbrev pub Says : OpenFile → Result ℕ Error → Disk → Disk → Type 0
Says opened (Ok len) before now = len ≡ stated_length before opened.rest
Says opened (Err error) before now = IsRefused error before now

-- The next bytes of the file are in front of the room for them: none only at its end.
abbrev pub Reads : OpenFile → OpenFile → List ℕ → Result ℕ Error → Disk → Disk → Type 0
Reads old new room (Ok count) before now = (old.rest ≡ take count room ++ new.rest) × (count ≡ 0 → new.rest ≡ [])
Reads old new room (Err error) before now = IsRefused error before now

-- The file of the name is there, empty; or that one name may hold anything or be absent.
abbrev pub Creates : {F : Type 0} → (F → OpenFile) → List ℕ → Result F Error → Disk → Disk → Type 0
Creates seen name (Ok opened) before now = (now.files ≡ with_file before.files name [])
    × ((seen opened).name ≡ name) × ((seen opened).written ≡ [])
Creates seen name (Err error) before now = IsRefused error before now × SameBut name (Some before.files) (Some now.files)

-- A front of the bytes, at least one, stands behind those that were written before; or that name may hold anything.
abbrev pub Writes : OpenFile → OpenFile → List ℕ → Result ℕ Error → Disk → Disk → Type 0
Writes old new bytes (Ok count) before now = (0 < count) × (new.name ≡ old.name)
    × (new.written ≡ old.written ++ take count bytes) × (now.files ≡ with_file before.files old.name new.written)
Writes old new bytes (Err error) before now = IsRefused error before now
    × SameBut old.name (Some before.files) (Some now.files)
