-- A file is opened, and its front is read.
use Rattle.std.specs.Prelude.{◌≡◌, ◌≢◌, ℕ, ◌+◌, ◌≤◌, List, [], ◌++◌, Some, Result, Ok, Err, Vec, take}
use Rattle.std.specs.IoError.{error_kind}
use Rattle.std.specs.declared.alloc.Global.{Global}
use Rattle.std.specs.declared.io.Error.{Error}
use Rattle.std.specs.declared.io.ErrorKind.TheVariants as kind
use Rattle.outside.specs.Calls.{Disk, GoesOn, IsRefused, NotOpened, OpenFile, Stays, stated_length}
use Rattle.outside.specs.Files.{SameBut, file, with_file}
use Rattle.outside.specs.declared.folder.LoadError.{LoadError}
use Rattle.outside.specs.declared.folder.LoadError.TheVariants as load
use Rattle.outside.specs.declared.folder.PutError.{PutError}
use Rattle.outside.specs.declared.folder.PutError.TheVariants as put
use Rattle.outside.specs.declared.sink.WriteError.{WriteError}
use Rattle.outside.specs.declared.sink.WriteError.TheVariants as write

-- the next bytes of the file went to the end of those that were read: none only at its end
abbrev pub IsPiece : OpenFile → OpenFile → List ℕ → List ℕ → Result ℕ Error → Disk → Disk → Type 0
IsPiece old new read more (Ok count) before now =
    (read ++ old.rest ≡ more ++ new.rest) × (count ≡ 0 → new.rest ≡ [])
IsPiece old new read more (Err error) before now = IsRefused error before now

-- the front of the bytes that were left, by one longer than the limit where they are
abbrev pub IsFront : List ℕ → ℕ → Result (Vec ℕ Global) Error → Disk → Disk → Type 0
IsFront left limit (Ok bytes) before now = bytes.items ≡ take (limit + 1) left
IsFront left limit (Err error) before now = IsRefused error before now

-- the length that is said of the name's file, and its front, where that length is within the limit
abbrev pub IsFrontOf : List ℕ → ℕ → Result (ℕ × Vec ℕ Global) Error → Disk → Disk → Type 0
IsFrontOf name limit (Ok front) before now = (bytes : List ℕ) × (file before.files name ≡ Some bytes)
    × (front.0 ≡ stated_length before bytes) × (front.0 ≤ limit → front.1.items ≡ take (limit + 1) bytes)
IsFrontOf name limit (Err error) before now = NotOpened (file before.files name) error before now

-- all of the bytes were written to the file of the name
abbrev pub IsWritten : {U : Type 0} → List ℕ → List ℕ → Result U Error → Disk → Disk → Type 0
IsWritten name bytes (Ok _) before now = now.files ≡ with_file before.files name bytes
IsWritten name bytes (Err error) before now = IsRefused error before now
    × SameBut name (Some before.files) (Some now.files)

-- what a load answers that the system refuses
abbrev pub IsLoadError : Error → LoadError → Type 0
IsLoadError error load.Failed = error_kind error ≢ kind.OutOfMemory
IsLoadError error (load.TooLong len) = ⊥
IsLoadError error (load.OutOfMemory _) = error_kind error ≡ kind.OutOfMemory

-- what a put answers that the system refuses
abbrev pub IsPutError : Error → PutError → Type 0
IsPutError error put.Failed = error_kind error ≢ kind.OutOfMemory
IsPutError error (put.OutOfMemory _) = error_kind error ≡ kind.OutOfMemory

-- what a write answers that the system refuses
abbrev pub IsWriteError : Error → WriteError → Type 0
IsWriteError error write.Failed = error_kind error ≢ kind.OutOfMemory
IsWriteError error (write.OutOfMemory _) = error_kind error ≡ kind.OutOfMemory

-- So much of an open file has been read, and the rest is left.
pub record HasRead (left read : List ℕ) (opened : OpenFile) (before now : Disk) : Type 0 where
  pub stays : Stays before now
  pub parts : left ≡ read ++ opened.rest

-- So much was written to the file of the name, and it is all that is there.
pub record HasWritten (name written : List ℕ) (opened : OpenFile) (before now : Disk) : Type 0 where
  pub goes_on : GoesOn before now
  pub name_is : opened.name ≡ name
  pub written_is : opened.written ≡ written
  pub files : now.files ≡ with_file before.files name written
