-- What `report` and `demo` never answer of the parts that they put themselves.
use Rattle.std.specs.Prelude.{◌≡◌, ℕ, ◌⊎◌, List, Some, Err}
use Rattle.outside.specs.Files.{Files}
use Rattle.outside.specs.Outside.{Outside}
use Rattle.outside.specs.declared.folder.LoadError.TheVariants as load
use Rattle.profile_files.specs.Loads.{IsLoad}
use Rattle.command_status.specs.declared.status.Status.{Status}
use Rattle.command_status.specs.declared.status.Status.TheVariants as status
use Rattle.command_words.specs.Request.{Request, Demo, Job, Positions, Report, View}
use Rattle.outside.specs.Limits.{text_limit, file_limit}
use Rattle.profile_cli.specs.Words.{program_of}

-- this file is longer than its limit
abbrev pub IsTooLong : Outside → List ℕ → ℕ → ℕ → Outside → Type 0
IsTooLong old name limit len new =
    IsLoad old.files name limit old.load_faults new.load_faults (Err (load.TooLong len))

-- A file that is too long is such a one. No file is refused for its lines or for its events, and no sum is too large.
abbrev pub IsNotOfParts : (List ℕ → ℕ → Type 0) → Status → Type 0
IsNotOfParts IsGiven (status.TooLong name len) = IsGiven name len
IsNotOfParts IsGiven (status.FormatRefused name error) = ⊥
IsNotOfParts IsGiven (status.EventsDiffer name) = ⊥
IsNotOfParts IsGiven (status.SumLimit position) = ⊥
IsNotOfParts IsGiven _ = Unit {0}

-- it is PROG or its input
abbrev pub IsOfJob : Outside → Job → Outside → List ℕ → ℕ → Type 0
IsOfJob old job new name len =
    ((name ≡ program_of job.args) × IsTooLong old name file_limit len new)
    ⊎ ((job.input ≡ Some name) × IsTooLong old name text_limit len new)

-- Where the folder tells its contents, what was put can be read: a file that is too long for `report` is of its job, and
-- none is for `demo`.
pub record IsReadable (old : Outside) (asked : Request) (status : Status) (new : Outside) : Type 0 where
  pub report : (files : Files) (job : Job) (positions : Positions) (view : View) → asked ≡ Report job positions view
      → old.files ≡ Some files → IsNotOfParts (IsOfJob old job new) status
  pub demo : (files : Files) (size : ℕ) → asked ≡ Demo size → old.files ≡ Some files
      → IsNotOfParts (λ name len. ⊥) status
