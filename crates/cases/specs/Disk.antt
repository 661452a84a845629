-- Files in memory as calls on files tell of them.
use Rattle.std.specs.Prelude.{◌≡◌, ℕ, Bool, List, Some, Result, Ok, Err, refl}
use Rattle.std.specs.Coded.{Coded, code_by, coded×, coded_ℕ, coded_bool}
use Rattle.std.specs.IoError.{error_kind}
use Rattle.std.specs.declared.io.Error.{Error}
use Rattle.std.specs.declared.io.ErrorKind.TheVariants.{OutOfMemory}
use Rattle.outside.specs.Calls.{Disk}
use Rattle.outside.specs.Files.{Files, SameBut, files_code, with_file}

abbrev pub disk_code : Coded Disk
disk_code = code_by (Files × (Bool × ℕ)) (coded× files_code (coded× coded_bool coded_ℕ))
    (λ d. (d.files, (d.tells_lengths, d.faults))) (λ p. record { files = p.0; tells_lengths = p.1.0; faults = p.1.1 }) (λ _. refl)

-- the name has these bytes; or memory was refused, and that one name may hold anything
abbrev pub Sets : {U : Type 0} → List ℕ → List ℕ → Result U Error → Disk → Disk → Type 0
Sets name bytes (Ok _) before now = now.files ≡ with_file before.files name bytes
Sets name bytes (Err error) before now =
    (error_kind error ≡ OutOfMemory) × SameBut name (Some before.files) (Some now.files)
