-- What the stages of a report answer: what they came to, or the status with which their gate stops the work.
use Rattle.std.specs.Prelude.{◌≡◌, ℕ, ◌<◌, List, ◌∷◌, length, Option, Some, None, Result, Ok, Err}
use Rattle.outside.specs.Write.{WritesAll, taken_more}
use Rattle.outside.specs.declared.sink.WriteError.{WriteError}
use Rattle.cg_read.specs.Profiles.{Contents}
use Rattle.command_status.specs.declared.status.Status.{Status}
use Rattle.command_status.specs.declared.status.Status.TheVariants as stop
use Rattle.command_status.specs.declared.status.Status.TheVariants.{Usage}
use Rattle.byte_text.specs.Memory.{memory}
use Rattle.byte_text.specs.declared.memory.OutOfMemory.{OutOfMemory}
use Rattle.command_steps.specs.Annotate.{IsSortPlace, sort_fault, write_fault}

-- the place of the event to sort by is found, or there is none
abbrev pub FindsSort : Option (List ℕ) → Contents → Option ℕ → Type 0
FindsSort event p (Some place) =
    (sort_fault event (Ok p) ≡ None) × IsSortPlace event p place × (place < length p.events)
FindsSort event p None = sort_fault event (Ok p) ≡ Some Usage

-- it is written
abbrev pub WritesReport : Option (List ℕ) → List ℕ → ℕ → ℕ → Result (Unit {0}) Status → Option (List ℕ) → Type 0
WritesReport old text before now (Ok _) new = new ≡ taken_more old text
WritesReport old text before now (Err status) new =
    (error : WriteError)
    × (let answer : Result (Unit {0}) WriteError = Err error in
    (write_fault answer ≡ Some status) × WritesAll old text before now answer new)

-- what a stage answers that stops for want of memory alone
abbrev pub or_wanting : {A : Type 0} → Result A OutOfMemory → Result A Status
or_wanting (Ok x) = Ok x
or_wanting (Err refused) = Err (stop.OutOfMemory memory)
