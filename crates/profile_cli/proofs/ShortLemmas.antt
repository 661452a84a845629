-- The gates before a report stop with statuses of a sort: with short ones.
use Rattle.std.proofs.Common.{◌≡◌, ℕ, Bool, true, false, if◌then◌else◌, List, Option, None, Some, option_map, Ok, Err}
use Rattle.std.proofs.Common.{refl, subst}
use Rattle.std.proofs.lemmas.Option.{same_Some}
use Rattle.outside.specs.declared.folder.LoadError.TheVariants as load
use Rattle.elf_read.specs.declared.error.ElfError.{ElfError}
use Rattle.elf_read.specs.declared.error.ElfError.TheVariants as elf
use Rattle.outside.specs.Load.{Load}
use Rattle.profile_run.specs.declared.run_fault.RunFault.{RunFault}
use Rattle.profile_run.specs.declared.run_fault.RunFault.TheVariants as fault
use Rattle.command_status.specs.declared.status.Status.{Status}
use Rattle.command_status.specs.Numbers.{is_short}
use Rattle.profile_cli.specs.Order.{elf_status, fault_status}
use Rattle.command_steps.specs.Loading.{input_fault, load_fault}

abbrev pub IsShort : Status → Type 0
IsShort status = is_short status ≡ true

-- ---- gates that stop with statuses of a sort

module _ (Stops : Status → Type 0) where
  -- a gate that stops does so with such a status
  abbrev pub StopsSo : Option Status → Type 0
  StopsSo stops = (status : Status) → stops ≡ Some status → Stops status

  pub none_stops : StopsSo None
  none_stops status is = absurd (by is)
    where
      by : None ≡ Some status → ⊥
      by e = cc

  pub some_stops : (stop : Status) → Stops stop → StopsSo (Some stop)
  some_stops stop such status is = subst Stops (same_Some stop status is) such

  pub if_stops : (b : Bool) (stop : Status) → Stops stop → StopsSo (if b then Some stop else None)
  if_stops true stop such = some_stops stop such
  if_stops false stop such = none_stops

  pub unless_stops : (b : Bool) (stop : Status) → Stops stop → StopsSo (if b then None else Some stop)
  unless_stops true stop such = none_stops
  unless_stops false stop such = some_stops stop such

-- ---- with short ones

abbrev pub StopsShort : Option Status → Type 0
StopsShort = StopsSo IsShort

pub load_stops : (name : List ℕ) (found : Load) → StopsShort (load_fault name found)
load_stops name (Ok bytes) = none_stops IsShort
load_stops name (Err load.Failed) = some_stops IsShort _ refl
load_stops name (Err (load.TooLong len)) = some_stops IsShort _ refl
load_stops name (Err (load.OutOfMemory _)) = some_stops IsShort _ refl

pub input_stops : (name : Option (List ℕ)) (found : Load) → StopsShort (input_fault name found)
input_stops None found = none_stops IsShort
input_stops (Some name) found = load_stops name found

pub elf_short : (refused : ElfError) → IsShort (elf_status refused)
elf_short (elf.OutOfMemory _) = refl
elf_short _ = refl

pub elf_stops : (refused : Option ElfError) → StopsShort (option_map elf_status refused)
elf_stops None = none_stops IsShort
elf_stops (Some refused) = some_stops IsShort (elf_status refused) (elf_short refused)

pub fault_short : (base : List ℕ) (refused : RunFault) → IsShort (fault_status base refused)
fault_short base fault.GuestFull = refl
fault_short base _ = refl
