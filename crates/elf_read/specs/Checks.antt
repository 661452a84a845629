-- Checks in order, of which the first that fails counts.
use Rattle.std.specs.Prelude.{◌≡◌, ℕ, zero, suc, length, List, [], ◌∷◌, ◌++◌, Option, Some, None, Result, Ok, Err, ⊤}
use Rattle.std.specs.Prelude.{nat_lt, if◌then◌else◌}
use Rattle.elf_read.specs.declared.error.ElfError.{ElfError}
use Rattle.elf_read.specs.declared.error.ElfError.TheVariants.{Short, OutOfMemory}

-- f 0, f 1, .. f (n - 1)
abbrev pub table : {A : Type 0} → (ℕ → A) → ℕ → List A
table f zero = []
table f (suc n) = table f n ++ f n ∷ []

-- the first fault of several, in order
abbrev pub first_fault : List (Option ElfError) → Option ElfError
first_fault [] = None
first_fault (None ∷ faults) = first_fault faults
first_fault (Some e ∷ faults) = Some e

-- the file has so many bytes
abbrev pub whole_fault : List ℕ → ℕ → Option ElfError
whole_fault bytes need = if nat_lt (length bytes) need then Some (Short need) else None

-- the error is the fault, or memory was refused
abbrev pub IsRefusal : ElfError → Option ElfError → Type 0
IsRefusal (OutOfMemory _) fault = ⊤
IsRefusal e fault = fault ≡ Some e

-- a check's answer is Ok exactly where it finds no fault, and else that fault or want of memory
abbrev pub Answers : {X : Type 0} → Result X ElfError → Option ElfError → Type 0
Answers (Ok x) fault = fault ≡ None
Answers (Err e) fault = IsRefusal e fault
