-- The answer of a check that takes no memory.
use Rattle.std.specs.Prelude.{◌≡◌, Option, Some, None, Result, Ok, Err}
use Rattle.elf_read.specs.declared.error.ElfError.{ElfError}

-- Ok exactly where it finds no fault, and else that fault
abbrev pub Says : {X : Type 0} → Result X ElfError → Option ElfError → Type 0
Says (Ok x) fault = fault ≡ None
Says (Err e) fault = fault ≡ Some e
