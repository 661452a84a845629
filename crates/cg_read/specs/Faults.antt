-- The answers that a fault leads to.
use Rattle.std.specs.Prelude.{◌≡◌, ℕ, Option, Some}
use Rattle.cg_lines.specs.declared.fault.Fault.{Fault}
use Rattle.cg_lines.specs.declared.fault.Fault.TheVariants as fault
use Rattle.cg_read.specs.declared.error.FormatError.{FormatError}
use Rattle.cg_read.specs.declared.error.FormatError.TheVariants.{BadLine, NoEvents, Jumps, UnknownId, BadNumber, Instr}
use Rattle.cg_read.specs.declared.error.FormatError.TheVariants.{OutOfMemory}
use Rattle.byte_text.specs.Memory.{memory}

-- the fault of the line with this number
abbrev pub error_at : ℕ → Fault → FormatError
error_at n fault.BadLine = BadLine n
error_at n fault.NoEvents = NoEvents
error_at n fault.Jumps = Jumps n
error_at n fault.UnknownId = UnknownId n
error_at n fault.BadNumber = BadNumber n
error_at n fault.Instr = Instr n
error_at n (fault.OutOfMemory _) = OutOfMemory memory

-- the first bad line is answered as it is; want of memory is free
abbrev pub Answers : FormatError → Option FormatError → Type 0
Answers (OutOfMemory _) meant = Unit {0}
Answers NoEvents meant = meant ≡ Some NoEvents
Answers (BadLine n) meant = meant ≡ Some (BadLine n)
Answers (Jumps n) meant = meant ≡ Some (Jumps n)
Answers (UnknownId n) meant = meant ≡ Some (UnknownId n)
Answers (BadNumber n) meant = meant ≡ Some (BadNumber n)
Answers (Instr n) meant = meant ≡ Some (Instr n)

abbrev pub IsWantOfMemory : FormatError → Type 0
IsWantOfMemory e = e ≡ OutOfMemory memory
