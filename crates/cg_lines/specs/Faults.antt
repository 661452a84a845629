-- The fault that a method may answer.
use Rattle.std.specs.Prelude.{◌≡◌, Option, Some}
use Rattle.cg_lines.specs.declared.fault.Fault.{Fault}
use Rattle.cg_lines.specs.declared.fault.Fault.TheVariants as fault

-- a method may answer this fault where this is the line's fault; want of memory is free
abbrev pub Refuses : Fault → Option Fault → Type 0
Refuses (fault.OutOfMemory _) meant = Unit {0}
Refuses fault.BadLine meant = meant ≡ Some fault.BadLine
Refuses fault.NoEvents meant = meant ≡ Some fault.NoEvents
Refuses fault.Jumps meant = meant ≡ Some fault.Jumps
Refuses fault.UnknownId meant = meant ≡ Some fault.UnknownId
Refuses fault.BadNumber meant = meant ≡ Some fault.BadNumber
Refuses fault.Instr meant = meant ≡ Some fault.Instr
