-- The number that the process ends with.
use Rattle.std.specs.Prelude.{ℕ, Bool, true, false}
use Rattle.command_status.specs.declared.status.Status.{Status}
use Rattle.command_status.specs.declared.status.Status.TheVariants.{Done, Exited, Usage, ElfRefused, LoadFault}
use Rattle.command_status.specs.declared.status.Status.TheVariants.{PutFault, OutFault, TooLong, FormatRefused}
use Rattle.command_status.specs.declared.status.Status.TheVariants.{SumLimit, EventsDiffer, Killed, UnsupportedInstr}
use Rattle.command_status.specs.declared.status.Status.TheVariants.{UnsupportedCall, Budget, Frames, AllWaiting}
use Rattle.command_status.specs.declared.status.Status.TheVariants.{GuestFull, ArgsTooLong, OutOfMemory}

abbrev pub number_of : Status → ℕ
number_of Done = 0
number_of (Exited code) = 0
number_of Usage = 1
number_of (ElfRefused error) = 2
number_of (LoadFault name) = 3
number_of (PutFault name) = 4
number_of OutFault = 6
number_of (TooLong name len) = 7
number_of (FormatRefused name error) = 8
number_of (SumLimit event) = 9
number_of (EventsDiffer name) = 9
number_of (Killed signal pc) = 10
number_of (UnsupportedInstr pc word) = 11
number_of (UnsupportedCall pc number) = 12
number_of (Budget steps) = 13
number_of Frames = 14
number_of AllWaiting = 15
number_of GuestFull = 16
number_of (ArgsTooLong len) = 16
number_of (OutOfMemory _) = 20

-- the work came to its end: an exit or another end of the guest, or a report that was written
abbrev pub is_finished : Status → Bool
is_finished Done = true
is_finished (Exited code) = true
is_finished (Killed signal pc) = true
is_finished (UnsupportedInstr pc word) = true
is_finished (UnsupportedCall pc number) = true
is_finished (Budget steps) = true
is_finished Frames = true
is_finished AllWaiting = true
is_finished Usage = false
is_finished (ElfRefused error) = false
is_finished (LoadFault name) = false
is_finished (PutFault name) = false
is_finished OutFault = false
is_finished (TooLong name len) = false
is_finished (FormatRefused name error) = false
is_finished (SumLimit event) = false
is_finished (EventsDiffer name) = false
is_finished GuestFull = false
is_finished (ArgsTooLong len) = false
is_finished (OutOfMemory _) = false

-- a status with which the work stops before the report is written: a refusal or a fault of the words, of PROG, of its
-- input, of a put, a write or a load, or want of memory
abbrev pub is_short : Status → Bool
is_short Usage = true
is_short (ElfRefused error) = true
is_short (LoadFault name) = true
is_short (PutFault name) = true
is_short OutFault = true
is_short (TooLong name len) = true
is_short GuestFull = true
is_short (ArgsTooLong len) = true
is_short (OutOfMemory _) = true
is_short _ = false
