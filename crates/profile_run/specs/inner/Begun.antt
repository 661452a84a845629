-- Why a run stops before its first step.
use Rattle.std.specs.Prelude.{ℕ, ◌<◌, ◌≤◌, List}
use Rattle.elf_read.specs.Image.{Image}
use Rattle.guest_load.specs.Arguments.{NeedsTooMany, arguments_len, arguments_limit}
use Rattle.guest_load.specs.Segments.{pages_of}
use Rattle.guest_mem.specs.Memory.{page_limit}
use Rattle.profile_run.specs.declared.run_fault.RunFault.{RunFault}
use Rattle.profile_run.specs.declared.run_fault.RunFault.TheVariants.{ArgsTooLong, GuestFull, OutOfMemory}

-- the program can't be loaded, or memory is refused
abbrev pub Stops : Image → List (List ℕ) → RunFault → Type 0
Stops image args (ArgsTooLong len) = NeedsTooMany args len
Stops image args GuestFull = (arguments_len args ≤ arguments_limit) × (page_limit < pages_of image)
Stops image args (OutOfMemory _) = Unit {0}
Stops image args _ = ⊥
