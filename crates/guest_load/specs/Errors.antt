-- Why a program can't be loaded, from why its pages can't be mapped.
use Rattle.guest_mem.specs.declared.error.MapError.{MapError}
use Rattle.guest_mem.specs.declared.error.MapError.TheVariants as map_error
use Rattle.guest_load.specs.declared.error.GuestError.{GuestError}
use Rattle.guest_load.specs.declared.error.GuestError.TheVariants as guest_error
use Rattle.byte_text.specs.Memory.{memory}

abbrev pub from_map_error : MapError → GuestError
from_map_error map_error.Full = guest_error.Full
from_map_error (map_error.OutOfMemory _) = guest_error.OutOfMemory memory
