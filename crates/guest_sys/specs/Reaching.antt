-- Where a system call may change memory, as its arguments tell.
use Rattle.std.specs.Prelude.{◌≡◌, ℕ, ◌+◌, ◌<◌, ◌≤◌, ◌^◌, ◌⊎◌}
use Rattle.guest_mem.specs.Memory.{Memory, load_at}
use Rattle.guest_load.specs.Guest.{Guest}
use Rattle.guest_sys.specs.Common.{argument}
use Rattle.guest_sys.specs.Pages.{page_end}
use Rattle.guest_sys.specs.declared.caller.Caller.{Caller}
use Rattle.guest_sys.specs.declared.reach.Reach.{Reach}
use Rattle.guest_sys.specs.declared.table.Row.{Row}
use Rattle.guest_sys.specs.declared.table.Row.TheVariants as row

abbrev pub bytes_from : ℕ → ℕ → Reach
bytes_from a n = record { address = a; bytes = n }

-- all bytes from an address on
abbrev pub all_from : ℕ → Reach
all_from a = bytes_from a 0x1_0000_0000

abbrev pub reach_of : Row → Guest → Caller → Reach
reach_of row.Read g c = bytes_from (argument 1 c) (argument 2 c)
reach_of row.ClockGettime g c = bytes_from (argument 1 c) 16
reach_of row.Getrandom g c = bytes_from (argument 0 c) 256
reach_of row.Exit g c = bytes_from c.thread.clear 4
reach_of row.Brk g c = all_from g.first_break
reach_of row.Mmap g c = all_from 0x4000_0000
reach_of row.Munmap g c = bytes_from (argument 0 c) (page_end (argument 1 c))
reach_of row.Mprotect g c = bytes_from (argument 0 c) (page_end (argument 1 c))
reach_of row.Readv g c = all_from 0
reach_of row.Clone g c = all_from 0
reach_of _ g c = bytes_from 0 0

-- what a load gives at an address apart from these bytes is the same in both memories
abbrev pub IsWithin : Reach → Memory → Memory → Type 0
IsWithin reach old new = (want other width : ℕ) → 1 ≤ width → other < 2 ^ 32
    → (other + width ≤ reach.address) ⊎ (reach.address + reach.bytes ≤ other)
    → load_at new want other width ≡ load_at old want other width
