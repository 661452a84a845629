-- Which calls take memory, by their rows: no other call can find none.
use Rattle.std.specs.Prelude.{◌≡◌, ℕ, ◌<◌, ◌≤◌, ◌==◌, true, false, bit_and, if◌then◌else◌, length, Option, None, Some}
use Rattle.guest_mem.specs.Memory.{Memory, load_at, may}
use Rattle.guest_load.specs.Guest.{Guest}
use Rattle.guest_futex.specs.Waits.{woken_at}
use Rattle.guest_sys.specs.Kernel.{Kernel}
use Rattle.guest_sys.specs.Common.{argument, number}
use Rattle.guest_sys.specs.Futexes.{operation_of, on_words}
use Rattle.guest_sys.specs.Pages.{grown_memory, lowest_free, mapped_at, page_end, pages_for, too_many}
use Rattle.guest_sys.specs.Streams.{is_output, input_left_len, write_count, write_limit}
use Rattle.guest_sys.specs.Table.{row_at}
use Rattle.guest_sys.specs.Threads.{is_cleared, is_crowded, is_thread, may_tell_both}
use Rattle.guest_sys.specs.Vectors.{iovecs_read}
use Rattle.guest_sys.specs.declared.caller.Caller.{Caller}
use Rattle.guest_sys.specs.declared.futexes.Operation.{Operation}
use Rattle.guest_sys.specs.declared.futexes.Operation.TheVariants.{Wait, Wake, Requeue}
use Rattle.guest_sys.specs.declared.table.Row.{Row}
use Rattle.guest_sys.specs.declared.table.Row.TheVariants as row

-- write, for the bytes that it outputs, which are some and may be read
abbrev pub WriteTakes : Guest → Caller → Type 0
WriteTakes g c =
    (is_output (argument 0 c) ≡ true) × (1 ≤ write_count c) × (may g.mem 1 (argument 1 c) (write_count c) ≡ true)

-- the first iovec is read of a list of so many, for which memory is taken
abbrev pub ReadsFirst : ℕ → Memory → ℕ → ℕ → Type 0
ReadsFirst limit m iov count = (1 ≤ iovecs_read limit m iov count) × (may m 1 iov 8 ≡ true)

-- readv and writev, for the list of their ranges and for the bytes that they output
abbrev pub ReadvTakes : Guest → Caller → Type 0
ReadvTakes g c =
    (argument 0 c ≡ 0) × (argument 2 c ≤ 1024) × ReadsFirst (input_left_len g) g.mem (argument 1 c) (argument 2 c)

abbrev pub WritevTakes : Guest → Caller → Type 0
WritevTakes g c =
    (is_output (argument 0 c) ≡ true) × (argument 2 c ≤ 1024)
    × ReadsFirst write_limit g.mem (argument 1 c) (argument 2 c)

-- who wakes, for the list of those that it wakes
abbrev pub WakeTakes : Kernel → ℕ → ℕ → Type 0
WakeTakes s addr count = 1 ≤ length (woken_at addr count s.waits)

-- an end that wakes
abbrev pub ExitTakes : Kernel → Caller → Type 0
ExitTakes s c = (is_cleared s.guest.mem c.thread.clear ≡ true) × WakeTakes s c.thread.clear 1

-- a wait that begins, for its place among those that wait
abbrev pub WaitTakes : Kernel → Caller → Type 0
WaitTakes s c = load_at s.guest.mem 1 (argument 0 c) 4 ≡ Some (argument 2 c)

abbrev pub OperationTakes : Operation → Kernel → Caller → Type 0
OperationTakes Wait s c = WaitTakes s c
OperationTakes Wake s c = WakeTakes s (argument 0 c) (argument 2 c)
OperationTakes Requeue s c = WakeTakes s (argument 0 c) (argument 2 c)

abbrev pub FutexTakes : Option Operation → Kernel → Caller → Type 0
FutexTakes None s c = ⊥
FutexTakes (Some operation) s c = (on_words operation c ≡ true) × OperationTakes operation s c

-- a break that grows, and not past the pages that a guest has at most, for its pages
abbrev pub GrowthTakes : Guest → ℕ → Type 0
GrowthTakes g a = (page_end g.now_break < page_end a) × (too_many (grown_memory g a) ≡ false)

abbrev pub BreakTakes : Guest → ℕ → Type 0
BreakTakes g a = (g.first_break ≤ a) × (a ≤ 0x4000_0000) × GrowthTakes g a

-- a mapping for which there is a place, and not past these, for its pages
abbrev pub MapTakes : Guest → Caller → Option ℕ → Type 0
MapTakes g c None = ⊥
MapTakes g c (Some page) = too_many (mapped_at g c page) ≡ false

abbrev pub place_for : Guest → Caller → Option ℕ
place_for g c =
    if bit_and (argument 3 c) 0x33 == 0x22
    then (if argument 1 c == 0 then None else lowest_free g.mem (pages_for (argument 1 c)))
    else None

-- a clone, for the thread that it makes
abbrev pub CloneTakes : Guest → Caller → Type 0
CloneTakes g c = (is_thread (argument 0 c) ≡ true) × (is_crowded g ≡ false) × (may_tell_both g c ≡ true)

-- each row; all others take none
abbrev pub TakesMemory : Row → Kernel → Caller → Type 0
TakesMemory row.Write s c = WriteTakes s.guest c
TakesMemory row.Readv s c = ReadvTakes s.guest c
TakesMemory row.Writev s c = WritevTakes s.guest c
TakesMemory row.Exit s c = ExitTakes s c
TakesMemory row.Futex s c = FutexTakes (operation_of c) s c
TakesMemory row.Brk s c = BreakTakes s.guest (argument 0 c)
TakesMemory row.Clone s c = CloneTakes s.guest c
TakesMemory row.Mmap s c = MapTakes s.guest c (place_for s.guest c)
TakesMemory _ s c = ⊥

-- the call of a caller, by its number
abbrev pub RowTakes : Option Row → Kernel → Caller → Type 0
RowTakes None s c = ⊥
RowTakes (Some r) s c = TakesMemory r s c

abbrev pub CallTakes : Kernel → Option Caller → Type 0
CallTakes s None = ⊥
CallTakes s (Some c) = RowTakes (row_at (number c)) s c
