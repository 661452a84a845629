-- The row of a system call: what it does to the kernel.
use Rattle.std.specs.Prelude.{◌≡◌, ℕ, ◌%◌, ◌==◌, List, Option, Some, Result, Ok, Err, position, slice_get}
use Rattle.std.specs.Option.{option_map, option_map_or, option_and_then}
use Rattle.event_costs.specs.declared.numbers.ThreadNo.{ThreadNo}
use Rattle.guest_load.specs.declared.thread.Thread.{Thread}
use Rattle.guest_sys.specs.Kernel.{Kernel}
use Rattle.guest_sys.specs.Common.{answers, argument, does, enomem, error_of, number, quiet_effect, refuses, with_waits}
use Rattle.guest_sys.specs.Simple.{on_stream}
use Rattle.guest_sys.specs.Streams.{read, write}
use Rattle.guest_sys.specs.Vectors.{readv, writev}
use Rattle.guest_sys.specs.Pages.{brk, munmap, mmap, mprotect}
use Rattle.guest_sys.specs.Threads.{exit, set_tid_address, clone}
use Rattle.guest_sys.specs.Futexes.{futex}
use Rattle.guest_sys.specs.Signals.{kill, tkill, tgkill}
use Rattle.guest_sys.specs.Clock.{clock_gettime, getrandom}
use Rattle.guest_sys.specs.Table.{row_at}
use Rattle.guest_sys.specs.declared.caller.Caller.{Caller}
use Rattle.guest_sys.specs.declared.effect.Act.TheVariants as act
use Rattle.guest_sys.specs.declared.effect.Effect.{Effect}
use Rattle.guest_sys.specs.declared.effect.SysEnd.{SysEnd}
use Rattle.guest_sys.specs.declared.effect.SysEnd.TheVariants.{Unsupported, OutOfMemory}
use Rattle.guest_sys.specs.declared.table.Row.{Row}
use Rattle.guest_sys.specs.declared.table.Row.TheVariants as row

-- What each row does. No stream is a terminal (ENOTTY 25) or has a place to go to (ESPIPE 29), and each stays open; there
-- are no files (ENOENT 2) and no newer clone (ENOSYS 38); the process is 1, and its user 0. Its end changes nothing.
abbrev pub row_does : Row → Kernel → Caller → Option (Effect × Kernel)
row_does row.Ioctl s c = with_waits s.waits (answers s.guest c (on_stream c (error_of 25)))
row_does row.Absent s c = with_waits s.waits (refuses s.guest c 2)
row_does row.Close s c = with_waits s.waits (answers s.guest c (on_stream c 0))
row_does row.Llseek s c = with_waits s.waits (answers s.guest c (on_stream c (error_of 29)))
row_does row.Read s c = with_waits s.waits (read s.guest c)
row_does row.Write s c = with_waits s.waits (write s.guest c)
row_does row.Readv s c = with_waits s.waits (readv s.guest c)
row_does row.Writev s c = with_waits s.waits (writev s.guest c)
row_does row.Exit s c = exit s c
row_does row.ExitGroup s c = with_waits s.waits (Some (quiet_effect (act.ProcessEnd (argument 0 c % 256)), s.guest))
row_does row.SetTidAddress s c = with_waits s.waits (set_tid_address s.guest c)
row_does row.Futex s c = futex s c
row_does row.Accepted s c = with_waits s.waits (answers s.guest c 0)
row_does row.SchedYield s c = with_waits s.waits (does s.guest c act.Yield 0)
row_does row.Kill s c = with_waits s.waits (kill s.guest c)
row_does row.Tkill s c = with_waits s.waits (tkill s.guest c)
row_does row.Tgkill s c = with_waits s.waits (tgkill s.guest c)
row_does row.Process s c = with_waits s.waits (answers s.guest c 1)
row_does row.ThreadNumber s c = with_waits s.waits (answers s.guest c c.thread.no.0)
row_does row.Brk s c = with_waits s.waits (brk s.guest c)
row_does row.Munmap s c = with_waits s.waits (munmap s.guest c)
row_does row.Mremap s c = with_waits s.waits (refuses s.guest c enomem)
row_does row.Clone s c = with_waits s.waits (clone s.guest c)
row_does row.Mmap s c = with_waits s.waits (mmap s.guest c)
row_does row.Mprotect s c = with_waits s.waits (mprotect s.guest c)
row_does row.Getrandom s c = with_waits s.waits (getrandom s.guest c)
row_does row.ClockGettime s c = with_waits s.waits (clock_gettime s.guest c)
row_does row.Clone3 s c = with_waits s.waits (refuses s.guest c 38)

-- the thread of a number, with its place among the live ones
abbrev pub caller_at : List Thread → ℕ → Option Caller
caller_at threads place = option_map (λ t. record { place = place; thread = t }) (slice_get threads place)

unfoldable pub caller_of : ThreadNo → List Thread → Option Caller
caller_of thread threads = option_and_then (caller_at threads) (position (λ t. t.no.0 == thread.0) threads)

-- what the call of a caller does and the kernel after it; else the number of the call, which is unsupported
unfoldable pub row_for : Kernel → Caller → Result (Effect × Kernel) ℕ
row_for s c = option_map_or Ok (option_and_then (λ r. row_does r s c) (row_at (number c))) (Err (number c))

-- the row of the call that a live thread makes: its registers and the kernel say all
unfoldable pub call_row : Kernel → ThreadNo → Result (Effect × Kernel) ℕ
call_row s thread = option_map_or (row_for s) (caller_of thread s.guest.threads) (Err 0)

-- What a call answers and leaves is its row's; or it found no memory, and all is as before.
abbrev pub Calls : Result (Effect × Kernel) ℕ → Kernel → Result Effect SysEnd → Kernel → Type 0
Calls step old (Ok effect) new = step ≡ Ok (effect, new)
Calls step old (Err (Unsupported n)) new = (step ≡ Err n) × (new ≡ old)
Calls step old (Err (OutOfMemory _)) new = new ≡ old
