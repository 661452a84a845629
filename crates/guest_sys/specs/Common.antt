-- What system calls have in common: their arguments, their answers, and what they leave of the caller.
use Rattle.std.specs.Prelude.{◌≡◌, ℕ, ◌+◌, ◌-◌, ◌%◌, ◌^◌, Bool, if◌then◌else◌, List, [], Option, Some, Result, Ok, Err}
use Rattle.std.specs.Prelude.{slice_get, slice_index, slice_set}
use Rattle.std.specs.Option.{option_map}
use Rattle.guest_load.specs.declared.thread.Thread.{Thread}
use Rattle.guest_load.specs.Guest.{Guest}
use Rattle.guest_futex.specs.declared.queue.Wait.{Wait}
use Rattle.guest_sys.specs.Kernel.{Kernel, kernel_of}
use Rattle.guest_sys.specs.declared.caller.Caller.{Caller}
use Rattle.guest_sys.specs.declared.effect.Act.{Act}
use Rattle.guest_sys.specs.declared.effect.Act.TheVariants as act
use Rattle.guest_sys.specs.declared.effect.Effect.{Effect}
use Rattle.guest_sys.specs.declared.effect.SysEnd.{SysEnd}
use Rattle.guest_sys.specs.declared.effect.SysEnd.TheVariants.{Unsupported, OutOfMemory}

-- the number of the call is in a7, its arguments are in a0 to a5
abbrev pub number : Caller → ℕ
number c = slice_index c.thread.regs.x 17

abbrev pub argument : ℕ → Caller → ℕ
argument k c = slice_index c.thread.regs.x (10 + k)

-- the caller stands at its place among the live threads
abbrev pub IsCaller : Guest → Caller → Type 0
IsCaller g c = slice_get g.threads c.place ≡ Some c.thread

-- the thread once its call is answered: the answer is in a0, and the thread stands at the next instruction
abbrev pub resume : Thread → ℕ → Thread
resume t value = record t { regs = record { pc = (t.regs.pc + 4) % 2 ^ 32; x = slice_set t.regs.x 10 value } }

-- the guest with the caller as it is now
abbrev pub with_caller : Guest → Caller → Thread → Guest
with_caller g c t = record g { threads = slice_set g.threads c.place t }

abbrev pub settle : Guest → Caller → ℕ → Guest
settle g c value = with_caller g c (resume c.thread value)

-- an effect that wakes nobody
abbrev pub quiet_effect : Act → Effect
quiet_effect a = record { act = a; woken = [] }

-- What a row gives: the effect and the guest after it, or nothing where the row doesn't name the arguments.

-- the call does this, and the caller goes on with the value
abbrev pub does : Guest → Caller → Act → ℕ → Option (Effect × Guest)
does g c a value = Some (quiet_effect a, settle g c value)

abbrev pub answers : Guest → Caller → ℕ → Option (Effect × Guest)
answers g c value = does g c act.Answer value

-- an error is answered as its negative, in two's complement
abbrev pub error_of : ℕ → ℕ
error_of errno = 2 ^ 32 - errno

abbrev pub refuses : Guest → Caller → ℕ → Option (Effect × Guest)
refuses g c errno = answers g c (error_of errno)

-- a row where what it needs holds, and else an error
abbrev pub needs : Bool → ℕ → Guest → Caller → Option (Effect × Guest) → Option (Effect × Guest)
needs holds errno g c row = if holds then row else refuses g c errno

-- the same over the whole kernel, where those that wait stay as they are
abbrev pub with_waits : List Wait → Option (Effect × Guest) → Option (Effect × Kernel)
with_waits waits row = option_map (λ p. (p.0, kernel_of p.1 waits)) row

-- what holds where a call found no memory
abbrev pub WhereRefused : Result Effect SysEnd → Type 0 → Type 0
WhereRefused (Ok effect) takes = Unit {0}
WhereRefused (Err (Unsupported n)) takes = Unit {0}
WhereRefused (Err (OutOfMemory _)) takes = takes

-- ---- errors, by their numbers

abbrev pub ebadf : ℕ
ebadf = 9

abbrev pub eagain : ℕ
eagain = 11

abbrev pub enomem : ℕ
enomem = 12

abbrev pub efault : ℕ
efault = 14

abbrev pub einval : ℕ
einval = 22
