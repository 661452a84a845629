-- futex(addr, op, val, a3, addr2, val3): waiting at words of memory.
use Rattle.std.specs.Prelude.{ℕ, ◌%◌, ◌==◌, ◌&&◌, Bool, bit_and, length, if◌then◌else◌, List, Option, Some, None}
use Rattle.std.specs.Option.{option_and_then}
use Rattle.guest_mem.specs.Memory.{load_at}
use Rattle.guest_futex.specs.declared.queue.Wait.{Wait as WaitingThread}
use Rattle.guest_futex.specs.Waits.{enqueue, woken_at, without_woken, requeue_at}
use Rattle.guest_sys.specs.Kernel.{Kernel, kernel_of}
use Rattle.guest_sys.specs.Common.{argument, settle, quiet_effect, refuses, with_waits, eagain, efault, einval}
use Rattle.guest_sys.specs.declared.caller.Caller.{Caller}
use Rattle.guest_sys.specs.declared.effect.Act.TheVariants as act
use Rattle.guest_sys.specs.declared.effect.Effect.{Effect}
use Rattle.guest_sys.specs.declared.futexes.Operation.{Operation}
use Rattle.guest_sys.specs.declared.futexes.Operation.TheVariants.{Wait, Wake, Requeue}

-- op without the flags private (128) and realtime clock (256)
abbrev pub operation_number : Caller → ℕ
operation_number c = bit_and (argument 1 c) 0xffff_fe7f

abbrev pub when : Bool → Operation → Option Operation
when holds op = if holds then Some op else None

-- WAIT, WAKE, REQUEUE, WAIT_BITSET and WAKE_BITSET: a wait has no timeout, and a bitset has to name every bit
abbrev pub operation_of : Caller → Option Operation
operation_of c =
    if operation_number c == 0 then when (argument 3 c == 0) Wait
    else if operation_number c == 1 then Some Wake
    else if operation_number c == 3 then Some Requeue
    else if operation_number c == 9 then when ((argument 3 c == 0) && (argument 5 c == 0xffff_ffff)) Wait
    else if operation_number c == 10 then when (argument 5 c == 0xffff_ffff) Wake
    else None

abbrev pub refuses_wait : Kernel → Caller → ℕ → Option (Effect × Kernel)
refuses_wait s c errno = with_waits s.waits (refuses s.guest c errno)

-- the caller waits at the word, and its answer is 0 once it is woken
abbrev pub begins_wait : Kernel → Caller → Option (Effect × Kernel)
begins_wait s c =
    Some (quiet_effect (act.Wait (argument 0 c)), kernel_of (settle s.guest c 0) (enqueue c.thread.no (argument 0 c) s.waits))

-- a wait looks at the word first
abbrev pub waits_on : Kernel → Caller → Option ℕ → Option (Effect × Kernel)
waits_on s c None = refuses_wait s c efault
waits_on s c (Some word) = if word == argument 2 c then begins_wait s c else refuses_wait s c eagain

-- the first val waiters are woken, or all, and their number is answered; so those wait that are left
abbrev pub wakes : Kernel → Caller → List WaitingThread → Option (Effect × Kernel)
wakes s c left =
    let threads = woken_at (argument 0 c) (argument 2 c) s.waits in
    Some (record { act = act.Answer; woken = threads }, kernel_of (settle s.guest c (length threads)) left)

abbrev pub is_word : ℕ → Bool
is_word a = a % 4 == 0

abbrev pub on_words : Operation → Caller → Bool
on_words Requeue c = is_word (argument 0 c) && is_word (argument 4 c)
on_words _ c = is_word (argument 0 c)

-- a requeue also moves the first a3 of the rest to addr2
abbrev pub performs : Operation → Kernel → Caller → Option (Effect × Kernel)
performs Wait s c = waits_on s c (load_at s.guest.mem 1 (argument 0 c) 4)
performs Wake s c = wakes s c (without_woken (argument 0 c) (argument 2 c) s.waits)
performs Requeue s c =
    wakes s c (requeue_at (argument 0 c) (argument 3 c) (argument 4 c)
    (without_woken (argument 0 c) (argument 2 c) s.waits))

unfoldable pub futex : Kernel → Caller → Option (Effect × Kernel)
futex s c =
    option_and_then (λ op. if on_words op c then performs op s c else refuses_wait s c einval) (operation_of c)
