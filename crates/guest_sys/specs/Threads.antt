-- The beginning and the end of threads.
use Rattle.std.specs.Prelude.{ℕ, ◌+◌, ◌%◌, ◌==◌, ◌&&◌, ◌||◌, Bool, not, nat_le, bit_and, bit_or, List, [], ◌∷◌, ◌++◌}
use Rattle.std.specs.Prelude.{length, remove, slice_set, if◌then◌else◌, Option, Some, None}
use Rattle.guest_mem.specs.Memory.{Memory, may, store_at, bytes_of}
use Rattle.guest_load.specs.Lawful.{most_live, most_made}
use Rattle.guest_load.specs.Guest.{Guest}
use Rattle.guest_load.specs.declared.thread.Thread.{Thread}
use Rattle.guest_futex.specs.Waits.{woken_at, without_woken}
use Rattle.guest_sys.specs.Kernel.{Kernel, kernel_of}
use Rattle.guest_sys.specs.Common.{argument, resume, with_caller, settle, quiet_effect, refuses, eagain, efault, needs}
use Rattle.guest_sys.specs.declared.caller.Caller.{Caller}
use Rattle.guest_sys.specs.declared.effect.Act.{Act}
use Rattle.guest_sys.specs.declared.effect.Act.TheVariants as act
use Rattle.guest_sys.specs.declared.effect.Effect.{Effect}

-- ---- ends

-- whether the word at a clear address is cleared when the thread ends
abbrev pub is_cleared : Memory → ℕ → Bool
is_cleared m a = not (a == 0) && (a % 4 == 0) && may m 2 a 4

-- the last live thread ends the process
abbrev pub end_act : Guest → Caller → Act
end_act g c = if length g.threads == 1 then act.ProcessEnd (argument 0 c % 256) else act.ThreadEnd

abbrev pub without_caller : Guest → Caller → Memory → Guest
without_caller g c mem = record g { mem = mem; threads = remove g.threads c.place }

-- exit(code): the thread is gone. Where it has a clear address, the word there is 0 and its first waiter is woken
unfoldable pub exit : Kernel → Caller → Option (Effect × Kernel)
exit s c =
    if is_cleared s.guest.mem c.thread.clear
    then Some (
      record { act = end_act s.guest c; woken = woken_at c.thread.clear 1 s.waits },
      kernel_of (without_caller s.guest c (store_at s.guest.mem c.thread.clear (bytes_of 4 0)))
          (without_woken c.thread.clear 1 s.waits),
    )
    else Some (quiet_effect (end_act s.guest c), kernel_of (without_caller s.guest c s.guest.mem) s.waits)

-- set_tid_address(p): the clear address is p; the thread's number
abbrev pub set_tid_address : Guest → Caller → Option (Effect × Guest)
set_tid_address g c =
    Some (quiet_effect act.Answer, with_caller g c (record (resume c.thread c.thread.no.0) { clear = argument 0 c }))

-- ---- beginnings: clone(flags, stack, parent, tls, child)

-- every new thread needs the flags 0x1_0f00 (memory, files, handlers and the process are shared), and 0x17d_0f00 are all
-- that are known
abbrev pub is_thread : ℕ → Bool
is_thread flags = (bit_and flags 0x1_0f00 == 0x1_0f00) && (bit_or flags 0x17d_0f00 == 0x17d_0f00)

-- Of the flags 0x8_0000 sets the new thread's tls, 0x20_0000 its clear address, and 0x10_0000 and 0x100_0000 tell its
-- number to a word of the caller's and of its own.
abbrev pub has_flag : ℕ → Caller → Bool
has_flag flag c = bit_and (argument 0 c) flag == flag

-- no more threads: as many are live as may be, or as many were made
abbrev pub is_crowded : Guest → Bool
is_crowded g = nat_le most_live (length g.threads) || nat_le most_made g.made

-- a word that is told a number
abbrev pub may_tell : Bool → Memory → ℕ → Bool
may_tell tells m a = not tells || may m 2 a 4

abbrev pub with_number : Bool → ℕ → ℕ → Memory → Memory
with_number tells a value m = if tells then store_at m a (bytes_of 4 value) else m

abbrev pub may_tell_both : Guest → Caller → Bool
may_tell_both g c =
    may_tell (has_flag 0x10_0000 c) g.mem (argument 2 c) && may_tell (has_flag 0x100_0000 c) g.mem (argument 4 c)

-- the registers of the new thread: the caller's, with 0 as answer, its own stack pointer (x2) and tls (x4)
abbrev pub with_register : Bool → ℕ → ℕ → List ℕ → List ℕ
with_register sets k value x = if sets then slice_set x k value else x

abbrev pub new_thread : ℕ → Caller → Thread
new_thread value c =
    let regs = (resume c.thread 0).regs in
    let x = with_register (not (argument 1 c == 0)) 2 (argument 1 c) regs.x in record {
      no = record { 0 = value };
      regs = record regs { x = with_register (has_flag 0x8_0000 c) 4 (argument 3 c) x };
      clear = if has_flag 0x20_0000 c then argument 4 c else 0;
    }

-- the guest with one thread more; the parent's word is written before the child's
abbrev pub with_thread : Guest → Caller → ℕ → Guest
with_thread g c value = record g {
  mem = with_number (has_flag 0x100_0000 c) (argument 4 c) value
      (with_number (has_flag 0x10_0000 c) (argument 2 c) value g.mem);
  threads = g.threads ++ new_thread value c ∷ [];
  made = value;
}

abbrev pub clone_effect : Guest → Caller → ℕ → Option (Effect × Guest)
clone_effect g c value = Some (quiet_effect (act.Spawn (record { 0 = value })), settle (with_thread g c value) c value)

unfoldable pub clone : Guest → Caller → Option (Effect × Guest)
clone g c =
    if is_thread (argument 0 c)
    then (if is_crowded g then refuses g c eagain
    else needs (may_tell_both g c) efault g c (clone_effect g c (g.made + 1)))
    else None
