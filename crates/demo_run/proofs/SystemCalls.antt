-- The system calls of the demonstration, and what they leave.
use Rattle.std.specs.Prelude.{◌≡◌, ℕ, ◌+◌, ◌*◌, ◌%◌, ◌^◌, List, [], ◌∷◌, ◌++◌, remove, slice_set, Some, None, Result}
use Rattle.event_costs.specs.declared.numbers.ThreadNo.{ThreadNo}
use Rattle.event_costs.specs.declared.outcome.End.{End}
use Rattle.guest_mem.specs.Memory.{store_at, bytes_of}
use Rattle.rv_step.specs.Code.{instruction_at}
use Rattle.guest_load.specs.Guest.{Guest}
use Rattle.guest_load.specs.declared.thread.Thread.{Thread}
use Rattle.guest_futex.specs.Waits.{without_woken}
use Rattle.guest_sys.specs.Kernel.{Kernel, kernel_of}
use Rattle.guest_sys.specs.CallRow.{caller_of}
use Rattle.guest_sys.specs.Laws.{spawned_by}
use Rattle.guest_sys.specs.declared.caller.Caller.{Caller}
use Rattle.guest_sys.specs.declared.effect.Act.{Act}
use Rattle.guest_sched.specs.Engine.{Engine, engine_after_step, runner}
use Rattle.guest_sched.specs.Step.{MachineStep, call_done, ends_thread, event_of, fate_of, tells, wait_of, with_call}
use Rattle.demo_make.specs.Instructions.{ecall}
use Rattle.demo_run.proofs.Places.{Registers, cloning, listed, word_of}

-- a thread with its place among the live ones
abbrev pub thread_with : ThreadNo → ℕ → Registers → ℕ → Thread
thread_with who pc r clear = record { no = who; regs = record { pc = pc; x = listed r }; clear = clear }

abbrev pub caller : ℕ → ThreadNo → ℕ → Registers → ℕ → Caller
caller place who pc r clear = record { place = place; thread = thread_with who pc r clear }

-- it runs, and stands at a system call
pub record IsCalling (w : Engine) (c : Caller) : Type 0 where
  pub goes_on : w.exit ≡ None
  pub runs : runner w ≡ Some c
  pub found : caller_of c.thread.no w.kernel.guest.threads ≡ Some c
  pub call : instruction_at w.kernel.guest.mem c.thread.regs.pc ≡ Some ecall

-- what the step of a call tells, which does this, wakes these and leaves this kernel
abbrev pub calls : Engine → Caller → Act → List ThreadNo → Kernel → Result (MachineStep × Engine) End
calls w c act woken s =
    tells (event_of c.thread.no (call_done c.thread.regs) (ends_thread act)) None (wait_of act) woken
    (engine_after_step (fate_of act) (woken ++ spawned_by act) (with_call w act s))

-- the guest once the thread t was made: its number stands in its word, and is the caller's answer
abbrev pub after_clone : ℕ → Guest → ℕ → ThreadNo → ℕ → Registers → ℕ → Guest
after_clone t g place who pc r clear = record g {
  mem = store_at g.mem (word_of (t + 1)) (bytes_of 4 (g.made + 1));
  threads = slice_set (g.threads ++ thread_with (record { 0 = g.made + 1 }) ((pc + 4) % 2 ^ 32)
      (record (cloning t r) { sp = 0x28000 + 0x4000 * t; tp = 0; a0 = 0 })
      (word_of (t + 1)) ∷ []) place
      (thread_with who ((pc + 4) % 2 ^ 32) (record (cloning t r) { a0 = g.made + 1 }) clear);
  made = g.made + 1;
}

-- the guest once a call was answered
abbrev pub answered : Guest → ℕ → ThreadNo → ℕ → Registers → ℕ → ℕ → Guest
answered g place who pc r clear answer = record g {
  threads = slice_set g.threads place (thread_with who ((pc + 4) % 2 ^ 32) (record r { a0 = answer }) clear);
}

-- the kernel once a thread with this word has ended
abbrev pub after_exit : Kernel → ℕ → ℕ → Kernel
after_exit s place word =
    kernel_of (record s.guest {
      mem = store_at s.guest.mem word (bytes_of 4 0);
      threads =
          remove s.guest.threads place;
    })
    (without_woken word 1 s.waits)
