-- A system call of the demonstration, by its row.
use Rattle.std.proofs.Common.{◌≡◌, ◌≢◌, ℕ, ◌+◌, ◌-◌, ◌*◌, ◌%◌, ◌^◌, ◌<◌, true, false, [], length, refl, ap, ◌∙◌, arith}
use Rattle.std.proofs.Common.{Some}
use Rattle.std.specs.Prelude.{◌==◌, nat_le, ◌||◌, Err, None, Option}
use Rattle.std.specs.Option.{option_map_or}
use Rattle.std.proofs.lemmas.Bool.Decides.{nat_tests}
use Rattle.event_costs.specs.declared.numbers.ThreadNo.{ThreadNo}
use Rattle.rv_step.specs.Effects.{effect_of}
use Rattle.rv_step.specs.Forms.{Outcome}
use Rattle.demo_run.proofs.Others.{step-found}
use Rattle.guest_mem.specs.Memory.{load_at, may}
use Rattle.guest_futex.specs.Waits.{enqueue, woken_at}
use Rattle.guest_sys.specs.Kernel.{kernel_of}
use Rattle.guest_sys.specs.CallRow.{call_row, row_for}
use Rattle.guest_sys.specs.Futexes.{futex}
use Rattle.guest_sys.specs.Table.{row_at}
use Rattle.guest_sys.specs.Threads.{clone, exit}
use Rattle.guest_sys.specs.declared.caller.Caller.{Caller}
use Rattle.guest_sys.specs.declared.effect.Act.TheVariants as act
use Rattle.guest_sched.specs.Engine.{Engine, runner}
use Rattle.guest_sched.specs.Step.{by_answer, by_row, call_step, hart_of, step, step_at}
use Rattle.demo_make.specs.Instructions.{ecall}
use Rattle.demo_run.proofs.Places.{Registers, cloning, ending, looking, waiting, word_of}
use Rattle.demo_run.proofs.SystemCalls.{IsCalling, after_clone, after_exit, answered, caller, calls}

-- the step is what the row gives
called : (w : Engine) (c : Caller) → IsCalling w c → step w ≡ by_row w c (row_for w.kernel c)
unfolding step call_step call_row effect_of
called w c is =
    ap (λ o. step_at w o (runner w)) is.goes_on
    ∙ ap (step_at w None) is.runs
    ∙ ap (λ (o : Outcome). by_answer w c o.stepped o.after) (step-found (hart_of w c) ecall is.call)
    ∙ ap (λ (o : Option Caller). by_row w c (option_map_or (row_for w.kernel) o (Err 0))) is.found

pub cloned : (w : Engine) (t place pc clear : ℕ) (who : ThreadNo) (r : Registers)
    → IsCalling w (caller place who pc (cloning t r) clear)
    → length w.kernel.guest.threads < 1024 → w.kernel.guest.made < 65535 → may w.kernel.guest.mem 2 (word_of (t + 1)) 4
    ≡ true
    → step w ≡ calls w (caller place who pc (cloning t r) clear) (act.Spawn (record { 0 = w.kernel.guest.made + 1 })) []
    (kernel_of (after_clone t w.kernel.guest place who pc r clear) w.kernel.waits)
unfolding row_for row_at clone
cloned w t place pc clear who r is few made ok =
    let open_yet : (nat_le 1024 (length w.kernel.guest.threads) || nat_le 65535 w.kernel.guest.made) ≡ false =
    grind (arith, nat_tests) in
    let stack : (0x28000 + 0x4000 * t == 0) ≡ false = grind (arith, nat_tests) in
    called w (caller place who pc (cloning t r) clear) is ∙ rw (open_yet, ok, stack) refl

word_there : (t : ℕ) → (word_of (t + 1) % 4 == 0) ≡ true
word_there t = grind (arith, nat_tests)

pub waited : (w : Engine) (t place pc clear : ℕ) (who : ThreadNo) (r : Registers)
    → IsCalling w (caller place who pc (waiting (looking t r)) clear)
    → load_at w.kernel.guest.mem 1 (word_of (t + 1)) 4 ≡ Some r.a2
    → step w ≡ calls w (caller place who pc (waiting (looking t r)) clear) (act.Wait (word_of (t + 1))) []
    (kernel_of (answered w.kernel.guest place who pc (waiting (looking t r)) clear 0)
    (enqueue who (word_of (t + 1)) w.kernel.waits))
unfolding row_for row_at futex
waited w t place pc clear who r is same =
    let equal : (r.a2 == r.a2) ≡ true = grind (arith, nat_tests) in
    called w (caller place who pc (waiting (looking t r)) clear) is ∙ rw (word_there t, same, equal) refl

pub again : (w : Engine) (t place pc clear word : ℕ) (who : ThreadNo) (r : Registers)
    → IsCalling w (caller place who pc (waiting (looking t r)) clear)
    → load_at w.kernel.guest.mem 1 (word_of (t + 1)) 4 ≡ Some word → word ≢ r.a2
    → step w ≡ calls w (caller place who pc (waiting (looking t r)) clear) act.Answer []
    (kernel_of (answered w.kernel.guest place who pc (waiting (looking t r)) clear (2 ^ 32 - 11)) w.kernel.waits)
unfolding row_for row_at futex
again w t place pc clear word who r is there other =
    let unequal : (word == r.a2) ≡ false = grind (arith, nat_tests) in
    called w (caller place who pc (waiting (looking t r)) clear) is ∙ rw (word_there t, there, unequal) refl

pub exited : (w : Engine) (t place pc : ℕ) (who : ThreadNo) (r : Registers)
    → IsCalling w (caller place who pc (ending 93 r) (word_of (t + 1)))
    → length w.kernel.guest.threads ≢ 1 → may w.kernel.guest.mem 2 (word_of (t + 1)) 4 ≡ true
    → step w ≡ calls w (caller place who pc (ending 93 r) (word_of (t + 1))) act.ThreadEnd
    (woken_at (word_of (t + 1)) 1 w.kernel.waits) (after_exit w.kernel place (word_of (t + 1)))
unfolding row_for row_at exit
exited w t place pc who r is others ok =
    let some : (word_of (t + 1) == 0) ≡ false = grind (arith, nat_tests) in
    let more : (length w.kernel.guest.threads == 1) ≡ false = grind (arith, nat_tests) in
    called w (caller place who pc (ending 93 r) (word_of (t + 1))) is ∙ rw (some, word_there t, ok, more) refl

pub ended : (w : Engine) (place pc clear : ℕ) (who : ThreadNo) (r : Registers)
    → IsCalling w (caller place who pc (ending 94 r) clear)
    → step w ≡ calls w (caller place who pc (ending 94 r) clear) (act.ProcessEnd 0) [] w.kernel
unfolding row_for row_at
ended w place pc clear who r is = called w (caller place who pc (ending 94 r) clear) is
