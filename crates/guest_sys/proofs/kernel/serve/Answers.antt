use Rattle.std.proofs.Common.{◌≡◌, ◌≤◌, Err, refl, ap, sym, subst, ◌∙◌, arith}
use Rattle.event_costs.specs.declared.numbers.ThreadNo.{ThreadNo}
use Rattle.guest_futex.specs.Waits.{times_waiting}
use Rattle.guest_sys.specs.declared.effect.SysEnd.{SysEnd}
use Rattle.guest_sys.specs.Kernel.{kernel_of, times_live}
use Rattle.guest_sys.specs.Common.{WhereRefused, number}
use Rattle.guest_sys.specs.Table.{row_at}
use Rattle.guest_sys.specs.CallRow.{Calls, call_row, caller_of}
use Rattle.guest_sys.specs.Taking.{CallTakes}
use Rattle.guest_sys.specs.Laws.{IsBalanced}
use Rattle.std.specs.Prelude.{IfOk}
use Rattle.guest_sys.proofs.KeptLemmas.{calls_given, calls_none, kept_balanced, kept_given, kept_killed, lives_given}
use Rattle.guest_sys.proofs.KeptLemmas.{takes_given}
use Rattle.guest_sys.proofs.LiveLemmas.{fewer_wait}
use Rattle.guest_sys.proofs.kernel.serve.Goals as goal

pub apply-requires-clause-few : goal.apply-requires-clause-few
apply-requires-clause-few c =
    omega (
      arith,
      c.live_caller-caller.ensures.few,
      fewer_wait c.args.thread c.args.guest.now.threads c.args.waiters.now.waits c.requires.lives c.requires.runs
          c.requires.live,
    )

pub returns-in-Some-clause-row : goal.returns-in-Some-clause-row
returns-in-Some-clause-row c =
    calls_given c.in-Some.row
    (kernel_of c.args.guest.now c.args.waiters.now.waits) c.args.thread c.live_caller-caller.result c.apply.result
    (kernel_of c.apply.new.guest c.apply.new.waiters.waits)
    c.live_caller-caller.ensures.found
    (ap row_at (sym c.number.ensures) ∙ sym c.row_of.ensures ∙ c.in-Some.is) c.apply.ensures

pub returns-in-Some-clause-memory : goal.returns-in-Some-clause-memory
returns-in-Some-clause-memory c =
    takes_given c.in-Some.row
    (kernel_of c.args.guest.now c.args.waiters.now.waits) c.args.thread c.live_caller-caller.result c.apply.result
    (kernel_of c.apply.new.guest c.apply.new.waiters.waits)
    c.live_caller-caller.ensures.found
    (ap row_at (sym c.number.ensures) ∙ sym c.row_of.ensures ∙ c.in-Some.is) c.apply.ensures

pub returns-in-Some-clause-killed : goal.returns-in-Some-clause-killed
returns-in-Some-clause-killed c =
    kept_killed c.live_caller-caller.result.thread.no (kernel_of c.args.guest.now c.args.waiters.now.waits) c.apply.result
    (kernel_of c.apply.new.guest c.apply.new.waiters.waits)
    (kept_given c.in-Some.row (kernel_of c.args.guest.now c.args.waiters.now.waits) c.live_caller-caller.result
    (number c.live_caller-caller.result) c.apply.result
    (kernel_of c.apply.new.guest c.apply.new.waiters.waits) c.live_caller-caller.ensures.caller c.apply.ensures)

pub returns-in-Some-clause-balance : goal.returns-in-Some-clause-balance
returns-in-Some-clause-balance c =
    subst (λ (t : ThreadNo). IfOk c.apply.result
    (λ e. IsBalanced t (kernel_of c.args.guest.now c.args.waiters.now.waits) e
    (kernel_of c.apply.new.guest c.apply.new.waiters.waits)))
    c.live_caller-caller.ensures.number
    (kept_balanced c.live_caller-caller.result.thread.no (kernel_of c.args.guest.now c.args.waiters.now.waits) c.apply.result
    (kernel_of c.apply.new.guest c.apply.new.waiters.waits)
    (kept_given c.in-Some.row (kernel_of c.args.guest.now c.args.waiters.now.waits) c.live_caller-caller.result
    (number c.live_caller-caller.result) c.apply.result
    (kernel_of c.apply.new.guest c.apply.new.waiters.waits) c.live_caller-caller.ensures.caller c.apply.ensures))

pub returns-in-Some-clause-lives : goal.returns-in-Some-clause-lives
returns-in-Some-clause-lives c =
    lives_given c.in-Some.row (kernel_of c.args.guest.now c.args.waiters.now.waits) c.live_caller-caller.result
    (number c.live_caller-caller.result) c.apply.result
    (kernel_of c.apply.new.guest c.apply.new.waiters.waits) c.live_caller-caller.ensures.caller c.apply.ensures
    c.requires.lives
    (subst (λ (t : ThreadNo). times_waiting t c.args.waiters.now.waits ≡ 0)
    (sym c.live_caller-caller.ensures.number) c.requires.runs)
    (subst (λ (t : ThreadNo). 1 ≤ times_live t c.args.guest.now.threads)
    (sym c.live_caller-caller.ensures.number) c.requires.live)

pub returns-in-None-clause-memory : goal.returns-in-None-clause-memory
returns-in-None-clause-memory c =
    subst (λ (e : SysEnd). WhereRefused (Err e) (CallTakes (kernel_of c.args.guest.now c.args.waiters.now.waits)
    (caller_of c.args.thread c.args.guest.now.threads))) (sym c.unsupported.ensures) (tt {0})

pub returns-in-None-clause-row : goal.returns-in-None-clause-row
returns-in-None-clause-row c =
    subst (λ (e : SysEnd). Calls (call_row (kernel_of c.args.guest.now c.args.waiters.now.waits) c.args.thread)
    (kernel_of c.args.guest.now c.args.waiters.now.waits) (Err e) (kernel_of c.args.guest.now c.args.waiters.now.waits))
    (sym c.unsupported.ensures) (
      calls_none
          (kernel_of c.args.guest.now c.args.waiters.now.waits) c.args.thread c.live_caller-caller.result
          c.live_caller-caller.ensures.found
          (ap row_at (sym c.number.ensures) ∙ sym c.row_of.ensures ∙ c.in-None.is),
      refl,
    )
