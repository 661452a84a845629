use Rattle.std.proofs.Common.{◌≤◌, sym, subst}
use Rattle.guest_futex.specs.Waits.{times_waiting}
use Rattle.guest_sched.proofs.TurnLemmas.{times_live-numbers}
use Rattle.guest_sched.proofs.engine.execute_in.Goals as goal

pub invariant_of-kernel : goal.invariant_of-kernel
invariant_of-kernel c =
    λ thread. subst (λ n. times_waiting thread c.kernel.inside.waiters.waits ≤ n)
    (sym (times_live-numbers thread _ _ c.execute.ensures.numbers)) (c.kernel.invariant thread)
