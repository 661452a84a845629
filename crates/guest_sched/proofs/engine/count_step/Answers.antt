use Rattle.std.proofs.Common.{◌≤◌, sym, subst}
use Rattle.guest_load.specs.Guest.{Guest}
use Rattle.guest_futex.specs.Waits.{times_waiting}
use Rattle.guest_sys.specs.Kernel.{times_live}
use Rattle.guest_sched.proofs.engine.count_step.Goals as goal

pub invariant_of-kernel : goal.invariant_of-kernel
invariant_of-kernel c =
    λ thread. subst (λ (g : Guest). times_waiting thread c.kernel.inside.waiters.waits ≤ times_live thread g.threads)
    (sym c.guest.view_is) (c.kernel.invariant thread)
