use Rattle.std.proofs.Common.{ap, arith}
use Rattle.guest_futex.specs.Waits.{times_waiting}
use Rattle.guest_futex.proofs.WaitLaws.{times_waiting-forgotten}
use Rattle.cases_machine.proofs.kernel.stop_waiting.Goals as goal

pub invariant_of-kernel : goal.invariant_of-kernel
invariant_of-kernel c thread =
    omega (
      arith,
      c.kernel.invariant thread,
      ap (times_waiting thread) c.forget.ensures.forgotten,
      times_waiting-forgotten c.args.thread thread c.kernel.inside.waiters.waits,
    )
