use Rattle.guest_sched.proofs.OrderLemmas.{holds_next, holds_reached}
use Rattle.guest_sched.proofs.laws.steps_are_in_order.Goals as goal

pub returns : goal.returns
returns c guest quantum seed earlier m x n reached is =
    (holds_next guest earlier m x n (holds_reached guest quantum seed earlier m reached) is).1
