use Rattle.guest_sched.proofs.OrderLemmas.{goes_where, holds_reached}
use Rattle.guest_sched.proofs.laws.the_running_thread_steps.Goals as goal

pub returns : goal.returns
returns c guest quantum seed earlier m x n thread pc reached runs is =
    goes_where guest earlier m thread pc x n (holds_reached guest quantum seed earlier m reached) runs is
