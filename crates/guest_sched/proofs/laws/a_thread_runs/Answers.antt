use Rattle.guest_sched.proofs.OrderLemmas.{holds_reached, one_runs}
use Rattle.guest_sched.proofs.laws.a_thread_runs.Goals as goal

pub returns : goal.returns
returns c guest quantum seed earlier m reached over =
    one_runs guest earlier m (holds_reached guest quantum seed earlier m reached) over
