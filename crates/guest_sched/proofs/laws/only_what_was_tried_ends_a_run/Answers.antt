use Rattle.guest_sched.proofs.OrderLemmas.{holds_reached, tried_end}
use Rattle.guest_sched.proofs.laws.only_what_was_tried_ends_a_run.Goals as goal

pub returns : goal.returns
returns c guest quantum seed earlier m end reached over is =
    tried_end guest earlier m end (holds_reached guest quantum seed earlier m reached) over is
