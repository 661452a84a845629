use Rattle.profile_run.specs.Trace.{steps_of}
use Rattle.run_laws.proofs.EventLemmas.{have_stacks}
use Rattle.run_laws.proofs.OwnRowLemmas.{own_last}
use Rattle.run_laws.proofs.own_rows.rows_of_a_thread_are_of_its_own_events.Goals as goal

pub returns : goal.returns
returns c = λ guest past earlier segment later thread can makes cut.
    own_last guest.syms thread (steps_of past) earlier segment later (have_stacks guest can past makes) cut
