use Rattle.once_each.proofs.RunLemmas.{machine_goes_on}
use Rattle.once_each.proofs.runs.events_of_a_machine_go_on.Goals as goal

pub returns : goal.returns
returns c = machine_goes_on
