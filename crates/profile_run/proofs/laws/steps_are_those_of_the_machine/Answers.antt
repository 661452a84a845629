use Rattle.profile_run.proofs.MachineLemmas.{of_machine}
use Rattle.profile_run.proofs.laws.steps_are_those_of_the_machine.Goals as goal

pub returns : goal.returns
returns c = of_machine
