use Rattle.run_laws.proofs.CostLemmas.{groups_are}
use Rattle.run_laws.proofs.costs.groups_of_a_run_are_those_of_its_profile.Goals as goal

pub returns : goal.returns
returns c = λ guest past p f g can makes is. groups_are guest can past makes p is f g
