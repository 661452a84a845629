use Rattle.once_each.proofs.Others.{event_cost-ones}
use Rattle.once_each.proofs.TakenLemmas.{cost_whole}
use Rattle.once_each.proofs.runs.costs_are_zeros_and_ones.Goals as goal

pub returns-clause-whole : goal.returns-clause-whole
returns-clause-whole c = cost_whole

pub returns-clause-ones : goal.returns-clause-ones
returns-clause-ones c = event_cost-ones
