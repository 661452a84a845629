use Rattle.run_laws.proofs.CostLemmas.{pair_is}
use Rattle.run_laws.proofs.costs.pair_costs_of_a_run_count_each_event_once.Goals as goal

pub returns : goal.returns
returns c = λ guest past p groups caller callee kind can makes is.
    pair_is guest can past makes p is groups caller callee kind
