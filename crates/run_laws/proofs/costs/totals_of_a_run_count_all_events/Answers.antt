use Rattle.run_laws.proofs.CostLemmas.{total_is}
use Rattle.run_laws.proofs.costs.totals_of_a_run_count_all_events.Goals as goal

pub returns : goal.returns
returns c = λ guest past p kind can makes is. total_is guest can past makes p is kind
