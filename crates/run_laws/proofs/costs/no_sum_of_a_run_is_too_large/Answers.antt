use Rattle.run_laws.proofs.CostLemmas.{none_over}
use Rattle.run_laws.proofs.costs.no_sum_of_a_run_is_too_large.Goals as goal

pub returns : goal.returns
returns c = λ guest past p can makes is. none_over guest can past makes p is
