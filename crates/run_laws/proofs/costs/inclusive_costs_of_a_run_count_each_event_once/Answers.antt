use Rattle.run_laws.proofs.CostLemmas.{function_is, group_is, inclusive_is}
use Rattle.run_laws.proofs.costs.inclusive_costs_of_a_run_count_each_event_once.Goals as goal

pub returns-clause-groups : goal.returns-clause-groups
returns-clause-groups c = λ guest past p groups costs can makes is. inclusive_is guest can past makes p is groups costs

pub returns-clause-profile : goal.returns-clause-profile
returns-clause-profile c = λ guest past p member kind can makes is. group_is guest can past makes p is member kind

pub returns-clause-function : goal.returns-clause-function
returns-clause-function c =
    λ guest past p group member func kind can makes is.
    function_is guest can past makes p is group member func kind
