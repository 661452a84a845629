use Rattle.report_laws.proofs.ContextLemmas.{contexts_once}
use Rattle.report_laws.proofs.parts_by_context.inclusive_costs_by_context_count_each_event_once.Goals as goal

pub returns : goal.returns
returns c = λ guest past callers chosen p groups costs group kind can makes is grouped inclusive less within.
    contexts_once guest can past makes callers chosen p is kind within groups costs group grouped inclusive less
