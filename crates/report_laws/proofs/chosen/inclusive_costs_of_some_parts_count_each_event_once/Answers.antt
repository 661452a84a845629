use Rattle.report_laws.proofs.ChosenLemmas.{chosen_joined, chosen_once, files_written}
use Rattle.report_laws.proofs.chosen.inclusive_costs_of_some_parts_count_each_event_once.Goals as goal

pub returns-clause-files : goal.returns-clause-files
returns-clause-files c = files_written

pub returns-clause-joined : goal.returns-clause-joined
returns-clause-joined c = λ guest past chosen p can makes. chosen_joined guest can past makes chosen p

pub returns-clause-once : goal.returns-clause-once
returns-clause-once c = λ guest past chosen p groups costs group kind can makes is grouped inclusive less within.
    chosen_once guest can past makes chosen p is kind within groups costs group grouped inclusive less
