use Rattle.report_laws.proofs.ReportLemmas.{calls_count, no_limit, report_of_run}
use Rattle.report_laws.proofs.reports.reports_on_a_run_count_each_event_once.Goals as goal

pub returns-clause-once : goal.returns-clause-once
returns-clause-once c = λ guest past p options texts text can makes is.
    report_of_run guest can past makes p is options texts text

pub returns-clause-calls : goal.returns-clause-calls
returns-clause-calls c = λ guest past options texts text can makes report.
    calls_count guest can past makes report.profile report.of_run report.groups report.grouped

pub returns-clause-within : goal.returns-clause-within
returns-clause-within c = λ guest past p position can makes is. no_limit guest can past makes p is position
