use Rattle.report_laws.proofs.RunReportLemmas.{one_by_address, one_of_cut, one_of_trace}
use Rattle.report_laws.proofs.reports.a_run_has_one_report.Goals as goal

pub returns-clause-run : goal.returns-clause-run
returns-clause-run c = λ guest past options texts text other can makes.
    one_of_trace guest can past makes options texts text other

pub returns-clause-cut : goal.returns-clause-cut
returns-clause-cut c = λ guest asked past options texts text other can makes.
    one_of_cut guest can past makes asked options texts text other

pub returns-clause-addresses : goal.returns-clause-addresses
returns-clause-addresses c = λ guest trace stop p q options texts text other can makes entries.
    one_by_address guest can trace makes options texts stop p q text other entries
