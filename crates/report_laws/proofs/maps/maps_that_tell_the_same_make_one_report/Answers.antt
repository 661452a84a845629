use Rattle.report_laws.proofs.SameAddressLemmas.{addr_files_same}
use Rattle.report_laws.proofs.SameContextLemmas.{ctx_files_same}
use Rattle.report_laws.proofs.SameFileLemmas.{plain_files, same_report}
use Rattle.report_laws.proofs.maps.maps_that_tell_the_same_make_one_report.Goals as goal

pub returns-clause-files : goal.returns-clause-files
returns-clause-files c = λ guest syms trace stop can same makes. plain_files guest can syms same trace makes stop

pub returns-clause-contexts : goal.returns-clause-contexts
returns-clause-contexts c = λ guest syms trace stop callers can same makes.
    ctx_files_same guest can syms same trace makes callers stop

pub returns-clause-addresses : goal.returns-clause-addresses
returns-clause-addresses c = λ guest syms trace stop can same makes. addr_files_same guest can syms same trace makes stop

pub returns-clause-report : goal.returns-clause-report
returns-clause-report c = λ guest syms past options texts text other can same makes could.
    same_report guest can syms same past makes could options texts text other
