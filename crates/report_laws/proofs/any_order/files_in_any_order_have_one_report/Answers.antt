use Rattle.profile_files.specs.Joined.{no_rows}
use Rattle.report_laws.proofs.JoinOrderLemmas.{read_too, same_events, tell_alike}
use Rattle.report_laws.proofs.AnyOrderLemmas.{differ_by_command, same_files}
use Rattle.report_laws.proofs.any_order.files_in_any_order_have_one_report.Goals as goal

pub returns-clause-read : goal.returns-clause-read
returns-clause-read c = λ events load files others moved. read_too load files others moved events

pub returns-clause-events : goal.returns-clause-events
returns-clause-events c = λ events load files others p q moved. same_events load files others moved (no_rows events) p q

pub returns-clause-sources : goal.returns-clause-sources
returns-clause-sources c = λ events load files others p q names moved one two.
    same_files p q (tell_alike load files others moved (no_rows events) p q one two) names

pub returns-clause-report : goal.returns-clause-report
returns-clause-report c = λ events load files others p q options texts text other moved profile also one two.
    differ_by_command p q profile also (tell_alike load files others moved (no_rows events) p q one two) options texts
    text other
