use Rattle.report_laws.proofs.OneTextLemmas.{one_text}
use Rattle.report_laws.proofs.RenumberLemmas.{one_report}
use Rattle.report_laws.proofs.reports.a_profile_has_one_report.Goals as goal

pub returns-clause-profile : goal.returns-clause-profile
returns-clause-profile c = λ p options texts text other profile first second.
    one_text p profile options texts text other first second

pub returns-clause-alike : goal.returns-clause-alike
returns-clause-alike c = λ p q options texts text again profile other says.
    one_report p q profile other says options texts text again
