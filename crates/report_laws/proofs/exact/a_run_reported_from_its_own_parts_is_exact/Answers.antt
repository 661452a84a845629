use Rattle.report_laws.proofs.ExactLemmas.{is_exact, own_fault}
use Rattle.report_laws.proofs.exact.a_run_reported_from_its_own_parts_is_exact.Goals as goal

pub returns-clause-exact : goal.returns-clause-exact
returns-clause-exact c = λ guest old run new contents before now p options texts text can told answers.
    is_exact guest can old run new contents told answers before now p options texts text

pub returns-clause-refused : goal.returns-clause-refused
returns-clause-refused c = λ guest old run new contents before now fault can told answers.
    own_fault guest can old run new contents told answers before now fault
