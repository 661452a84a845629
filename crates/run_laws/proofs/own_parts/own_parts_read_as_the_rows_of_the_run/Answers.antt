use Rattle.run_laws.proofs.OwnPartLemmas.{exists, joined_is, one_profile, read_is_run, refused_is_own}
use Rattle.run_laws.proofs.own_parts.own_parts_read_as_the_rows_of_the_run.Goals as goal

pub returns-clause-joined : goal.returns-clause-joined
returns-clause-joined c = λ guest trace stop p can makes. joined_is guest can trace makes stop p

pub returns-clause-exists : goal.returns-clause-exists
returns-clause-exists c = λ guest trace stop can makes. exists guest can trace makes stop

pub returns-clause-alike : goal.returns-clause-alike
returns-clause-alike c = one_profile

pub returns-clause-read : goal.returns-clause-read
returns-clause-read c = λ guest trace stop old before now p can makes.
    read_is_run guest can trace makes stop old before now p

pub returns-clause-refused : goal.returns-clause-refused
returns-clause-refused c = λ guest trace stop old before now fault can makes.
    refused_is_own guest can trace makes stop old before now fault
