use Rattle.run_laws.proofs.OwnPartLemmas.{folder_holds, names_differ}
use Rattle.run_laws.proofs.own_parts.own_parts_are_held.Goals as goal

pub returns-clause-names : goal.returns-clause-names
returns-clause-names c = λ guest trace stop can makes. names_differ guest can trace makes stop

pub returns-clause-held : goal.returns-clause-held
returns-clause-held c = λ guest trace stop old can makes. folder_holds guest can trace makes stop old
