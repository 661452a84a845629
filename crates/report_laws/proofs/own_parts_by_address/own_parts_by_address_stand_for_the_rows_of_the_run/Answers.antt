use Rattle.report_laws.proofs.AddrOwnLemmas.{read_stands, refused_is_own}
use Rattle.report_laws.proofs.own_parts_by_address.own_parts_by_address_stand_for_the_rows_of_the_run.Goals as goal

pub returns-clause-read : goal.returns-clause-read
returns-clause-read c = λ guest trace stop old before now q can makes entries profile reading.
    read_stands guest can trace makes stop entries old before now q profile reading

pub returns-clause-refused : goal.returns-clause-refused
returns-clause-refused c = λ guest trace stop old before now fault can makes entries reading.
    refused_is_own guest can trace makes stop entries old before now fault reading
