use Rattle.run_laws.proofs.AddrFoldableLemmas.{plain_sums}
use Rattle.run_laws.proofs.by_address.plain_rows_are_the_sums_of_those_by_address.Goals as goal

pub returns : goal.returns
returns c = λ guest past thread segment can makes piece. plain_sums guest past thread segment can makes piece
