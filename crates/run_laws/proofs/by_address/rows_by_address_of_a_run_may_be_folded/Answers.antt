use Rattle.run_laws.proofs.AddrFoldableLemmas.{may_fold}
use Rattle.run_laws.proofs.by_address.rows_by_address_of_a_run_may_be_folded.Goals as goal

pub returns : goal.returns
returns c = λ guest past thread segment can makes piece. may_fold guest past thread segment can makes piece
