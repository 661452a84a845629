use Rattle.run_laws.proofs.AddrFoldableLemmas.{folds_back}
use Rattle.run_laws.proofs.by_address.rows_by_address_of_a_run_fold_back_to_the_plain_ones.Goals as goal

pub returns : goal.returns
returns c = λ guest past thread segment rows can makes piece sums.
    folds_back guest past thread segment can makes piece rows sums
