use Rattle.run_laws.proofs.CtxFoldableLemmas.{plain_sums}
use Rattle.run_laws.proofs.by_context.plain_rows_are_the_sums_of_those_by_context.Goals as goal

pub returns : goal.returns
returns c = λ guest past callers thread segment can makes piece.
    plain_sums guest past callers thread segment can makes piece
