use Rattle.run_laws.proofs.CtxFoldableLemmas.{may_fold}
use Rattle.run_laws.proofs.by_context.rows_by_context_of_a_run_may_be_folded.Goals as goal

pub returns : goal.returns
returns c = λ guest past callers thread segment can makes piece.
    may_fold guest past callers thread segment can makes piece
