use Rattle.profile_run.specs.Trace.{steps_of}
use Rattle.run_laws.proofs.AnswerLemmas.{folds_back, order_of}
use Rattle.run_laws.proofs.by_context.rows_by_context_of_a_run_fold_back_to_the_plain_ones.Goals as goal

pub returns : goal.returns
returns c = λ guest past callers thread segment rows can makes inside sums.
    folds_back guest can (steps_of past) (order_of guest can past makes) callers thread segment rows inside sums
