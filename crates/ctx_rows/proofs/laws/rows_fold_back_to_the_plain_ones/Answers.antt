use Rattle.ctx_rows.proofs.FoldedLemmas.{folded_are}
use Rattle.ctx_rows.proofs.laws.rows_fold_back_to_the_plain_ones.Goals as goal

pub returns : goal.returns
returns c = λ callers syms xs rows stand sums. folded_are callers syms xs stand rows sums
