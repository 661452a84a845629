use Rattle.run_laws.proofs.WorkLemmas.{same_work}
use Rattle.run_laws.proofs.own_rows.turns_change_no_work.Goals as goal

pub returns : goal.returns
returns c = λ guest other past others thread can could makes made one_map branches same.
    same_work guest other past others thread can could makes made one_map branches same
