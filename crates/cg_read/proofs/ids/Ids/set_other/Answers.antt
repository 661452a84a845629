use Rattle.std.proofs.lemmas.Map.Text.{is_eq-slice_cmp}
use Rattle.cg_read.proofs.ids.Ids.set_other.Goals as goal

pub returns-clause-others : goal.returns-clause-others
returns-clause-others c = λ q.
    rw (← is_eq-slice_cmp c.args.id.now q) (rw c.again.ensures at (c.in_ok-insert.ensures.updates.0 q))
