use Rattle.std.proofs.Common.{◌≡◌, take, map}
use Rattle.cg_read.specs.inner.Gains.{renumbered_call}
use Rattle.cg_read.proofs.merge.renumbered_call_rows.Given as goal

abbrev pub invariant-rows : goal.invariant-rows
invariant-rows l = l.copies.items ≡ map (renumbered_call l.events l.functions l.files) (take l.row-index l.rows)
