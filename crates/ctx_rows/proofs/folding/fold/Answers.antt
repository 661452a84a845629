use Rattle.std.proofs.Common.{subst, IfOk}
use Rattle.arc_costs.specs.Contents.{Listed}
use Rattle.ctx_rows.specs.Folding.{AreSumsOf}
use Rattle.ctx_rows.proofs.folding.fold.Goals as goal

pub summed_rows-requires-clause-lines : goal.summed_rows-requires-clause-lines
summed_rows-requires-clause-lines c event place = rw c.in_ok-all.ensures (c.requires.lines event place)

pub summed_rows-requires-clause-arcs : goal.summed_rows-requires-clause-arcs
summed_rows-requires-clause-arcs c event arc = rw c.in_ok-all.ensures (c.requires.arcs event arc)

pub summed_rows-requires-clause-calls : goal.summed_rows-requires-clause-calls
summed_rows-requires-clause-calls c arc = rw c.in_ok-all.ensures (c.requires.calls arc)

pub returns : goal.returns
returns c = subst (λ (all : Listed). IfOk c.summed_rows.result (AreSumsOf all)) c.in_ok-all.ensures c.summed_rows.ensures
