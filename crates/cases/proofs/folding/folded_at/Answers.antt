use Rattle.cases.proofs.SmallLemmas.{arcs_fit_at, calls_fit_at, lines_fit_at}
use Rattle.cases.proofs.folding.folded_at.Goals as goal

pub fold-requires-clause-lines : goal.fold-requires-clause-lines
fold-requires-clause-lines c = λ kind place.
    lines_fit_at c.args.rows.now.rows c.requires kind place

pub fold-requires-clause-arcs : goal.fold-requires-clause-arcs
fold-requires-clause-arcs c = λ kind arc.
    arcs_fit_at c.args.rows.now.rows c.requires kind arc

pub fold-requires-clause-calls : goal.fold-requires-clause-calls
fold-requires-clause-calls c = λ arc.
    calls_fit_at c.args.rows.now.rows c.requires arc
