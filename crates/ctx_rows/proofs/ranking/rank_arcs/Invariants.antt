use Rattle.std.proofs.Common.{◌≡◌, ◌++◌, drop, map, take}
use Rattle.ctx_rows.specs.Telling.{named_arc}
use Rattle.ctx_rows.specs.Texts.{numbered_arc}
use Rattle.ctx_rows.proofs.ranking.rank_arcs.Given as goal

abbrev pub invariant-arcs : goal.invariant-arcs
invariant-arcs l =
    l.rows ≡ map (λ row. numbered_arc l.ranked (named_arc l.contexts row)) (take l.row-index l.initial.rows)
    ++ drop l.row-index l.initial.rows
