use Rattle.std.proofs.Common.{◌≡◌, ◌++◌, drop, map, take}
use Rattle.ctx_rows.specs.Telling.{named_line}
use Rattle.ctx_rows.specs.Texts.{numbered_line}
use Rattle.ctx_rows.proofs.ranking.rank_lines.Given as goal

abbrev pub invariant-lines : goal.invariant-lines
invariant-lines l =
    l.rows ≡ map (λ row. numbered_line l.ranked (named_line l.contexts row)) (take l.row-index l.initial.rows)
    ++ drop l.row-index l.initial.rows
