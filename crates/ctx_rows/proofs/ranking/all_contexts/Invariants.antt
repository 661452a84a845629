use Rattle.std.proofs.Common.{◌≡◌, [], ◌∷◌, ◌++◌, flat_map, map, take}
use Rattle.ctx_rows.specs.Telling.{named_arc, named_line}
use Rattle.ctx_rows.specs.declared.rows.CtxArc.{CtxArc}
use Rattle.ctx_rows.specs.declared.rows.CtxLine.{CtxLine}
use Rattle.ctx_rows.proofs.ranking.all_contexts.Given as goal

abbrev pub invariant-lines : goal.invariant-lines
invariant-lines l =
    l.all.items ≡ map (λ (row : CtxLine). row.ctx) (map (named_line l.contexts) (take l.row-index l.row-items))

abbrev pub invariant-arcs : goal.invariant-arcs
invariant-arcs l =
    l.all.items ≡ l.initial.all.items
    ++ flat_map (λ (row : CtxArc). row.caller ∷ (row.callee ∷ []))
    (map (named_arc l.contexts) (take l.row-index l.row-items))
