-- The contexts of rows are among those that the rows are numbered by.
use Rattle.std.proofs.Common.{inl, inr, ℕ, zero, suc, ◌<◌, List, [], ◌∷◌}
use Rattle.std.proofs.Common.{All, Contains, flat_map, get_or, length, map}
use Rattle.std.proofs.Common.{refl, arith}
use Rattle.recorder.specs.Laws.{IsIn}
use Rattle.ctx_rows.proofs.Others.{in_left, in_right, in_flat}
use Rattle.arc_costs.proofs.RiseLemmas.{in-map}
use Rattle.contexts.specs.Contexts.{Context}
use Rattle.ctx_rows.specs.Rows.{CtxListed}
use Rattle.ctx_rows.specs.Texts.{all_contexts, contexts_in}
use Rattle.ctx_rows.specs.declared.rows.CtxArc.{CtxArc}
use Rattle.ctx_rows.specs.declared.rows.CtxLine.{CtxLine}
use Rattle.ctx_rows.proofs.RankLemmas.{in_rising}

pub in_at : {X : Type 0} (xs : List X) (k : ℕ) (d : X) → k < length xs → IsIn xs (get_or xs k d)
in_at [] k d less = absurd (omega (arith, less))
in_at (x ∷ xs) zero d less = inl refl
in_at (x ∷ xs) (suc k) d less = inr (in_at xs k d (omega (arith, less)))

pub lines_there : (rows : CtxListed) → All (λ (row : CtxLine). Contains (contexts_in rows) row.ctx) rows.lines
lines_there rows k d less =
    let row = get_or rows.lines k d in
    in_rising (all_contexts rows) row.ctx
    (in_left (map (λ (r : CtxLine). r.ctx) rows.lines)
    (flat_map (λ (r : CtxArc). r.caller ∷ (r.callee ∷ [])) rows.arcs) row.ctx
    (in-map (λ (r : CtxLine). r.ctx) rows.lines row (in_at rows.lines k d less)))

-- the two of an arc
ends_there : (rows : CtxListed) (k : ℕ) (d : CtxArc) (c : Context) → k < length rows.arcs
    → IsIn ((get_or rows.arcs k d).caller ∷ ((get_or rows.arcs k d).callee ∷ [])) c → Contains (contexts_in rows) c
ends_there rows k d c less end =
    in_rising (all_contexts rows) c
    (in_right (map (λ (r : CtxLine). r.ctx) rows.lines)
    (flat_map (λ (r : CtxArc). r.caller ∷ (r.callee ∷ [])) rows.arcs) c
    (in_flat (λ (r : CtxArc). r.caller ∷ (r.callee ∷ [])) rows.arcs (get_or rows.arcs k d) c
    (in_at rows.arcs k d less) end))

pub callers_there : (rows : CtxListed) → All (λ (row : CtxArc). Contains (contexts_in rows) row.caller) rows.arcs
callers_there rows k d less = ends_there rows k d (get_or rows.arcs k d).caller less (inl refl)

pub callees_there : (rows : CtxListed) → All (λ (row : CtxArc). Contains (contexts_in rows) row.callee) rows.arcs
callees_there rows k d less = ends_there rows k d (get_or rows.arcs k d).callee less (inr (inl refl))
