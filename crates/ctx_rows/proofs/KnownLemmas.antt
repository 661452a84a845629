-- The contexts of rows that are known have functions of the map, and the numbered rows are those of the
-- map of contexts.
use Rattle.std.proofs.Common.{inl, inr, List, [], ◌∷◌, All, Contains, flat_map, get_or, map}
use Rattle.std.proofs.Common.{sym, subst, arith}
use Rattle.std.specs.Cmp.Lexicographic.{nat_list_cmp_total}
use Rattle.std.proofs.lemmas.List.{length-map}
use Rattle.std.proofs.lemmas.List.Elements.{All-map}
use Rattle.sym_map.specs.SymbolMap.{IsFunc, SymbolMap}
use Rattle.recorder.specs.Laws.{IsIn}
use Rattle.cg_format.specs.Part as part
use Rattle.ctx_rows.proofs.Others.{from_append, from_flat, from_map}
use Rattle.arc_costs.proofs.RiseLemmas as rise
use Rattle.contexts.specs.Contexts.{Context, context_order, number}
use Rattle.ctx_rows.specs.Known.{AreKnown, IsKnownArc, IsKnownContext, IsKnownLine}
use Rattle.ctx_rows.specs.Rows.{CtxListed}
use Rattle.ctx_rows.specs.Texts.{all_contexts, as_function, context_map, contexts_in, numbered, numbered_arc}
use Rattle.ctx_rows.specs.Texts.{numbered_line}
use Rattle.ctx_rows.specs.declared.rows.CtxArc.{CtxArc}
use Rattle.ctx_rows.specs.declared.rows.CtxLine.{CtxLine}
use Rattle.ctx_rows.proofs.AmongLemmas.{callees_there, callers_there, in_at, lines_there}
use Rattle.ctx_rows.proofs.NamedLemmas.{contains_from_in}
use Rattle.ctx_rows.proofs.OrderLemmas.{context_only}
use Rattle.ctx_rows.proofs.RankLemmas.{rising_number, risen_sorted}

all_in : {X : Type 0} (P : X → Type 0) (xs : List X) (x : X) → All P xs → IsIn xs x → P x
all_in P xs x all there = let has = contains_from_in xs x there in subst P has.2 (all has.0 x has.1)

module _ (m : SymbolMap) (rows : CtxListed) (known : AreKnown m rows) where
  of_line : (c : Context) → IsIn (map (λ (row : CtxLine). row.ctx) rows.lines) c → IsKnownContext m c
  of_line c there =
      let r = from_map (λ (row : CtxLine). row.ctx) rows.lines c there in
      subst (IsKnownContext m) r.2 (all_in (IsKnownLine m) rows.lines r.0 known.lines r.1).ctx

  of_arc : (c : Context) → IsIn (flat_map (λ (row : CtxArc). row.caller ∷ (row.callee ∷ [])) rows.arcs) c
      → IsKnownContext m c
  of_arc c there =
      let r = from_flat (λ (row : CtxArc). row.caller ∷ (row.callee ∷ [])) rows.arcs c there in
      by r.0 (all_in (IsKnownArc m) rows.arcs r.0 known.arcs r.1) r.2
    where
      by : (row : CtxArc) → IsKnownArc m row → IsIn (row.caller ∷ (row.callee ∷ [])) c → IsKnownContext m c
      by row is (inl e) = subst (IsKnownContext m) e is.caller
      by row is (inr (inl e)) = subst (IsKnownContext m) e is.callee
      by row is (inr (inr none)) = elim none [ ]

  one_known : (c : Context) → IsIn (contexts_in rows) c → IsKnownContext m c
  one_known c there =
      elim (from_append (map (λ (row : CtxLine). row.ctx) rows.lines)
      (flat_map (λ (row : CtxArc). row.caller ∷ (row.callee ∷ [])) rows.arcs) c
      (rise.risen_in context_order nat_list_cmp_total context_only (all_contexts rows) c there))
      as (λ _. IsKnownContext m c) [
        | inl line ↦ of_line c line
        | inr arc ↦ of_arc c arc
      ]

  pub contexts_known : All (IsKnownContext m) (contexts_in rows)
  contexts_known k d less = one_known (get_or (contexts_in rows) k d) (in_at (contexts_in rows) k d less)

  -- the numbers of contexts that are there are within
  within : (c : Context) → Contains (contexts_in rows) c
      → IsFunc (context_map m (contexts_in rows)) (number (contexts_in rows) c)
  within c has =
      let all = length-map (contexts_in rows) (as_function m) in
      let is = rising_number (contexts_in rows) c has.0 (risen_sorted (all_contexts rows)) has.1 has.2 in
      subst (IsFunc (context_map m (contexts_in rows))) (sym is) (omega (arith, all, has.1))

  pub numbered_known : part.AreKnown (context_map m (contexts_in rows)) (numbered (contexts_in rows) rows)
  numbered_known = record {
    lines = All-map (part.IsKnownLine (context_map m (contexts_in rows))) (numbered_line (contexts_in rows)) rows.lines
        (λ k row less. record {
          function = within (get_or rows.lines k row).ctx (lines_there rows k row less);
          file = (known.lines k row less).file;
        });
    arcs = All-map (part.IsKnownArc (context_map m (contexts_in rows))) (numbered_arc (contexts_in rows)) rows.arcs
        (λ k row less. record {
          caller = within (get_or rows.arcs k row).caller (callers_there rows k row less);
          file = (known.arcs k row less).file;
          callee = within (get_or rows.arcs k row).callee (callees_there rows k row less);
        });
  }
