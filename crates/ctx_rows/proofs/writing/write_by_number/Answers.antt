use Rattle.std.proofs.Common.{◌≡◌, ◌∙◌, All, IfOk, List, ap, map, subst, sym, ℕ}
use Rattle.sym_map.specs.SymbolMap.{SymbolMap}
use Rattle.arc_costs.specs.Contents.{Listed}
use Rattle.cg_format.specs.Part as part
use Rattle.contexts.specs.Contexts.{Context}
use Rattle.ctx_rows.specs.Known.{AreKnown, IsKnownContext}
use Rattle.ctx_rows.specs.Rows.{CtxListed}
use Rattle.ctx_rows.specs.Telling.{named_rows}
use Rattle.ctx_rows.specs.Texts.{context_map, context_name, contexts_in, ctx_text}
use Rattle.ctx_rows.proofs.KnownLemmas.{contexts_known, numbered_known}
use Rattle.ctx_rows.proofs.writing.write_by_number.Goals as goal

-- the contexts of rows that a map knows
known_in : (m : SymbolMap) (cs : List Context) (all : CtxListed) → AreKnown m all → cs ≡ contexts_in all
    → All (IsKnownContext m) cs
known_in m cs all known is =
    subst (λ (ds : List Context). All (IsKnownContext m) ds) (sym is) (contexts_known m all known)

pub context_names-requires : goal.context_names-requires
context_names-requires c =
    known_in c.args.syms.now c.deref.result.now (named_rows c.args.contexts.now c.args.rows) c.requires
    (c.deref.ensures.value ∙ c.in_ok-ranked.ensures.contexts)

pub invariant_of-map : goal.invariant_of-map
invariant_of-map c = record {
  names_are = c.deref-3.ensures.value ∙ c.in_ok-names.ensures
      ∙ ap (map (context_name c.args.syms.now)) (c.deref.ensures.value ∙ sym c.deref-2.ensures.value);
  known = known_in c.args.syms.now c.deref-2.result.now (named_rows c.args.contexts.now c.args.rows) c.requires
      (c.deref-2.ensures.value ∙ c.in_ok-ranked.ensures.contexts);
}

pub write_named-requires : goal.write_named-requires
write_named-requires c =
    let m = c.args.syms.now in
    let all = named_rows c.args.contexts.now c.args.rows in
    subst (λ (cs : List Context). part.AreKnown (context_map m cs) c.rank.new.rows)
    (sym (c.deref-2.ensures.value ∙ c.in_ok-ranked.ensures.contexts))
    (subst (λ (r : Listed). part.AreKnown (context_map m (contexts_in all)) r) (sym c.in_ok-ranked.ensures.rows)
    (numbered_known m all c.requires))

pub returns : goal.returns
unfolding ctx_text
returns c =
    let are = c.deref-2.ensures.value ∙ c.in_ok-ranked.ensures.contexts in
    subst (λ (t : List ℕ). IfOk c.write_named.result (λ text. text ≡ t))
    (λ i. part.part_text c.args.head.now (c.in_ok-ranked.ensures.rows i) (context_map c.args.syms.now (are i)))
    c.write_named.ensures
