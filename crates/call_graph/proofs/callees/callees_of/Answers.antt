use Rattle.std.proofs.Common.{◌≡◌, ℕ, [], ◌∷◌, ◌++◌, get_or, set, take, sym, ap, subst, ◌∙◌, arith}
use Rattle.std.proofs.lemmas.List.{take_more}
use Rattle.call_graph.specs.inner.Rows.{IsRows, lists}
use Rattle.call_graph.specs.declared.arc.CallArc.{CallArc}
use Rattle.call_graph.proofs.RowLemmas.{arc_from, row_at, lists-set, row_more}
use Rattle.call_graph.proofs.callees.callees_of.Goals as goal

pub arcs-preserved : goal.arcs-preserved
arcs-preserved c =
    let rows = c.arcs.rows.items in
    let i : ℕ = c.arcs.arc-index in
    let arcs = take i c.args.arcs.now in
    let arc : CallArc = get_or c.args.arcs.now i (arc_from 0 0) in
    let within = c.requires i (arc_from 0 0) c.arcs-test.true in
    let old = row_at rows arc.caller c.index_mut.result.now
    (omega (arith, within.caller, c.arcs.invariant.size)) c.index_mut.ensures.value in
    let new : c.push.new.self.items ≡ get_or (lists rows) arc.caller [] ++ arc.callee ∷ [] = c.in_ok-push.ensures.items
    ∙ ap (λ xs. xs ++ arc.callee ∷ []) old in
    subst (λ more. IsRows c.args.functions more (lists (set rows arc.caller c.push.new.self)))
    (sym (take_more c.args.arcs.now i (arc_from 0 0) c.arcs-test.true))
    (subst (IsRows c.args.functions (arcs ++ arc ∷ []))
    (sym (lists-set rows arc.caller c.push.new.self ∙ ap (set (lists rows) arc.caller) new))
    (row_more c.arcs.invariant arc within.caller))
