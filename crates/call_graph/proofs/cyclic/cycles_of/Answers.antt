use Rattle.std.proofs.Common.{◌≡◌, ℕ, true, [], ◌∷◌, ◌++◌, length, get_or, set, take, sym, ap, subst, ◌∙◌, arith}
use Rattle.std.proofs.lemmas.List.{length-set, take_all, take_more}
use Rattle.call_graph.specs.declared.arc.CallArc.{CallArc}
use Rattle.call_graph.proofs.CycleLemmas.{MarkInside, mark_more, mark_other, tell_cycles}
use Rattle.call_graph.proofs.RowLemmas.{arc_from}
use Rattle.call_graph.proofs.cyclic.cycles_of.Goals as goal
use Rattle.call_graph.proofs.cyclic.cycles_of.Goals.{then-number-arc, else-number-arc}

pub arcs-preserved : goal.arcs-preserved
arcs-preserved c =
    let number = c.args.number.now in
    let i : ℕ = c.arcs.arc-index in
    let arc : CallArc = get_or c.args.arcs.now i (arc_from 0 0) in
    let group : ℕ = get_or number arc.caller 0 in
    let more = sym (take_more c.args.arcs.now i (arc_from 0 0) c.arcs-test.true) in
    elim c.if-number-arc.branch [
      | then-number-arc w ↦
          let written : c.if-number-arc.cyclic.items ≡ set c.arcs.cyclic.items group true
          = ap (λ v. v.items) w.cyclic-is in
          let within = c.requires.within i (arc_from 0 0) c.arcs-test.true in
          let inside =
          mark_more (take i c.args.arcs.now) arc number c.arcs.cyclic.items
          (omega (arith, c.requires.numbered.below arc.caller within.caller, c.arcs.invariant.size))
          w.if-number-arc.true c.arcs.invariant.inside in
          record {
            size = ap length written ∙ length-set c.arcs.cyclic.items group true ∙ c.arcs.invariant.size;
            inside = subst (λ a. MarkInside a number c.if-number-arc.cyclic.items) more
                (subst (MarkInside (take i c.args.arcs.now ++ arc ∷ []) number) (sym written) inside);
          }
      | else-number-arc w ↦
          let same : c.if-number-arc.cyclic.items ≡ c.arcs.cyclic.items = ap (λ v. v.items) w.cyclic-is in
          let inside =
          mark_other
          (take i c.args.arcs.now) arc number c.arcs.cyclic.items w.if-number-arc.false c.arcs.invariant.inside in
          record {
            size = ap length same ∙ c.arcs.invariant.size;
            inside = subst (λ a. MarkInside a number c.if-number-arc.cyclic.items) more
                (subst (MarkInside (take i c.args.arcs.now ++ arc ∷ []) number) (sym same) inside);
          }
    ]

pub returns-clause-cycles : goal.returns-clause-cycles
returns-clause-cycles c =
    tell_cycles c.args.arcs.now c.args.number.now c.args.count c.requires.within c.requires.numbered c.arcs.cyclic.items
    (subst (λ a. MarkInside a c.args.number.now c.arcs.cyclic.items)
    (take_all c.arcs.arc-index c.args.arcs.now c.arcs-test.false) c.arcs.invariant.inside)
