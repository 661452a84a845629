use Rattle.std.proofs.Common.{length, replicate, refl, sym, ap, ◌∙◌, arith}
use Rattle.call_graph.specs.inner.Rows.{lists}
use Rattle.call_graph.specs.declared.visit_state.VisitState.TheVariants.{New}
use Rattle.call_graph.proofs.RowLemmas.{length-lists}
use Rattle.call_graph.proofs.StandLemmas.{pass_at_start, all_finished}
use Rattle.call_graph.proofs.pass.pass_over.Goals as goal

pub roots-init : goal.roots-init
roots-init c =
    let states = c.in_ok-vec.ensures.items_if_clones_equal (λ y same. same)
    ∙ ap (λ n. replicate n New) (sym (length-lists c.args.rows.now)) in
    record {
      stands =
          pass_at_start (lists c.args.rows.now) _ states c.new.ensures.items c.new-3.ensures.items c.new-2.ensures.items refl;
      finished = ap length c.new-2.ensures.items;
      met = λ g lt. absurd (omega arith);
    }

pub returns : goal.returns
returns c =
    all_finished (lists c.args.rows.now) c.roots.pass c.roots.invariant.stands c.roots.invariant.finished
    (λ g lt. c.roots.invariant.met g (omega (arith, c.roots-test.false, length-lists c.args.rows.now, lt)))
