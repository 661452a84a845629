use Rattle.std.proofs.Common.{sym, subst, ◌∙◌, arith}
use Rattle.std.proofs.lemmas.Result.{on_ok_weaker}
use Rattle.call_graph.specs.inner.Rows.{lists}
use Rattle.call_graph.specs.inner.Pass.{IsEntered, IsCut}
use Rattle.call_graph.specs.declared.visit_state.VisitState.TheVariants.{New, Open, Closed}
use Rattle.call_graph.proofs.RowLemmas.{row_at}
use Rattle.call_graph.proofs.StandLemmas.{rank_by, entered_later, entered_no_more, later_after_look, cut_closed}
use Rattle.call_graph.proofs.pass.look_at.Goals as goal

pub returns-in-New-clause-later : goal.returns-in-New-clause-later
returns-in-New-clause-later c =
    let callees = c.deref.ensures.value
    ∙ row_at c.args.rows.now c.args.function c.index-rows-function.result c.requires.within
    c.index-rows-function.is in
    let fresh =
    rank_by c.args.function c.index.result.now New c.requires.stands c.requires.within c.index.ensures
    c.in-New.is in
    on_ok_weaker c.enter.result
    (λ entered. entered_later
    (lists c.args.rows.now) c.args.pass.now c.args.function c.enter.new.pass c.requires.stands
    (subst (λ row. IsEntered c.args.pass.now row c.args.function c.enter.new.pass) callees entered)
    (λ g is. is) c.requires.within fresh c.requires.leads) c.enter.ensures

pub returns-in-New-clause-no_more : goal.returns-in-New-clause-no_more
returns-in-New-clause-no_more c =
    let callees = c.deref.ensures.value
    ∙ row_at c.args.rows.now c.args.function c.index-rows-function.result c.requires.within
    c.index-rows-function.is in
    let fresh =
    rank_by c.args.function c.index.result.now New c.requires.stands c.requires.within c.index.ensures
    c.in-New.is in
    on_ok_weaker c.enter.result
    (λ entered. entered_no_more
    (lists c.args.rows.now) c.args.pass.now c.args.function c.enter.new.pass c.requires.stands
    (subst (λ row. IsEntered c.args.pass.now row c.args.function c.enter.new.pass) callees entered) c.requires.within
    fresh) c.enter.ensures

pub returns-in-Open-clause-later : goal.returns-in-Open-clause-later
returns-in-Open-clause-later c =
    let rank = rank_by c.args.function c.index.result.now
    (Open c.in-Open.place) c.requires.stands c.requires.within c.index.ensures c.in-Open.is in
    later_after_look (lists c.args.rows.now) c.args.pass.now c.args.function c.join.new.marks c.requires (omega (arith, rank))
    (subst (λ r. IsCut c.args.pass.now.marks.items r c.join.new.marks.items) (sym rank) c.join.ensures)

pub returns-in-Closed-clause-later : goal.returns-in-Closed-clause-later
returns-in-Closed-clause-later c =
    let rank = rank_by c.args.function c.index.result.now
    (Closed c.in-Closed.field-0) c.requires.stands c.requires.within c.index.ensures c.in-Closed.is in
    later_after_look (lists c.args.rows.now) c.args.pass.now c.args.function c.args.pass.now.marks c.requires
    (omega (arith, rank))
    (cut_closed (lists c.args.rows.now) c.args.pass.now c.args.function c.requires (omega (arith, rank)))
