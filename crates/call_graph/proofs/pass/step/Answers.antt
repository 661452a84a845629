use Rattle.std.proofs.Common.{get_or, ap, arith}
use Rattle.std.proofs.lemmas.List.{get_or_default}
use Rattle.call_graph.specs.inner.Rows.{lists}
use Rattle.call_graph.specs.inner.Pass.{ranks}
use Rattle.call_graph.proofs.StandLemmas.{can_look, shut_later}
use Rattle.call_graph.proofs.pass.step.Goals as goal

pub close-requires-clause-met : goal.close-requires-clause-met
close-requires-clause-met c = λ k d lt.
    let same = get_or_default c.args.pass.now.path.items k d 0 lt in
    omega (arith, c.requires.stands.holds.placed k lt, ap (λ f. get_or (ranks c.args.pass.now.states.items) f 0) same)

pub returns-then-len-mark-clause-later : goal.returns-then-len-mark-clause-later
returns-then-len-mark-clause-later c =
    shut_later (lists c.args.rows.now) c.args.pass.now c.args.mark c.close.new.pass c.requires
    (omega arith) c.close.ensures

pub look_at-requires : goal.look_at-requires
look_at-requires c =
    can_look (lists c.args.rows.now) c.args.pass.now c.args.mark c.pop.new.self c.in-Some.function c.requires
    (omega arith) c.in-Some.ensures.items
