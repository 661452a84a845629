use Rattle.std.proofs.Common.{◌+◌, length, get_or, set, take, refl, sym, ap, subst, ◌∙◌}
use Rattle.report_rows.specs.Orders.{members}
use Rattle.report_rows.specs.Tables.{AreLists}
use Rattle.cycles.specs.Costs.{group_at}
use Rattle.report_rows.proofs.OrderLemmas.{lists_more}
use Rattle.report_rows.proofs.order.members_of.Goals as goal

pub functions-preserved : goal.functions-preserved
functions-preserved c =
    let groups = c.args.groups.now in
    let order = c.args.order.now in
    let i = c.functions.function-index in
    let f = get_or order i 0 in
    let rows = c.functions.members.items in
    let old = c.index_mut.result.now in
    subst (λ n. AreLists (length groups.cyclic) (members groups (take (i + 1) order)) (set rows n c.push.new.self))
    (sym c.group_of.ensures)
    (lists_more (group_at groups) (length groups.cyclic) order i f 0 rows old c.push.new.self c.functions-test.true refl
    (c.requires.groups i 0 c.functions-test.true) c.functions.invariant
    (c.index_mut.ensures.value ∙ ap (λ n. get_or rows n old) c.group_of.ensures) c.in_ok-push.ensures.items)
