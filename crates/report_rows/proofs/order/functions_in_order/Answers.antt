use Rattle.std.proofs.Common.{◌∙◌, ap, map}
use Rattle.std.proofs.lemmas.List.{take_all}
use Rattle.report_rows.proofs.OrderLemmas.{functions_arranged}
use Rattle.report_rows.proofs.order.functions_in_order.Goals as goal

pub returns : goal.returns
returns c =
    functions_arranged c.args.functions.now c.in_ok-ranks.ranks.items c.in_ok-sorted.sorted.items
    c.sort.new.self.items c.functions.order.items c.in_ok-ranks.ensures
    (rw c.deref.ensures.value at c.in_ok-sorted.ensures) c.sort.ensures.permutation c.in_ok-sort.ensures.sorted
    (c.functions.invariant
    ∙ ap (map (λ x. x.number)) (take_all c.functions.function-index c.deref-function-items.result.now
    c.functions-test.false
    ∙ c.deref-function-items.ensures.value))
