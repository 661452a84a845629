use Rattle.report_rows.specs.Ranks.{numbered_function}
use Rattle.report_rows.proofs.OrderLemmas.{made_more, numbered_at}
use Rattle.report_rows.proofs.order.with_numbers.Goals as goal

pub functions-preserved : goal.functions-preserved
functions-preserved c =
    let i = c.functions.number in
    made_more (numbered_function c.args.ranks.now) c.functions.all.items _ i c.push.new.self.items c.functions.invariant
    (numbered_at c.args.ranks.now i _ c.functions-test.true) c.in_ok-push.ensures.items
