use Rattle.std.proofs.Common.{◌<◌, length, get_or, ◌∙◌, arith, get_or-set_same, get_or-set_other, below_more}
use Rattle.std.proofs.lemmas.List.{length-set}
use Rattle.report_rows.proofs.OrderLemmas.{all_below, places_differ}
use Rattle.report_rows.proofs.order.places_of.Goals as goal

pub index_mut-requires : goal.index_mut-requires
index_mut-requires c =
    omega (
      arith,
      all_below (length c.args.order.now) c.args.order.now c.requires c.functions.place 0 c.functions-test.true,
      c.functions.invariant.size,
    )

pub functions-preserved : goal.functions-preserved
functions-preserved c =
    let order = c.args.order.now in
    let i = c.functions.place in
    let f = get_or order i 0 in
    let places = c.functions.places.items in
    let inside : f < length places =
    omega (arith, all_below (length order) order c.requires i 0 c.functions-test.true, c.functions.invariant.size) in
    record {
      size = length-set places f i ∙ c.functions.invariant.size;
      exact = below_more _ _
          (λ k lt. get_or-set_other places f (get_or order k 0) i 0
          (places_differ (length order) order k i c.requires lt c.functions-test.true)
          ∙ c.functions.invariant.exact k lt)
          (get_or-set_same places f i 0 inside);
    }
