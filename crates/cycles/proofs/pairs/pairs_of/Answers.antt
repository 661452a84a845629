use Rattle.cycles.proofs.PairLemmas.{pairs_more}
use Rattle.cycles.proofs.pairs.pairs_of.Goals as goal

pub rows-preserved : goal.rows-preserved
rows-preserved c =
    let e = c.in_ok-number.ensures in
    record {
      pairs = rw c.in_ok-push.ensures.items
          (pairs_more c.args.rows.now c.rows.row-index c.row-item.result c.rows.arcs.items
          c.number_of.new.arcs.items c.rows.numbers.items c.in_ok-number.number c.arc_of_row.result
          c.number_of.new.places c.rows-test.true c.row-item.is c.arc_of_row.ensures c.rows.invariant.pairs e.kept
          e.number e.found);
      found = e.found;
    }
