use Rattle.std.proofs.Common.{arith}
use Rattle.rv_step.proofs.TableLemmas.{noted-end, noted-from, noted-without, place-below}
use Rattle.rv_step.proofs.instr_table.InstrTable.empty.Goals as goal

pub invariant_of-self-clause-noted : goal.invariant_of-self-clause-noted
invariant_of-self-clause-noted c =
    let table = c.filled.self in
    noted-without table.filled.items table.first table.last c.place_of-place.result table.places.items c.vacant.result
    (omega (arith, table.whole, place-below c.index.result.now c.place_of-place.result c.place_of-place.ensures))
    c.vacant.ensures table.noted

pub filled-preserved : goal.filled-preserved
filled-preserved c =
    let table = c.filled.self in
    record {
      end = c.filled.invariant.end;
      rest = noted-from table.filled.items c.filled.at c.index.result.now table.first table.last c.place_of-place.result
          table.places.items c.vacant.result
          (omega (arith, c.filled-test.true, c.filled.invariant.end, table.filled.ok))
          c.index.ensures c.place_of-place.ensures
          (omega (arith, table.whole, place-below c.index.result.now c.place_of-place.result c.place_of-place.ensures))
          c.vacant.ensures c.filled.invariant.rest;
    }

pub invariant_of-self-2-clause-noted : goal.invariant_of-self-2-clause-noted
invariant_of-self-2-clause-noted c =
    let table = c.filled.self in
    noted-end table.filled.items c.clear.new.self.items c.filled.at table.first table.last 4294967295 0 table.places.items
    c.clear.ensures.items (omega (arith, c.filled-test.false, c.filled.invariant.end, table.filled.ok))
    c.filled.invariant.rest
