use Rattle.std.proofs.Common.{arith, refl}
use Rattle.rv_step.proofs.TableLemmas.{kept-fewer, kept-gone, noted-without, place-below, read-elsewhere}
use Rattle.rv_step.proofs.instr_table.InstrTable.forget_word.Goals as goal

pub returns-then-index-pc-clause-fewer : goal.returns-then-index-pc-clause-fewer
returns-then-index-pc-clause-fewer c =
    kept-fewer c.args.self.now _ c.place_of-place.result _ refl c.args.self.now.whole
    (place-below c.args.pc c.place_of-place.result c.place_of-place.ensures) c.vacant.ensures

pub returns-then-index-pc-clause-gone : goal.returns-then-index-pc-clause-gone
returns-then-index-pc-clause-gone c =
    kept-gone c.args.self.now _ c.place_of-place.result c.args.pc _ refl c.place_of-place.ensures
    c.args.self.now.whole c.vacant.ensures

pub returns-else-index-pc-clause-gone : goal.returns-else-index-pc-clause-gone
returns-else-index-pc-clause-gone c =
    read-elsewhere c.args.self.now c.place_of-place.result c.args.pc c.index.result.now c.index.ensures
    c.place_of-place.ensures c.if-index-pc.false

pub invariant_of-self-clause-noted : goal.invariant_of-self-clause-noted
invariant_of-self-clause-noted c =
    let table = c.args.self.now in
    noted-without table.filled.items table.first table.last c.place_of-place.result table.places.items c.vacant.result
    (omega (arith, table.whole, place-below c.args.pc c.place_of-place.result c.place_of-place.ensures))
    c.vacant.ensures table.noted
