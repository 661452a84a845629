use Rattle.std.proofs.Common.{arith}
use Rattle.std.specs.Prelude.{is_ok}
use Rattle.rv_step.specs.inner.Table.{kept_instruction}
use Rattle.rv_step.proofs.TableLemmas.{noted-last, noted-push}
use Rattle.rv_step.proofs.instr_table.InstrTable.note.Goals as goal

pub invariant_of-self-clause-noted : goal.invariant_of-self-clause-noted
invariant_of-self-clause-noted c =
    let table = c.make_room.new.self in
    noted-push table.filled.items c.push.new.self.items (is_ok c.push.result) table.first table.last c.args.pc
    table.places.items c.push.ensures.items table.noted

pub returns-clause-noted : goal.returns-clause-noted
returns-clause-noted c =
    let table = c.make_room.new.self in
    noted-last table.filled.items c.push.new.self.items (is_ok c.push.result) c.args.pc c.push.ensures.items
    (c.push.ensures.succeeds (omega (arith, c.make_room.ensures.room, table.room)))

pub returns-clause-fewer : goal.returns-clause-fewer
unfolding kept_instruction
returns-clause-fewer c = c.make_room.ensures.fewer
