use Rattle.rv_step.proofs.TableLemmas.{none-kept}
use Rattle.rv_step.proofs.instr_table.InstrTable.make_room.Goals as goal

pub returns-then-len-ge-PLACES-clause-fewer : goal.returns-then-len-ge-PLACES-clause-fewer
returns-then-len-ge-PLACES-clause-fewer c = λ q i given. let none = none-kept c.empty.new.self q c.empty.ensures in cc
