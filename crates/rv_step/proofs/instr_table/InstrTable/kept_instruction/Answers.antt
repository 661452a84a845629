use Rattle.std.proofs.Common.{sym}
use Rattle.rv_step.proofs.TableLemmas.{read-same, read-elsewhere}
use Rattle.rv_step.proofs.instr_table.InstrTable.kept_instruction.Goals as goal

pub returns-then-found-pc-clause-kept : goal.returns-then-found-pc-clause-kept
returns-then-found-pc-clause-kept c =
    sym (read-same c.args.self.now c.place_of.result c.args.pc c.index-found.result.now c.index-found.ensures
    c.place_of.ensures c.if-found-pc.true)

pub returns-clause-kept : goal.returns-clause-kept
returns-clause-kept c =
    sym (read-elsewhere c.args.self.now c.place_of.result c.args.pc c.index-found.result.now c.index-found.ensures
    c.place_of.ensures c.if-found-pc.false)
