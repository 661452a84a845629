use Rattle.std.proofs.Common.{arith}
use Rattle.rv_step.proofs.TableLemmas.{apart-above, apart-below, none-kept}
use Rattle.rv_step.proofs.instr_table.InstrTable.forget_within.Goals as goal

pub returns-then-end-from-clause-apart : goal.returns-then-end-from-clause-apart
returns-then-end-from-clause-apart c =
    apart-below c.args.self.now c.args.address c.args.bytes
    (omega (arith, c.from.ensures, c.from-2.ensures, c.from-3.ensures, c.if-end-from.true))

pub returns-then-from-clause-apart : goal.returns-then-from-clause-apart
returns-then-from-clause-apart c =
    apart-above c.args.self.now c.args.address c.args.bytes
    (omega (arith, c.from-4.ensures, c.from-5.ensures, c.if-from.true))

pub returns-clause-fewer : goal.returns-clause-fewer
returns-clause-fewer c = λ q i given. let none = none-kept c.empty.new.self q c.empty.ensures in cc

pub returns-clause-apart : goal.returns-clause-apart
returns-clause-apart c = λ q i given. let none = none-kept c.empty.new.self q c.empty.ensures in cc
