use Rattle.std.proofs.Common.{length}
use Rattle.dwarf_line.proofs.Runs.{Continues}
use Rattle.dwarf_line.proofs.program.run.Given as goal

abbrev pub invariant-program : goal.invariant-program
invariant-program l = Continues l.numbering.before l.numbering.count l.header l.program l.fn.matrix l.matrix l.state
    l.cursor

abbrev pub decreases-program : goal.decreases-program
decreases-program l = length l.cursor
