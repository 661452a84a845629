use Rattle.std.proofs.Common.{length}
use Rattle.dwarf_line.proofs.Reading.{ReadsOn}
use Rattle.dwarf_line.proofs.section.read_units.Given as goal

abbrev pub invariant-units : goal.invariant-units
invariant-units l = ReadsOn l.strings l.section l.builder l.cursor

abbrev pub decreases-units : goal.decreases-units
decreases-units l = length l.cursor
