use Rattle.std.proofs.Common.{All}
use Rattle.cases.specs.Small.{IsSmallArc}
use Rattle.cases.proofs.folding.arcs.Given as goal

abbrev pub invariant-rows : goal.invariant-rows
invariant-rows l = All IsSmallArc l.arcs.items
