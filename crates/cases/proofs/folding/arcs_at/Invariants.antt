use Rattle.std.proofs.Common.{All}
use Rattle.cases.specs.Small.{IsSmallFrom}
use Rattle.cases.proofs.folding.arcs_at.Given as goal

abbrev pub invariant-rows : goal.invariant-rows
invariant-rows l = All IsSmallFrom l.arcs.items
