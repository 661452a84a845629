use Rattle.std.proofs.Common.{All}
use Rattle.cases.specs.Small.{IsSmallLine}
use Rattle.cases.proofs.folding.lines.Given as goal

abbrev pub invariant-rows : goal.invariant-rows
invariant-rows l = All IsSmallLine l.lines.items
