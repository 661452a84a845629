use Rattle.std.proofs.Common.{All}
use Rattle.cases.specs.Small.{IsSmallAt}
use Rattle.cases.proofs.folding.lines_at.Given as goal

abbrev pub invariant-rows : goal.invariant-rows
invariant-rows l = All IsSmallAt l.lines.items
