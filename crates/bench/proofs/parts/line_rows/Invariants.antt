use Rattle.std.proofs.Common.{All}
use Rattle.cg_format.specs.Part.{IsKnownLine}
use Rattle.bench.proofs.parts.line_rows.Given as goal

abbrev pub invariant-rows : goal.invariant-rows
invariant-rows l = All (IsKnownLine l.map) l.rows.items
