use Rattle.std.proofs.Common.{All}
use Rattle.cg_format.specs.Part.{IsKnownArc}
use Rattle.bench.proofs.parts.arc_rows.Given as goal

abbrev pub invariant-rows : goal.invariant-rows
invariant-rows l = All (IsKnownArc l.map) l.rows.items
