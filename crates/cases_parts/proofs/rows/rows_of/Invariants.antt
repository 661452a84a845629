use Rattle.std.proofs.Common.{All}
use Rattle.cg_format.specs.Part.{IsKnownArc, IsKnownLine}
use Rattle.cases_parts.proofs.rows.rows_of.Given as goal

abbrev pub invariant-rows : goal.invariant-rows
invariant-rows l = record {
  lines : All (IsKnownLine l.map) l.lines.items;
  arcs : All (IsKnownArc l.map) l.arcs.items;
}
