use Rattle.std.proofs.Common.{All}
use Rattle.cg_format.specs.Part.{IsKnownLine}
use Rattle.cases_parts.proofs.rows.many_rows.Given as goal

abbrev pub invariant-lines : goal.invariant-lines
invariant-lines l = All (IsKnownLine l.map) l.lines.items
