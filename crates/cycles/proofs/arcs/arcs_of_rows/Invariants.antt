use Rattle.std.proofs.Common.{◌≡◌, map, take}
use Rattle.cycles.specs.Costs.{arc_of}
use Rattle.cycles.proofs.arcs.arcs_of_rows.Given as goal

abbrev pub invariant-rows : goal.invariant-rows
invariant-rows l = l.arcs.items ≡ map arc_of (take l.row-index l.rows)
