use Rattle.std.proofs.Common.{◌≡◌, map, take}
use Rattle.addr_rows.specs.EventRows.{located_arc, located_line}
use Rattle.addr_costs.proofs.placing.located_rows.Given as goal

abbrev pub invariant-lines : goal.invariant-lines
invariant-lines l = l.lines.items ≡ map (located_line l.syms) (take l.row-index l.row-items)

abbrev pub invariant-arcs : goal.invariant-arcs
invariant-arcs l = l.arcs.items ≡ map (located_arc l.syms) (take l.row-index l.row-items)
