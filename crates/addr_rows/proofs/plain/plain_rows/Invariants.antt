use Rattle.std.proofs.Common.{◌≡◌, map, take}
use Rattle.addr_rows.specs.Plain.{plain_arc, plain_line}
use Rattle.addr_rows.proofs.plain.plain_rows.Given as goal

abbrev pub invariant-lines : goal.invariant-lines
invariant-lines l = l.lines.items ≡ map plain_line (take l.row-index l.row-items)

abbrev pub invariant-arcs : goal.invariant-arcs
invariant-arcs l = l.arcs.items ≡ map plain_arc (take l.row-index l.row-items)
