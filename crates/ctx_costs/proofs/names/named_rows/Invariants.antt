use Rattle.std.proofs.Common.{◌≡◌, map, take}
use Rattle.ctx_rows.specs.Telling.{named_arc, named_line}
use Rattle.ctx_costs.proofs.names.named_rows.Given as goal

abbrev pub invariant-lines : goal.invariant-lines
invariant-lines l = l.lines.items ≡ map (named_line l.contexts) (take l.row-index l.row-items)

abbrev pub invariant-arcs : goal.invariant-arcs
invariant-arcs l = l.arcs.items ≡ map (named_arc l.contexts) (take l.row-index l.row-items)
