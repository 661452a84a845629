use Rattle.std.proofs.Common.{◌≡◌, ◌++◌, map, take}
use Rattle.cg_format.specs.declared.row.Row.TheVariants.{Line, Arc}
use Rattle.cg_format.proofs.row.all_rows.Given as goal

abbrev pub invariant-lines : goal.invariant-lines
invariant-lines g l = l.all.items ≡ map Line (take l.row-index l.row-items)

abbrev pub invariant-arcs : goal.invariant-arcs
invariant-arcs g l = l.all.items ≡ l.initial.all.items ++ map Arc (take l.row-index l.row-items)
