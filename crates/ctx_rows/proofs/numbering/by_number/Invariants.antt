use Rattle.std.proofs.Common.{◌≡◌, ◌++◌, List, map, take}
use Rattle.contexts.specs.Contexts.{Context}
use Rattle.ctx_rows.specs.Telling.{named_arc, named_line}
use Rattle.ctx_rows.proofs.numbering.by_number.Given as goal

abbrev pub invariant-lines : goal.invariant-lines
invariant-lines l =
    (more : List Context) → map (named_line (map (λ list. list.items) l.lists.items ++ more)) l.lines.items
    ≡ take l.row-index l.row-items

abbrev pub invariant-arcs : goal.invariant-arcs
invariant-arcs l = record {
  lines : (more : List Context)
      → map (named_line (map (λ list. list.items) l.lists.items ++ more)) l.lines.items ≡ l.rows.rows.lines;
  arcs : (more : List Context)
      → map (named_arc (map (λ list. list.items) l.lists.items ++ more)) l.arcs.items ≡ take l.row-index l.row-items;
}
