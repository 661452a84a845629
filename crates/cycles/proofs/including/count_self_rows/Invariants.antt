use Rattle.std.proofs.Common.{List, [], length, take}
use Rattle.call_graph.specs.declared.arc.CallArc.{CallArc}
use Rattle.cycles.specs.inner.Counting.{Counts, HasShape}
use Rattle.cycles.proofs.including.count_self_rows.Given as goal

abbrev pub invariant-rows : goal.invariant-rows
invariant-rows l = record {
  shape : HasShape (length l.profile.events) (length l.groups.cyclic) (length l.initial.sums.pairs.items) l.sums;
  counts : (arcs : List CallArc) → Counts l.profile l.groups arcs [] [] l.initial.sums
      → Counts l.profile l.groups arcs (take l.row-index l.profile.self_rows) [] l.sums;
}
