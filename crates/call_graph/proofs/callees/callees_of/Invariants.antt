use Rattle.std.proofs.Common.{take}
use Rattle.call_graph.specs.inner.Rows.{IsRows, lists}
use Rattle.call_graph.proofs.callees.callees_of.Given as goal

abbrev pub invariant-arcs : goal.invariant-arcs
invariant-arcs l = IsRows l.functions (take l.arc-index l.arcs) (lists l.rows.items)
