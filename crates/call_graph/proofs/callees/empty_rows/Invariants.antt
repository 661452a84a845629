use Rattle.std.proofs.Common.{◌≡◌, [], replicate}
use Rattle.call_graph.specs.inner.Rows.{lists}
use Rattle.call_graph.proofs.callees.empty_rows.Given as goal

abbrev pub invariant-functions : goal.invariant-functions
invariant-functions l = lists l.rows.items ≡ replicate l._function []
