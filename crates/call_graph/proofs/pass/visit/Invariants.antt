use Rattle.std.proofs.Common.{◌<◌, get_or}
use Rattle.call_graph.specs.inner.Rows.{lists}
use Rattle.call_graph.specs.inner.Pass.{IsLater, ranks, remaining}
use Rattle.call_graph.proofs.pass.visit.Given as goal

abbrev pub invariant-steps : goal.invariant-steps
invariant-steps l = IsLater (lists l.rows) l.fn.pass l.pass × (0 < get_or (ranks l.pass.states.items) l.root 0)

abbrev pub decreases-steps : goal.decreases-steps
decreases-steps l = remaining (lists l.rows) l.pass
