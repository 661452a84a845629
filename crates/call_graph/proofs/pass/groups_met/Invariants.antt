use Rattle.std.proofs.Common.{◌≡◌, map, take}
use Rattle.call_graph.specs.inner.Pass.{group_in}
use Rattle.call_graph.proofs.pass.groups_met.Given as goal

abbrev pub invariant-states : goal.invariant-states
invariant-states l = l.numbers.items ≡ map group_in (take l.state-index l.states)
