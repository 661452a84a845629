use Rattle.std.proofs.Common.{◌+◌, length}
use Rattle.call_graph.specs.inner.Pass.{KeepsFair, ranks}
use Rattle.call_graph.proofs.GiveLemmas.{IsGivenTo}
use Rattle.call_graph.proofs.pass.give.Given as goal

abbrev pub invariant-functions : goal.invariant-functions
invariant-functions l =
    IsGivenTo (ranks l.initial.states) l.functions (length l.initial.states + 1 + l.group) l.function-index
    (ranks l.states)
    × KeepsFair l.initial.states l.states
