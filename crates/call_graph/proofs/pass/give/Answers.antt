use Rattle.std.proofs.Common.{◌+◌, length, get_or, arith}
use Rattle.call_graph.specs.inner.Pass.{IsFair, ranks}
use Rattle.call_graph.specs.declared.visit_state.VisitState.TheVariants.{Closed}
use Rattle.std.proofs.lemmas.List.Elements.{All-set}
use Rattle.call_graph.proofs.GiveLemmas.{given_more, ranks_given}
use Rattle.call_graph.proofs.pass.give.Goals as goal

pub functions-preserved : goal.functions-preserved
functions-preserved c = (
  ranks_given (ranks c.args.states.now) c.args.functions.now (c.functions.function-index + 1) c.functions.states
      (length c.args.states.now) c.args.group (get_or c.args.functions.now c.functions.function-index 0)
      c.functions.auto.states
      (given_more (ranks c.args.states.now) c.args.functions.now
      (length c.args.states.now + 1 + c.args.group) c.functions.function-index (ranks c.functions.states)
      c.functions-test.true (omega arith)
      (c.requires.met c.functions.function-index 0 c.functions-test.true) c.functions.invariant.0),
  λ n fair. All-set (IsFair n) c.functions.states (get_or c.args.functions.now c.functions.function-index 0)
      (Closed c.args.group) tt (c.functions.invariant.1 n fair),
)
