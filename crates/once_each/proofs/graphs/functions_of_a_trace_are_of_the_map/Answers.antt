use Rattle.once_each.proofs.KnownLemmas.{known_part, stacks_of_map}
use Rattle.once_each.proofs.graphs.functions_of_a_trace_are_of_the_map.Goals as goal

pub returns-clause-stacks : goal.returns-clause-stacks
returns-clause-stacks c = stacks_of_map

pub returns-clause-graph : goal.returns-clause-graph
returns-clause-graph c = λ syms trace f of_map part. known_part syms trace of_map f part
