use Rattle.once_each.specs.Graphs.{TakesPart, graph}
use Rattle.once_each.proofs.GroupLemmas.{groups_numbered, same_groups, same_steps}
use Rattle.once_each.proofs.KnownLemmas.{known_groups}
use Rattle.once_each.proofs.graphs.rows_have_the_graph_of_the_trace.Goals as goal

pub returns-clause-steps : goal.returns-clause-steps
returns-clause-steps c = λ syms trace parts f g are. same_steps syms trace parts are f g

pub returns-clause-groups : goal.returns-clause-groups
returns-clause-groups c = λ syms trace parts f g are. same_groups syms trace parts are f g

pub returns-clause-numbered : goal.returns-clause-numbered
returns-clause-numbered c =
    λ syms trace numbers p f g is apart part_f part_g.
    groups_numbered syms trace numbers p is (TakesPart (graph syms trace)) (λ h part. part)
    (λ h k part_h part_k. apart k h part_k part_h) f g part_f part_g (apart f g part_f part_g)

pub returns-clause-known : goal.returns-clause-known
returns-clause-known c = λ syms trace numbers p f g is of_map own known_f known_g mine.
    known_groups syms trace of_map numbers p is own f g known_f known_g mine
