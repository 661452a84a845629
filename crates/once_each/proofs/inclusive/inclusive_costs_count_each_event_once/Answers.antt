use Rattle.once_each.proofs.KnownLemmas.{function_once}
use Rattle.once_each.proofs.LawLemmas.{group_once, trace_group_once}
use Rattle.once_each.proofs.inclusive.inclusive_costs_count_each_event_once.Goals as goal

pub returns-clause-profile : goal.returns-clause-profile
returns-clause-profile c = λ syms trace numbers p member kind tops is within group.
    group_once syms trace numbers p is member kind tops within group

pub returns-clause-trace : goal.returns-clause-trace
returns-clause-trace c = λ syms trace numbers p group member kind tops is within is_group same.
    trace_group_once syms trace numbers p is group member kind tops within is_group same

pub returns-clause-function : goal.returns-clause-function
returns-clause-function c =
    λ syms trace numbers p group member func kind tops is within of_map own known mine of_graph here of_profile there.
    function_once syms trace of_map numbers p is own group member func kind tops within known mine of_graph here
    of_profile there
