use Rattle.once_each.proofs.KnownLemmas.{functions_once}
use Rattle.once_each.proofs.LawLemmas.{pair_once}
use Rattle.once_each.proofs.inclusive.pair_costs_count_each_event_once.Goals as goal

pub returns-clause-profile : goal.returns-clause-profile
returns-clause-profile c =
    λ syms trace numbers p caller callee kind is within apart.
    pair_once syms trace numbers p is caller callee kind within apart

pub returns-clause-functions : goal.returns-clause-functions
returns-clause-functions c =
    λ syms trace numbers p caller callee kind is within of_map own known_caller known_callee mine theirs apart.
    functions_once syms trace of_map numbers p is own caller callee kind within known_caller known_callee mine theirs
    apart
