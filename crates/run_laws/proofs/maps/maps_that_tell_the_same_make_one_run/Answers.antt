use Rattle.run_laws.proofs.SameRunLemmas.{one_trace, parts_same, profile_same}
use Rattle.run_laws.proofs.maps.maps_that_tell_the_same_make_one_run.Goals as goal

pub returns-clause-trace : goal.returns-clause-trace
returns-clause-trace c = λ guest syms trace other stop end can same. one_trace guest can syms same trace other stop end

pub returns-clause-parts : goal.returns-clause-parts
returns-clause-parts c = λ guest syms past can same. parts_same guest can syms same past

pub returns-clause-profile : goal.returns-clause-profile
returns-clause-profile c = λ guest syms past p can same. profile_same guest can syms same past p
