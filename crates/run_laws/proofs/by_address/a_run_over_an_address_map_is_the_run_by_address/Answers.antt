use Rattle.run_laws.proofs.AddrRunLemmas.{answers}
use Rattle.run_laws.proofs.by_address.a_run_over_an_address_map_is_the_run_by_address.Goals as goal

pub returns : goal.returns
returns c = λ guest old answer new is. answers guest old answer new is
