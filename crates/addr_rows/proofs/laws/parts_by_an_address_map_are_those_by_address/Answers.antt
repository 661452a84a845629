use Rattle.addr_rows.proofs.TranslatedLemmas.{so_far, whole}
use Rattle.addr_rows.proofs.laws.parts_by_an_address_map_are_those_by_address.Goals as goal

pub returns : goal.returns
returns c = record {
  whole = λ head m base asked steps tried on. whole m head base asked steps on tried;
  so_far = λ head m base asked steps on. so_far m head base asked steps on;
}
