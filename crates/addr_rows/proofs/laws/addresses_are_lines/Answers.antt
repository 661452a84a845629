use Rattle.addr_rows.proofs.AddressMapLemmas.{address_entry, address_place}
use Rattle.addr_rows.proofs.laws.addresses_are_lines.Goals as goal

pub returns-clause-places : goal.returns-clause-places
returns-clause-places c = λ m address. address_place m address

pub returns-clause-entries : goal.returns-clause-entries
returns-clause-entries c = λ m address. address_entry m address
