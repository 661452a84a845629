use Rattle.part_dump.proofs.NameLemmas.{names_apart}
use Rattle.profile_run.proofs.NameLemmas.{names_differ}
use Rattle.profile_run.proofs.laws.parts_have_names_of_their_own.Goals as goal

pub returns-clause-one : goal.returns-clause-one
returns-clause-one c = names_apart

pub returns-clause-all : goal.returns-clause-all
returns-clause-all c = names_differ
