use Rattle.run_watches.proofs.KindLemmas.{addresses_are, contexts_are, nobody_is, waits_are}
use Rattle.run_watches.proofs.laws.each_watch_is_of_its_kind.Goals as goal

pub returns-clause-nobody : goal.returns-clause-nobody
returns-clause-nobody g = nobody_is

pub returns-clause-waits : goal.returns-clause-waits
returns-clause-waits g = waits_are

pub returns-clause-contexts : goal.returns-clause-contexts
returns-clause-contexts g = contexts_are

pub returns-clause-addresses : goal.returns-clause-addresses
returns-clause-addresses g = addresses_are
