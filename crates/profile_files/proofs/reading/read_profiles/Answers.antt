use Rattle.profile_files.proofs.CompleteLemmas.{IsComplete-from}
use Rattle.profile_files.proofs.reading.read_profiles.Goals as goal

pub returns-clause-complete : goal.returns-clause-complete
returns-clause-complete g c = IsComplete-from _ _ _ _ _ _ c.read_in_order.ensures.reading
