use Rattle.profile_run.proofs.SizeLemmas.{parts_fit}
use Rattle.profile_run.proofs.laws.no_sum_passes_its_type.Goals as goal

pub returns : goal.returns
returns c = parts_fit
