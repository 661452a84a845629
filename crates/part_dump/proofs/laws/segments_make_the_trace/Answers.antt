use Rattle.part_dump.proofs.CutLemmas.{cuts_limit, cuts_push, cuts_together}
use Rattle.part_dump.proofs.laws.segments_make_the_trace.Goals as goal

pub returns : goal.returns
returns c = record { together = cuts_together; most = cuts_limit; one_more = cuts_push }
