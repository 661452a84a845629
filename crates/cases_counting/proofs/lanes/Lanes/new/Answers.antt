use Rattle.cases_counting.proofs.LaneLemmas.{begun_lanes}
use Rattle.cases_counting.proofs.lanes.Lanes.new.Goals as goal

pub invariant_of-result-2 : goal.invariant_of-result-2
invariant_of-result-2 c =
    begun_lanes c.new.result.slots _ c.new-2.result.head c.new-3.result.head c.new-4.result.head c.new-2.ensures
    c.new-3.ensures c.new-4.ensures
