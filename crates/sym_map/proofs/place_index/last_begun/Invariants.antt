use Rattle.std.proofs.Common.{◌≤◌, ◌-◌, length}
use Rattle.sym_map.proofs.place_index.last_begun.Given as goal

abbrev pub invariant-ranges-2 : goal.invariant-ranges-2
invariant-ranges-2 l = l.number ≤ length l.ranges

abbrev pub decreases-ranges-2 : goal.decreases-ranges-2
decreases-ranges-2 l = length l.ranges - l.number
