use Rattle.std.proofs.Common.{length}
use Rattle.sym_map.proofs.cut.+cut.Given as goal

abbrev pub decreases-cut : goal.decreases-cut
decreases-cut l = length l.spans.now
