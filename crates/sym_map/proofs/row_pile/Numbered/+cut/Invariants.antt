use Rattle.std.proofs.Common.{◌-◌}
use Rattle.sym_map.proofs.row_pile.Numbered.+cut.Given as goal

abbrev pub decreases-cut : goal.decreases-cut
decreases-cut l = l.last - l.first
