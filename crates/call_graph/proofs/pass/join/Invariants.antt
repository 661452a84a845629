use Rattle.std.proofs.Common.{◌+◌, length}
use Rattle.call_graph.proofs.CutLemmas.{IsCutSoFar}
use Rattle.call_graph.proofs.pass.join.Given as goal

abbrev pub invariant-marks : goal.invariant-marks
invariant-marks l = IsCutSoFar l.initial.marks.items (l.place + 1) l.marks.items

abbrev pub decreases-marks : goal.decreases-marks
decreases-marks l = length l.marks.items
