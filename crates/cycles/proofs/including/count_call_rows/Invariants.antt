use Rattle.std.proofs.Common.{take}
use Rattle.cycles.specs.inner.Counting.{Counts}
use Rattle.cycles.proofs.including.count_call_rows.Given as goal

abbrev pub invariant-rows : goal.invariant-rows
invariant-rows l = Counts l.profile l.groups l.pairs.arcs.items l.profile.self_rows (take l.i l.profile.call_rows) l.sums
