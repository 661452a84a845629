use Rattle.std.proofs.Common.{◌≡◌, take, map}
use Rattle.cg_read.specs.inner.Gains.{renumber}
use Rattle.cg_read.proofs.functions.renumber.Given as goal

abbrev pub invariant-functions : goal.invariant-functions
invariant-functions l = l.copies.items ≡ map (renumber l.numbers) (take l.function-index l.functions)
