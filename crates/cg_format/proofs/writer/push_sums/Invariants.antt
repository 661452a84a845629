use Rattle.std.proofs.Common.{◌≡◌, ◌++◌, take}
use Rattle.cg_format.specs.Marks.{cost_text}
use Rattle.cg_format.proofs.writer.push_sums.Given as goal

abbrev pub invariant-sums : goal.invariant-sums
invariant-sums l = l.text ≡ l.initial.text ++ cost_text (take l.sum-index l.sums)
