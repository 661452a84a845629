use Rattle.std.proofs.Common.{◌≡◌, fold, take}
use Rattle.cases_parts.specs.TallyState.{mix_number}
use Rattle.cases_parts.proofs.tally.mix_all.Given as goal

abbrev pub invariant-numbers : goal.invariant-numbers
invariant-numbers l = l.after ≡ fold mix_number l.order (take l.number-index l.numbers)
