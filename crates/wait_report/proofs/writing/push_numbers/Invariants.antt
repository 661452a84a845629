use Rattle.std.proofs.Common.{◌≡◌, ◌++◌, take}
use Rattle.cg_format.specs.Marks.{cost_text}
use Rattle.wait_report.proofs.writing.push_numbers.Given as goal

abbrev pub invariant-numbers : goal.invariant-numbers
invariant-numbers l = l.text ≡ l.initial.text ++ cost_text (take l.number-index l.numbers)
