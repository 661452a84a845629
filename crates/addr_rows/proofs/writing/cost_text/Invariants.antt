use Rattle.std.proofs.Common.{◌≡◌, ◌++◌, take}
use Rattle.cg_format.specs.Marks.{cost_text}
use Rattle.addr_rows.specs.Texts.{position}
use Rattle.addr_rows.proofs.writing.cost_text.Given as goal

abbrev pub invariant-costs : goal.invariant-costs
invariant-costs l = l.text ≡ position l.address l.line ++ cost_text (take l.number-index l.number-items)
