use Rattle.std.proofs.Common.{◌≡◌, ◌++◌, flat_map, take}
use Rattle.wait_report.specs.Texts.{row_text}
use Rattle.wait_report.proofs.writing.push_rows.Given as goal

abbrev pub invariant-rows : goal.invariant-rows
invariant-rows l = l.text ≡ l.initial.text ++ flat_map (row_text l.fn.branch) (take l.row-index l.rows)
