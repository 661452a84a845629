use Rattle.std.proofs.Common.{◌≡◌, map, take}
use Rattle.report_rows.specs.Entries.{entry_values, self_entry}
use Rattle.report_rows.proofs.entries.self_entries.Given as goal

abbrev pub invariant-rows : goal.invariant-rows
invariant-rows l = entry_values l.entries.items ≡ map (self_entry l.by) (take l.row-index l.rows)
