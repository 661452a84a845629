use Rattle.std.proofs.Common.{◌≡◌, map, take}
use Rattle.report_rows.specs.Entries.{entry_values, call_entry}
use Rattle.report_rows.proofs.entries.call_entries.Given as goal

abbrev pub invariant-rows : goal.invariant-rows
invariant-rows l = entry_values l.entries.items ≡ map (call_entry l.places l.end) (take l.row-index l.rows)
