use Rattle.std.proofs.Common.{take}
use Rattle.std.specs.Prelude.{filter}
use Rattle.report_rows.specs.Entries.{HaveValues, of_list, entry_values}
use Rattle.report_rows.proofs.entries.lists_of.Given as goal

abbrev pub invariant-entries : goal.invariant-entries
invariant-entries l = HaveValues l.count (λ n. filter (of_list n) (entry_values (take l.entry-index l.entries))) l.lists.items
