use Rattle.std.proofs.Common.{take}
use Rattle.report_rows.specs.Entries.{AreAtPlaces, entry_values}
use Rattle.report_rows.proofs.entries.by_place.Given as goal

abbrev pub invariant-entries : goal.invariant-entries
invariant-entries l = AreAtPlaces (entry_values (take l.entry-index l.entries)) l.places
