use Rattle.std.proofs.Common.{◌≡◌, ◌++◌, map}
use Rattle.std.specs.Vec.Iter.{into_iter_items}
use Rattle.cases_reading.proofs.reports.with_sources.Given as goal

abbrev pub invariant-names : goal.invariant-names
invariant-names l = map (λ t. t.0) l.items.items ++ into_iter_items l.name-iterator ≡ l.fn.names.items
