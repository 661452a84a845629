use Rattle.std.proofs.Common.{◌≡◌, ◌++◌, take, flat_map, get_or}
use Rattle.report_rows.specs.Entries.{entry_values}
use Rattle.annotate.specs.inner.Layout.{neighbour_line}
use Rattle.annotate.proofs.calls.Calls.put_neighbours.Given as goal

abbrev pub invariant-places : goal.invariant-places
invariant-places l = l.text ≡ l.initial.text
    ++ flat_map (λ e. neighbour_line l.self.view.now l.mark l.function (get_or l.self.view.now.functions.now e.0 0)
    (entry_values e.1.items))
    (take l.place-index l.place-items)
