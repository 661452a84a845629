use Rattle.std.proofs.Common.{◌≡◌, ◌++◌, ◌+◌, [], map, flat_map, codes, get_or}
use Rattle.report_rows.specs.Orders.{numbers}
use Rattle.annotate.specs.Sources.{shown_byte}
use Rattle.report_rows.specs.Entries.{values_at}
use Rattle.annotate.specs.inner.SourceRows.{costs_or_dot, pieces}
use Rattle.annotate.proofs.sources.put_lines.Given as goal

abbrev pub invariant-lines : goal.invariant-lines
invariant-lines l = l.text ≡ l.initial.text ++ flat_map
    (λ i. costs_or_dot l.events (values_at l.rows (i + 1)) ++ codes " | "
    ++ map shown_byte (get_or (pieces l.lines) i []) ++ codes "\n") (numbers l.i)
