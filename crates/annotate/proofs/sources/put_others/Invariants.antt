use Rattle.std.proofs.Common.{◌≡◌, ◌++◌, take, flat_map}
use Rattle.std.specs.Prelude.{filter}
use Rattle.report_rows.specs.Entries.{entry_values}
use Rattle.annotate.specs.inner.SourceRows.{is_outside, other_with}
use Rattle.annotate.proofs.sources.put_others.Given as goal

abbrev pub invariant-lines : goal.invariant-lines
invariant-lines l = l.text ≡ l.initial.text ++ flat_map (λ e. other_with l.events e.0 (entry_values e.1.items))
    (filter (λ e. is_outside l.count e.0) (take l.line-index l.rows))
