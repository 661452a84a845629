use Rattle.std.proofs.Common.{◌≡◌, map, take}
use Rattle.annotate.specs.Names.{costs_text}
use Rattle.report_rows.specs.Entries.{costs_of, entry_values}
use Rattle.annotate.proofs.names.sum_texts.Given as goal

abbrev pub invariant-lists : goal.invariant-lists
invariant-lists l = l.texts.items ≡ map (λ entries. costs_text (costs_of l.events (entry_values entries.items)))
    (take l.entries-index l.lists)
