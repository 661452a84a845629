use Rattle.std.proofs.Common.{[], ◌∷◌, ◌++◌, map, ap, ◌∙◌, arith}
use Rattle.std.proofs.lemmas.List.{take_all}
use Rattle.wait_report.specs.Rows.{row_at, wait_rows}
use Rattle.wait_report.specs.declared.books.Spot.{Spot}
use Rattle.wait_report.proofs.TextLemmas.{map_more}
use Rattle.wait_report.proofs.books.Books.rows.Goals as goal

abbrev nowhere : Spot
nowhere = record { thread = record { 0 = 0 }; word = 0 }

pub rows-preserved : goal.rows-preserved
rows-preserved c = λ xs stands.
    c.in_ok-push.ensures.items
    ∙ (λ i. c.rows.invariant xs stands i ++ c.in_ok-row.ensures xs stands i ∷ [])
    ∙ map_more (row_at xs) c.deref-spot-items.result.now c.rows.spot-index nowhere (omega arith)

pub returns : goal.returns
unfolding wait_rows
returns c = λ xs stands.
    c.rows.invariant xs stands
    ∙ ap (map (row_at xs))
    (take_all c.rows.spot-index c.deref-spot-items.result.now (omega arith) ∙ c.deref-spot-items.ensures.value
    ∙ c.in_ok-spots.ensures xs stands)
