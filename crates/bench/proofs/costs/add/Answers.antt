use Rattle.std.proofs.Common.{◌≤◌, ℕ, Bool, true, false, [], ◌∷◌, get_or, refl, ap, arith, if◌then◌else◌}
use Rattle.arc_costs.specs.Lines.{line, line_sum, place_of}
use Rattle.event_costs.specs.Order.{same_place}
use Rattle.arc_costs.specs.Rows.{LineRow}
use Rattle.arc_costs.proofs.RowLemmas.{sum_at-append, sum_at_one}
use Rattle.bench.proofs.costs.add.Goals as goal

at_most : (b : Bool) (n : ℕ) → (if b then n else 0) ≤ n
at_most true n = omega arith
at_most false n = omega arith

pub add_line_ones_near-requires-clause-fits : goal.add_line_ones_near-requires-clause-fits
add_line_ones_near-requires-clause-fits c =
    λ event.
    let place = c.place_at.result in
    let now = ap (line_sum event place) c.reserve.ensures.lines in
    omega (arith, now, c.additions.invariant event place, c.unit-ones.ensures event)

pub additions-preserved : goal.additions-preserved
additions-preserved c =
    λ event place.
    let number : LineRow → ℕ = λ row. get_or row.cost event 0 in
    let old = c.reserve.new.self.lines in
    let new = line c.place_at.result c.unit-ones.result in
    let stands = c.add_line_ones_near.ensures.stands old (λ e p. refl) event place in
    let all = sum_at-append place_of same_place number place old (new ∷ []) in
    let one = sum_at_one place_of same_place number place new in
    let now = ap (line_sum event place) c.reserve.ensures.lines in
    omega (
      arith,
      stands,
      all,
      one,
      now,
      at_most (same_place place new.place) (get_or new.cost event 0),
      c.additions.invariant event place,
      c.unit-ones.ensures event,
    )
