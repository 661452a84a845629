use Rattle.std.proofs.Common.{◌<◌, ◌+◌, ◌^◌, arith}
use Rattle.event_costs.proofs.CostLemmas.{zip2_from_places, zip2_at}
use Rattle.event_costs.proofs.cost.add_numbers.Goals as goal

pub overflow_add-sums : goal.overflow_add-sums
overflow_add-sums c =
    let fits = zip2_at (λ x y. x + y) (λ n. n < 2 ^ 64) c.args.sums.now c.args.numbers.now c.places.i c.requires.alike
    (omega arith) c.requires.fits in
    omega (arith, fits, c.places.invariant.rest c.places.i)

pub returns : goal.returns
returns c =
    zip2_from_places (λ x y. x + y) c.places.sums c.args.sums.now c.args.numbers.now c.requires.alike (omega arith)
    (λ k lt. c.places.invariant.done k (omega arith))
