use Rattle.std.proofs.Common.{◌-◌, arith}
use Rattle.event_costs.proofs.CostLemmas.{zip2_from_places}
use Rattle.event_costs.proofs.cost.subtract_numbers.Goals as goal

pub returns : goal.returns
returns c =
    zip2_from_places (λ x y. x - y) c.places.rests c.args.rests.now c.args.numbers.now c.requires.alike (omega arith)
    (λ k lt. c.places.invariant.done k (omega arith))
