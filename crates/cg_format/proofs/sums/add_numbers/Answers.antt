use Rattle.std.proofs.Common.{◌<◌, ◌≤◌, ◌+◌, ◌^◌, arith}
use Rattle.std.proofs.lemmas.List.Elements.{All-from_get_or, All-get_or}
use Rattle.event_costs.proofs.CostLemmas.{zip2_from_places}
use Rattle.cg_format.proofs.sums.add_numbers.Goals as goal

pub overflow_add-sums : goal.overflow_add-sums
overflow_add-sums c =
    let fits = All-get_or (λ n. n + 2 ^ 64 < 2 ^ 128) c.args.sums.now c.places.i 0 (omega arith) c.requires.small in
    omega (arith, fits, c.places.invariant.rest c.places.i)

pub returns-clause-sums : goal.returns-clause-sums
returns-clause-sums c =
    zip2_from_places (λ x y. x + y) c.places.sums c.args.sums.now c.args.numbers.now c.requires.alike (omega arith)
    (λ k lt. c.places.invariant.done k (omega arith))

pub returns-clause-bound : goal.returns-clause-bound
returns-clause-bound c limit small =
    All-from_get_or (λ n. n ≤ limit + 2 ^ 64) c.places.sums 0
    (λ k lt. omega (
      arith,
      c.places.invariant.done k (omega arith),
      All-get_or (λ n. n ≤ limit) c.args.sums.now k 0 (omega arith) small,
      c.type_inv.numbers k,
    ))
