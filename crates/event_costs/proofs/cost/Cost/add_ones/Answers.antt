use Rattle.std.proofs.Common.{◌≡◌, ◌+◌, ◌<◌, length, get_or, ℕ, ap, sym, ◌∙◌, arith}
use Rattle.std.specs.Int.{bit_at}
use Rattle.std.proofs.lemmas.List.{length-set}
use Rattle.event_costs.specs.Costs.{event_kinds}
use Rattle.event_costs.proofs.OneLemmas.{bit_fits, each_place, fetch_added, length-ones_in, no_bit, sum_from_bits}
use Rattle.event_costs.proofs.cost.Cost.add_ones.Goals as goal

pub overflow_add-self : goal.overflow_add-self
overflow_add-self c =
    let one : bit_at c.ones.inside.bits 0 ≡ 1 = ap (λ (bits : ℕ). bit_at bits 0) c.if-ones-eq-FETCH_ALONE.true in
    let fits = bit_fits c.ones.inside.bits c.self.inside.n c.args.self.now c.args.ones.now c.self.view_is
    c.ones.view_is c.self.invariant c.requires 0 (omega arith) in
    omega (arith, one, fits)

pub returns-then-ones-eq-FETCH_ALONE-clause-sum : goal.returns-then-ones-eq-FETCH_ALONE-clause-sum
returns-then-ones-eq-FETCH_ALONE-clause-sum c =
    sum_from_bits c.ones.inside.bits _ c.self.inside.n c.args.self.now c.args.ones.now c.self.view_is c.ones.view_is
    c.self.invariant (length-set c.self.inside.n 0 (get_or c.self.inside.n 0 0 + 1))
    (λ k within. let one = ap (λ (bits : ℕ). bit_at bits k) c.if-ones-eq-FETCH_ALONE.true in
    omega (arith, one, fetch_added c.self.inside.n k c.self.invariant))

pub returns-then-ones-eq-FETCH_ALONE-clause-whole : goal.returns-then-ones-eq-FETCH_ALONE-clause-whole
returns-then-ones-eq-FETCH_ALONE-clause-whole c =
    ap (length {A = ℕ}) (sym c.ones.view_is) ∙ length-ones_in c.ones.inside.bits

pub add_bits-requires-clause-fits : goal.add_bits-requires-clause-fits
add_bits-requires-clause-fits c =
    λ kind from below.
    bit_fits c.ones.inside.bits c.self.inside.n c.args.self.now c.args.ones.now c.self.view_is c.ones.view_is
    c.self.invariant c.requires kind (omega arith)

pub add_seldom-requires-clause-fits : goal.add_seldom-requires-clause-fits
add_seldom-requires-clause-fits c =
    λ kind from below.
    let fits = bit_fits c.ones.inside.bits c.self.inside.n c.args.self.now c.args.ones.now c.self.view_is
    c.ones.view_is c.self.invariant c.requires kind below in
    omega (arith, fits, c.add_bits.ensures.above kind from)

pub returns-then-ones-ne0-clause-sum : goal.returns-then-ones-ne0-clause-sum
returns-then-ones-ne0-clause-sum c =
    sum_from_bits c.ones.inside.bits c.add_seldom.new.sums c.self.inside.n c.args.self.now c.args.ones.now
    c.self.view_is c.ones.view_is c.self.invariant (c.add_seldom.ensures.same_length ∙ c.add_bits.ensures.same_length)
    (each_place (λ k. k < event_kinds
    → get_or c.add_seldom.new.sums k 0 ≡ get_or c.self.inside.n k 0 + bit_at c.ones.inside.bits k)
    (λ k low within. omega (arith, c.add_seldom.ensures.below k low, c.add_bits.ensures.added k (omega arith) low))
    (λ k high within. omega (
      arith,
      c.add_seldom.ensures.added k high within,
      c.add_bits.ensures.above k high,
    )))

pub returns-then-ones-ne0-clause-whole : goal.returns-then-ones-ne0-clause-whole
returns-then-ones-ne0-clause-whole c =
    ap (length {A = ℕ}) (sym c.ones.view_is) ∙ length-ones_in c.ones.inside.bits

pub returns-else-ones-ne0-clause-sum : goal.returns-else-ones-ne0-clause-sum
returns-else-ones-ne0-clause-sum c =
    let few : c.ones.inside.bits < 8 = omega (arith, c.if-ones-ne0.false) in
    sum_from_bits c.ones.inside.bits c.add_bits.new.sums c.self.inside.n c.args.self.now c.args.ones.now
    c.self.view_is c.ones.view_is c.self.invariant c.add_bits.ensures.same_length
    (each_place (λ k. k < event_kinds
    → get_or c.add_bits.new.sums k 0 ≡ get_or c.self.inside.n k 0 + bit_at c.ones.inside.bits k)
    (λ k low within. c.add_bits.ensures.added k (omega arith) low)
    (λ k high within. omega (arith, no_bit c.ones.inside.bits k few high, c.add_bits.ensures.above k high)))

pub returns-else-ones-ne0-clause-whole : goal.returns-else-ones-ne0-clause-whole
returns-else-ones-ne0-clause-whole c =
    ap (length {A = ℕ}) (sym c.ones.view_is) ∙ length-ones_in c.ones.inside.bits
