use Rattle.std.proofs.Common.{◌≤◌, All, List, ℕ, ◌∙◌, subst, arith}
use Rattle.std.proofs.lemmas.List.{get_or-replicate}
use Rattle.event_costs.proofs.OneLemmas.{ones_are_few, ones_from_places}
use Rattle.event_costs.proofs.ones.Ones.cost.Goals as goal

pub returns-clause-cost : goal.returns-clause-cost
returns-clause-cost c =
    ones_from_places c.self.inside.bits c.add_bits.new.sums c.add_bits.ensures.same_length
    (λ k within.
    let first = get_or-replicate {A = ℕ} 13 k 0 0 within in
    omega (arith, first, c.add_bits.ensures.added k (omega arith) within))
    ∙ c.self.view_is

pub returns-clause-ones : goal.returns-clause-ones
returns-clause-ones c =
    subst (λ (ones : List ℕ). All (λ n. n ≤ 1) ones) c.self.view_is (ones_are_few c.self.inside.bits)
