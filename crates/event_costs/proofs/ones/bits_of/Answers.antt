use Rattle.std.proofs.Common.{◌≡◌, ◌<◌, ◌-◌, false, get_or, ap, sym, subst, ◌∙◌, arith, ℕ}
use Rattle.event_costs.proofs.OneLemmas.{byte_is, few_bits, last_more, one_where, one_where_few, twice_fits}
use Rattle.event_costs.proofs.ones.bits_of.Goals as goal

pub kinds-preserved : goal.kinds-preserved
kinds-preserved c =
    let is = c.from.ensures ∙ byte_is _ in
    let small : c.from.result < 2 = subst (λ (n : ℕ). n < 2) (sym is) (one_where_few _) in
    record {
      few = twice_fits c.kinds.bits c.from.result c.kinds.i c.kinds.invariant.few small;
      last = last_more c.args.kinds.now c.kinds.i c.kinds.bits c.from.result c.kinds-test.true c.kinds.invariant.last
          small
          (λ j here. let same : 12 - c.kinds.i ≡ j = omega arith in
          is ∙ ap (λ (n : ℕ). one_where (get_or c.args.kinds.now n false)) same);
    }

pub overflow_mul-bits : goal.overflow_mul-bits
overflow_mul-bits c =
    let few = few_bits c.kinds.bits c.kinds.i c.kinds.invariant.few c.kinds-test.true in omega (arith, few)

pub overflow_add-bits : goal.overflow_add-bits
overflow_add-bits c =
    let few = few_bits c.kinds.bits c.kinds.i c.kinds.invariant.few c.kinds-test.true in
    let small : c.from.result < 2 = subst (λ (n : ℕ). n < 2) (sym (c.from.ensures ∙ byte_is _)) (one_where_few _) in
    omega (arith, few)

pub returns : goal.returns
returns c = λ kind within. c.kinds.invariant.last kind kind (omega arith) (omega arith)
