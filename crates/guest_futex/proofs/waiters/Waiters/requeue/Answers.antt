use Rattle.std.proofs.Common.{◌≡◌, ◌-◌, ◌≤◌, ◌++◌, length, min, sym, ap, subst, ◌∙◌, arith}
use Rattle.guest_futex.specs.Waits.{waiters_at, woken_at, without_woken, requeue_at}
use Rattle.guest_futex.specs.inner.Order.{IsRising, IsInOrder}
use Rattle.guest_futex.proofs.WaitLaws.{block, length-waiters_at, length-moved, once-moved, waiters_at-moved_to}
use Rattle.guest_futex.proofs.WaitLaws.{waiters_at-moved_from, waiters_at-moved_other}
use Rattle.guest_futex.proofs.OrderLaws.{rising-still, rising-moved}
use Rattle.guest_futex.proofs.StepLaws.{apart, whole, front_is, brought-moved, length-left, moved-least, in_order}
use Rattle.guest_futex.proofs.waiters.Waiters.requeue.Goals.{After-len, After-deref_mut-2}
use Rattle.guest_futex.proofs.waiters.Waiters.requeue.Goals as goal

most : (c : After-len) → c.min-count.result ≤ length (waiters_at c.args.from c.self.inside.waits.items)
most c =
    omega (
      arith,
      c.min-count.ensures,
      c.waiting.ensures.count,
      ap (λ q. length (waiters_at c.args.from q.waits)) c.self.view_is,
    )

pub overflow_sub-rest : goal.overflow_sub-rest
overflow_sub-rest c =
    omega (
      arith,
      most (goal.at.overflow_sub-rest c).After-len,
      length-waiters_at c.args.from c.self.inside.waits.items,
      c.len.ensures,
      c.self.inside.waits.ok.0,
    )

rest : (c : After-len)
    → c.len.result - c.min-count.result ≡ length (without_woken c.args.from c.min-count.result c.self.inside.waits.items)
rest c =
    length-left c.args.from c.min-count.result (c.len.result - c.min-count.result) c.self.inside.waits.items (most c)
    (omega (arith, c.len.ensures, c.self.inside.waits.ok.0, most c, length-waiters_at c.args.from c.self.inside.waits.items))

counted : (c : After-len)
    → c.min-count.result ≡ min (length (waiters_at c.args.from c.args.self.now.waits)) c.args.n
counted c = c.min-count.ensures ∙ ap (λ k. min k c.args.n) c.waiting.ensures.count

-- those taken out stand behind all others
out : (c : After-deref_mut-2)
    → c.deref_mut-2.result.now ≡ apart c.args.from c.min-count.result c.self.inside.waits.items
out c =
    c.deref_mut-2.ensures.value
    ∙ whole c.take_out.new.waits c.self.inside.waits.items c.self.inside.waits.len
    (omega (arith, c.take_out.auto.waits, c.deref_mut.ensures.len))
    ∙ c.take_out.ensures ∙ ap (apart c.args.from c.min-count.result) c.deref_mut.ensures.value

pub bring_in-requires-clause-rising : goal.bring_in-requires-clause-rising
bring_in-requires-clause-rising c =
    subst (IsRising 0)
    (sym (front_is (c.len.result - c.min-count.result) c.deref_mut-2.result.now
    (without_woken c.args.from c.min-count.result c.self.inside.waits.items)
    (block c.args.from (woken_at c.args.from c.min-count.result c.self.inside.waits.items)) (out (goal.at.bring_in-requires-clause-rising c).After-deref_mut-2) (rest (goal.at.bring_in-requires-clause-rising c).After-len)))
    (rising-still c.args.from c.min-count.result c.self.inside.waits.items c.self.invariant.rising)

pub returns-clause-moved : goal.returns-clause-moved
returns-clause-moved c =
    whole c.bring_in.new.waits _ c.self.inside.waits.len
    (omega (arith, c.bring_in.auto.waits, c.deref_mut-2.ensures.len, c.take_out.auto.waits, c.deref_mut.ensures.len))
    ∙ c.bring_in.ensures
    ∙ brought-moved c.args.from c.min-count.result (c.len.result - c.min-count.result) c.args.to
    c.deref_mut-2.result.now c.self.inside.waits.items (out (goal.at.returns-clause-moved c).After-deref_mut-2) (rest (goal.at.returns-clause-moved c).After-len)
    ∙ ap (λ q. requeue_at c.args.from c.min-count.result c.args.to q.waits) c.self.view_is
    ∙ ap (λ k. requeue_at c.args.from k c.args.to c.args.self.now.waits) (counted (goal.at.returns-clause-moved c).After-len)
    ∙ moved-least c.args.from c.args.n c.args.to c.args.self.now.waits

pub invariant_of-self : goal.invariant_of-self
invariant_of-self c =
    let before = in_order _ _ c.self.view_is c.self.invariant in
    subst IsInOrder (sym (returns-clause-moved c)) (record {
      rising = rising-moved c.args.from c.args.n c.args.to c.args.self.now.waits before.rising;
      once = once-moved c.args.from c.args.n c.args.to c.args.self.now.waits before.once;
      few = omega (arith, length-moved c.args.from c.args.n c.args.to c.args.self.now.waits, before.few);
    })

pub returns-clause-last : goal.returns-clause-last
returns-clause-last c = ap (waiters_at c.args.to) (returns-clause-moved c)
    ∙ waiters_at-moved_to c.args.from c.args.n c.args.to c.args.self.now.waits

pub returns-clause-rest : goal.returns-clause-rest
returns-clause-rest c = λ differs.
    waiters_at-moved_from c.args.from c.args.n c.args.to c.args.self.now.waits differs
    ∙ ap (λ l. woken_at c.args.from c.args.n c.args.self.now.waits ++ waiters_at c.args.from l)
    (sym (returns-clause-moved c))

pub returns-clause-others : goal.returns-clause-others
returns-clause-others c = λ other off away.
    ap (waiters_at other) (returns-clause-moved c)
    ∙ waiters_at-moved_other c.args.from c.args.n c.args.to other c.args.self.now.waits off away

pub returns-clause-once : goal.returns-clause-once
returns-clause-once c = (invariant_of-self c).once
