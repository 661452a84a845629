use Rattle.std.proofs.Common.{◌≡◌, ◌++◌, [], ◌∷◌, length, ap, subst, sym, ◌∙◌, arith}
use Rattle.guest_futex.specs.Waits.{wait_at, waiters_at, EachWaitsOnce, enqueue}
use Rattle.guest_futex.specs.inner.Order.{IsRising, IsInOrder}
use Rattle.guest_futex.proofs.WaitLaws.{waiters_at-queued, waiters_at-queued_other, once-queued, length-queued}
use Rattle.guest_futex.proofs.OrderLaws.{rising-queued}
use Rattle.guest_futex.proofs.StepLaws.{whole, front_is, brought-queued, in_order}
use Rattle.guest_futex.proofs.waiters.Waiters.wait.Goals.{After-deref_mut}
use Rattle.guest_futex.proofs.waiters.Waiters.wait.Goals as goal

-- the new wait stands behind all others
pushed : (c : After-deref_mut)
    → c.deref_mut.result.now ≡ c.self.inside.waits.items ++ wait_at c.args.addr c.args.thread ∷ []
pushed c = c.deref_mut.ensures.value ∙ c.push_reserved.ensures.items

rest : (c : After-deref_mut) → c.len-rest.result ≡ length c.self.inside.waits.items
rest c = omega (arith, c.len-rest.ensures, c.self.inside.waits.ok.0)

pub bring_in-requires-clause-rising : goal.bring_in-requires-clause-rising
bring_in-requires-clause-rising c =
    subst (IsRising 0)
    (sym (front_is c.len-rest.result c.deref_mut.result.now c.self.inside.waits.items
    (wait_at c.args.addr c.args.thread ∷ []) (pushed (goal.at.bring_in-requires-clause-rising c).After-deref_mut)
    (rest (goal.at.bring_in-requires-clause-rising c).After-deref_mut))) c.self.invariant.rising

pub returns-clause-queued : goal.returns-clause-queued
returns-clause-queued c =
    whole c.bring_in.new.waits c.push_reserved.new.self.items c.push_reserved.new.self.len
    (omega (arith, c.bring_in.auto.waits, c.deref_mut.ensures.len)) ∙ c.bring_in.ensures
    ∙ brought-queued c.args.thread c.args.addr c.len-rest.result c.deref_mut.result.now c.self.inside.waits.items
    (pushed (goal.at.returns-clause-queued c).After-deref_mut) (rest (goal.at.returns-clause-queued c).After-deref_mut)
    ∙ ap (λ q. enqueue c.args.thread c.args.addr q.waits) c.self.view_is

pub invariant_of-self : goal.invariant_of-self
invariant_of-self c =
    let before = in_order _ _ c.self.view_is c.self.invariant in
    subst IsInOrder (sym (returns-clause-queued c)) (record {
      rising = rising-queued c.args.thread c.args.addr c.args.self.now.waits before.rising;
      once = once-queued c.args.thread c.args.addr c.args.self.now.waits before.once c.requires.apart;
      few = omega (arith, length-queued c.args.thread c.args.addr c.args.self.now.waits, c.requires.few);
    })

pub returns-clause-last : goal.returns-clause-last
returns-clause-last c = ap (waiters_at c.args.addr) (returns-clause-queued c)
    ∙ waiters_at-queued c.args.thread c.args.addr c.args.self.now.waits

pub returns-clause-others : goal.returns-clause-others
returns-clause-others c = λ other differs. ap (waiters_at other) (returns-clause-queued c)
    ∙ waiters_at-queued_other c.args.thread c.args.addr other c.args.self.now.waits differs

pub returns-clause-once : goal.returns-clause-once
returns-clause-once c = (invariant_of-self c).once
