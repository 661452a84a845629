use Rattle.std.proofs.Common.{◌+◌, length, ap, ◌∙◌, subst, arith}
use Rattle.guest_futex.specs.Waits.{waiters_at, EachWaitsOnce}
use Rattle.guest_futex.specs.inner.Order.{lower}
use Rattle.guest_futex.proofs.WaitLaws.{length-waiters_at}
use Rattle.guest_futex.proofs.waiters.Waiters.waiting.Goals as goal

pub overflow_cast-result : goal.overflow_cast-result
overflow_cast-result c =
    omega (
      arith,
      c.end_of.ensures
          ∙ ap (λ ws. length (lower c.args.addr ws) + length (waiters_at c.args.addr ws)) c.deref.ensures.value,
      c.start_of.ensures ∙ ap (λ ws. length (lower c.args.addr ws)) c.deref-2.ensures.value,
      length-waiters_at c.args.addr c.self.inside.waits.items,
      c.self.invariant.few,
    )

pub returns-clause-once : goal.returns-clause-once
returns-clause-once c = subst EachWaitsOnce (ap (λ q. q.waits) c.self.view_is) c.self.invariant.once
