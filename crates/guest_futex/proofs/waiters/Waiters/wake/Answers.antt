use Rattle.std.proofs.Common.{◌≡◌, ◌-◌, ◌≤◌, ◌++◌, List, length, min, sym, ap, subst, ◌∙◌, arith}
use Rattle.std.specs.List.{between}
use Rattle.std.proofs.lemmas.Slice.{between_to_end}
use Rattle.event_costs.specs.declared.numbers.ThreadNo.{ThreadNo}
use Rattle.guest_futex.specs.Waits.{threads_of, waiters_at, woken_at, without_woken}
use Rattle.guest_futex.specs.inner.Order.{IsInOrder}
use Rattle.guest_futex.proofs.WaitLaws.{block, length-waiters_at, length-still, once-still, waiters_at-still}
use Rattle.guest_futex.proofs.WaitLaws.{waiters_at-still_other}
use Rattle.guest_futex.proofs.OrderLaws.{rising-still}
use Rattle.guest_futex.proofs.StepLaws.{apart, whole, front_is, taken-apart, length-left, still-least, woken-least}
use Rattle.guest_futex.proofs.StepLaws.{in_order}
use Rattle.guest_futex.proofs.waiters.Waiters.wake.Goals.{After-len, After-deref}
use Rattle.guest_futex.proofs.waiters.Waiters.wake.Goals as goal

most : (c : After-len) → c.min-count.result ≤ length (waiters_at c.args.addr c.self.inside.waits.items)
most c =
    omega (
      arith,
      c.min-count.ensures,
      c.waiting.ensures.count,
      ap (λ q. length (waiters_at c.args.addr q.waits)) c.self.view_is,
    )

pub overflow_sub-rest : goal.overflow_sub-rest
overflow_sub-rest c =
    omega (
      arith,
      most (goal.at.overflow_sub-rest c).After-len,
      length-waiters_at c.args.addr c.self.inside.waits.items,
      c.len.ensures,
      c.self.inside.waits.ok.0,
    )

rest : (c : After-len)
    → c.len.result - c.min-count.result ≡ length (without_woken c.args.addr c.min-count.result c.self.inside.waits.items)
rest c =
    length-left c.args.addr c.min-count.result (c.len.result - c.min-count.result) c.self.inside.waits.items (most c)
    (omega (arith, c.len.ensures, c.self.inside.waits.ok.0, most c, length-waiters_at c.args.addr c.self.inside.waits.items))

counted : (c : After-len)
    → c.min-count.result ≡ min (length (waiters_at c.args.addr c.args.self.now.waits)) c.args.n
counted c = c.min-count.ensures ∙ ap (λ k. min k c.args.n) c.waiting.ensures.count

-- those taken out stand behind all others
out : (c : After-deref) → c.deref.result.now ≡ apart c.args.addr c.min-count.result c.self.inside.waits.items
out c =
    c.deref.ensures.value
    ∙ whole c.take_out.new.waits c.self.inside.waits.items c.self.inside.waits.len
    (omega (arith, c.take_out.auto.waits, c.deref_mut.ensures.len))
    ∙ c.take_out.ensures ∙ ap (apart c.args.addr c.min-count.result) c.deref_mut.ensures.value

pub returns-clause-first : goal.returns-clause-first
returns-clause-first c =
    let all = c.deref.result.now in
    c.list_threads.ensures
    ∙ ap
    (λ (l : List ThreadNo). l ++ threads_of (between (c.len.result - c.min-count.result) (length all) all))
    c.in_ok-threads.ensures.items
    ∙ ap threads_of (between_to_end all (c.len.result - c.min-count.result) (length all) (omega arith))
    ∙ taken-apart c.args.addr c.min-count.result (c.len.result - c.min-count.result) all c.self.inside.waits.items
    (out (goal.at.returns-clause-first c).After-deref) (rest (goal.at.returns-clause-first c).After-len)
    ∙ ap (λ q. woken_at c.args.addr c.min-count.result q.waits) c.self.view_is
    ∙ ap (λ k. woken_at c.args.addr k c.args.self.now.waits) (counted (goal.at.returns-clause-first c).After-len)
    ∙ woken-least c.args.addr c.args.n c.args.self.now.waits

pub returns-clause-still : goal.returns-clause-still
returns-clause-still c =
    c.truncate.ensures.items
    ∙ front_is (c.len.result - c.min-count.result) _ (without_woken c.args.addr c.min-count.result c.self.inside.waits.items)
    (block c.args.addr (woken_at c.args.addr c.min-count.result c.self.inside.waits.items))
    (sym c.deref.ensures.value ∙ out (goal.at.returns-clause-still c).After-deref) (rest (goal.at.returns-clause-still c).After-len)
    ∙ ap (λ q. without_woken c.args.addr c.min-count.result q.waits) c.self.view_is
    ∙ ap (λ k. without_woken c.args.addr k c.args.self.now.waits) (counted (goal.at.returns-clause-still c).After-len)
    ∙ still-least c.args.addr c.args.n c.args.self.now.waits

pub invariant_of-self : goal.invariant_of-self
invariant_of-self c =
    let before = in_order _ _ c.self.view_is c.self.invariant in
    subst IsInOrder (sym (returns-clause-still c)) (record {
      rising = rising-still c.args.addr c.args.n c.args.self.now.waits before.rising;
      once = once-still c.args.addr c.args.n c.args.self.now.waits before.once;
      few = omega (arith, length-still c.args.addr c.args.n c.args.self.now.waits, before.few);
    })

pub returns-clause-rest : goal.returns-clause-rest
returns-clause-rest c =
    waiters_at-still c.args.addr c.args.n c.args.self.now.waits
    ∙ ap (λ l. woken_at c.args.addr c.args.n c.args.self.now.waits ++ waiters_at c.args.addr l)
    (sym (returns-clause-still c))

pub returns-clause-others : goal.returns-clause-others
returns-clause-others c = λ other differs.
    ap (waiters_at other) (returns-clause-still c)
    ∙ waiters_at-still_other c.args.addr c.args.n other c.args.self.now.waits differs

pub returns-clause-once : goal.returns-clause-once
returns-clause-once c = (invariant_of-self c).once
