use Rattle.std.proofs.Common.{◌≡◌, ◌==◌, not, ◌+◌, List, length, sym, ap, subst, ◌∙◌, arith, rules}
use Rattle.std.proofs.lemmas.Bool.Decides.{nat_tests}
use Rattle.std.proofs.lemmas.Fn.{filter_same}
use Rattle.guest_futex.specs.Waits.{Wait, times_waiting, forget_thread}
use Rattle.guest_futex.specs.inner.Order.{IsInOrder}
use Rattle.guest_futex.proofs.WaitLaws.{length-forgotten, once-forgotten, times_waiting-forgotten_self}
use Rattle.guest_futex.proofs.OrderLaws.{rising-filter}
use Rattle.guest_futex.proofs.StepLaws.{in_order}
use Rattle.guest_futex.proofs.waiters.Waiters.forget.Goals as goal

after : (c : goal.After-len) → c.retain.new.self.items ≡ forget_thread c.args.thread c.args.self.now.waits
after c =
    filter_same _ (λ (w : Wait). not (w.thread.0 == c.args.thread.0)) _
    (λ w b f' h. search rules) _ _ c.retain.ensures.filtered
    ∙ ap (λ q. forget_thread c.args.thread q.waits) c.self.view_is

number : (c : goal.After-len) → length c.retain.new.self.items + times_waiting c.args.thread c.args.self.now.waits
    ≡ length c.args.self.now.waits
number c = ap (λ (l : List Wait). length l + times_waiting c.args.thread c.args.self.now.waits) (after c)
    ∙ length-forgotten c.args.thread c.args.self.now.waits

whole : (c : goal.After-len) → IsInOrder c.retain.new.self.items
whole c =
    let before = in_order _ _ c.self.view_is c.self.invariant in
    subst IsInOrder (sym (after c)) (record {
      rising = rising-filter (λ w. not (w.thread.0 == c.args.thread.0)) 0 c.args.self.now.waits before.rising;
      once = once-forgotten c.args.thread c.args.self.now.waits before.once;
      few = omega (arith, length-forgotten c.args.thread c.args.self.now.waits, before.few);
    })

pub invariant_of-self : goal.invariant_of-self
invariant_of-self c = whole c

pub returns-clause-found : goal.returns-clause-found
returns-clause-found c =
    let all = ap (λ q. length q.waits) c.self.view_is in
    let there = number c in
    let before = c.self.inside.waits.ok.0 in
    let now = c.retain.new.self.ok.0 in
    grind (arith, nat_tests)

pub returns-clause-forgotten : goal.returns-clause-forgotten
returns-clause-forgotten c = after c

pub returns-clause-gone : goal.returns-clause-gone
returns-clause-gone c = ap (times_waiting c.args.thread) (after c)
    ∙ times_waiting-forgotten_self c.args.thread c.args.self.now.waits

pub returns-clause-once : goal.returns-clause-once
returns-clause-once c = (whole c).once

pub returns-clause-number : goal.returns-clause-number
returns-clause-number c = number c

pub returns-clause-room : goal.returns-clause-room
returns-clause-room c =
    omega (
      arith,
      number c,
      ap (λ q. length q.waits) c.self.view_is,
      ap (λ q. q.spare) c.self.view_is,
      c.retain.ensures.capacity,
      c.retain.new.self.ok.0,
      c.self.inside.waits.ok.0,
      c.self.inside.waits.ok.1,
    )
