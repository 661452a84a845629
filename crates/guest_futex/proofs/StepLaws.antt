-- The first waiters of an address taken out, and put elsewhere: what stands before them once they are behind all others,
-- and that no more are taken than there are.
use Rattle.std.proofs.Common.{◌≡◌, ℕ, ◌+◌, ◌<◌, ◌≤◌, List, [], ◌∷◌, ◌++◌, length, take, drop, min, sym, ap, subst, ◌∙◌, inl, inr}
use Rattle.std.proofs.Common.{arith}
use Rattle.std.proofs.Math.Seq.{take-append_seam, drop-append_seam}
use Rattle.std.proofs.lemmas.Bool.{cases_lt}
use Rattle.std.proofs.lemmas.List.{length-take-le, take_all, drop_all}
use Rattle.event_costs.specs.declared.numbers.ThreadNo.{ThreadNo}
use Rattle.guest_futex.specs.Waits.{Wait, Queue, wait_at, threads_of, waiters_at, with_waiters, enqueue, woken_at, without_woken}
use Rattle.guest_futex.specs.Waits.{requeue_at}
use Rattle.guest_futex.specs.inner.Order.{IsInOrder}
use Rattle.guest_futex.proofs.WaitLaws.{block, length-still, threads_of-block}

-- those taken out stand behind all others
abbrev pub apart : ℕ → ℕ → List Wait → List Wait
apart addr count ws = without_woken addr count ws ++ block addr (woken_at addr count ws)

pub length-woken : (addr i : ℕ) (ws : List Wait) → i ≤ length (waiters_at addr ws) → length (woken_at addr i ws) ≡ i
length-woken addr i ws most = length-take-le i (waiters_at addr ws) most

pub length-left : (addr count rest : ℕ) (ws : List Wait) → count ≤ length (waiters_at addr ws)
    → rest + count ≡ length ws → rest ≡ length (without_woken addr count ws)
length-left addr count rest ws most all =
    omega (arith, length-still addr count ws, length-woken addr count ws most, all)

-- a list that was written back into a vector of its length
pub whole : (xs ys : List Wait) (n : ℕ) → n ≡ length xs → take n (xs ++ drop (length xs) ys) ≡ xs
whole xs ys n is = ap (λ k. take k (xs ++ drop (length xs) ys)) is ∙ take-append_seam xs (drop (length xs) ys)

pub front_is : (rest : ℕ) (all front back : List Wait) → all ≡ front ++ back → rest ≡ length front
    → take rest all ≡ front
front_is rest all front back parts is =
    ap (take rest) parts ∙ ap (λ n. take n (front ++ back)) is ∙ take-append_seam front back

pub back_is : (rest : ℕ) (all front back : List Wait) → all ≡ front ++ back → rest ≡ length front → drop rest all ≡ back
back_is rest all front back parts is =
    ap (drop rest) parts ∙ ap (λ n. drop n (front ++ back)) is ∙ drop-append_seam front back

-- the waits behind the first ones, put behind those who wait at an address
pub brought : (addr rest : ℕ) (all front : List Wait) (ts : List ThreadNo) → take rest all ≡ front
    → threads_of (drop rest all) ≡ ts
    → with_waiters addr (waiters_at addr (take rest all) ++ threads_of (drop rest all)) (take rest all)
    ≡ with_waiters addr (waiters_at addr front ++ ts) front
brought addr rest all front ts first behind =
    ap (λ l. with_waiters addr (waiters_at addr l ++ threads_of (drop rest all)) l) first
    ∙ ap (λ l. with_waiters addr (waiters_at addr front ++ l) front) behind

pub brought-queued : (thread : ThreadNo) (addr rest : ℕ) (all ws : List Wait) → all ≡ ws ++ wait_at addr thread ∷ []
    → rest ≡ length ws
    → with_waiters addr (waiters_at addr (take rest all) ++ threads_of (drop rest all)) (take rest all)
    ≡ enqueue thread addr ws
unfolding enqueue
brought-queued thread addr rest all ws parts is =
    brought addr rest all ws (thread ∷ []) (front_is rest all ws (wait_at addr thread ∷ []) parts is)
    (ap threads_of (back_is rest all ws (wait_at addr thread ∷ []) parts is))

pub taken-apart : (addr count rest : ℕ) (all ws : List Wait) → all ≡ apart addr count ws
    → rest ≡ length (without_woken addr count ws) → threads_of (drop rest all) ≡ woken_at addr count ws
taken-apart addr count rest all ws parts is =
    ap threads_of (back_is rest all (without_woken addr count ws) (block addr (woken_at addr count ws)) parts is)
    ∙ threads_of-block addr (woken_at addr count ws)

pub brought-moved : (from count rest to : ℕ) (all ws : List Wait) → all ≡ apart from count ws
    → rest ≡ length (without_woken from count ws)
    → with_waiters to (waiters_at to (take rest all) ++ threads_of (drop rest all)) (take rest all)
    ≡ requeue_at from count to ws
unfolding requeue_at
brought-moved from count rest to all ws parts is =
    brought to rest all (without_woken from count ws) (woken_at from count ws)
    (front_is rest all (without_woken from count ws) (block from (woken_at from count ws)) parts is)
    (taken-apart from count rest all ws parts is)

-- ---- no more than there are

take-least : (n : ℕ) (ts : List ThreadNo) → take (min (length ts) n) ts ≡ take n ts
take-least n ts =
    elim (cases_lt n (length ts)) [
      | inl less ↦ (let is : min (length ts) n ≡ n = omega arith in ap (λ k. take k ts) is)
      | inr all ↦ take_all (min (length ts) n) ts (omega arith) ∙ sym (take_all n ts all)
    ]

drop-least : (n : ℕ) (ts : List ThreadNo) → drop (min (length ts) n) ts ≡ drop n ts
drop-least n ts =
    elim (cases_lt n (length ts)) [
      | inl less ↦ (let is : min (length ts) n ≡ n = omega arith in ap (λ k. drop k ts) is)
      | inr all ↦ drop_all (min (length ts) n) ts (omega arith) ∙ sym (drop_all n ts all)
    ]

pub woken-least : (addr n : ℕ) (ws : List Wait) → woken_at addr (min (length (waiters_at addr ws)) n) ws ≡ woken_at addr n ws
woken-least addr n ws = take-least n (waiters_at addr ws)

pub still-least : (addr n : ℕ) (ws : List Wait) → without_woken addr (min (length (waiters_at addr ws)) n) ws ≡ without_woken addr n ws
unfolding without_woken
still-least addr n ws = ap (λ l. with_waiters addr l ws) (drop-least n (waiters_at addr ws))

pub moved-least : (from n to : ℕ) (ws : List Wait)
    → requeue_at from (min (length (waiters_at from ws)) n) to ws ≡ requeue_at from n to ws
unfolding requeue_at
moved-least from n to ws =
    ap (λ l. with_waiters to (waiters_at to (without_woken from (min (length (waiters_at from ws)) n) ws) ++ l)
    (without_woken from (min (length (waiters_at from ws)) n) ws)) (woken-least from n ws)
    ∙ ap (λ l. with_waiters to (waiters_at to l ++ woken_at from n ws) l) (still-least from n ws)

-- ---- the waits as their value has them

pub in_order : (p q : Queue) → p ≡ q → IsInOrder p.waits → IsInOrder q.waits
in_order p q is whole = subst (λ (r : Queue). IsInOrder r.waits) is whole
