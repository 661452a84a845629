-- Who waits where: for each address the list of its waiters, in order of waiting.
use Rattle.std.specs.Prelude.{ℕ, ◌≤◌, ◌==◌, Bool, not, nat_lt, List, [], ◌∷◌, ◌++◌, map, filter, take, drop, count_by}
use Rattle.event_costs.specs.declared.numbers.ThreadNo.{ThreadNo}
-- a thread that waits, and the address that it waits at
pub use Rattle.guest_futex.specs.declared.queue.Wait.{Wait}

-- all waits, by rising address and at each address in order of waiting; and how many more fit without memory
pub record Queue : Type 0 where
  pub waits : List Wait
  pub spare : ℕ

abbrev pub wait_at : ℕ → ThreadNo → Wait
wait_at addr thread = record { thread = thread; addr = addr }

abbrev pub is_at : ℕ → Wait → Bool
is_at addr wait = wait.addr == addr

abbrev pub threads_of : List Wait → List ThreadNo
threads_of waits = map (λ wait. wait.thread) waits

-- the waiters of an address, in order of waiting
abbrev pub waiters_at : ℕ → List Wait → List ThreadNo
waiters_at addr waits = threads_of (filter (is_at addr) waits)

-- how often a thread stands among the waits
abbrev pub times_waiting : ThreadNo → List Wait → ℕ
times_waiting thread waits = count_by (λ wait. wait.thread.0 == thread.0) waits

abbrev pub IsWaiting : ThreadNo → List Wait → Type 0
IsWaiting thread waits = 1 ≤ times_waiting thread waits

-- no thread waits twice, be it at two addresses or at one
abbrev pub EachWaitsOnce : List Wait → Type 0
EachWaitsOnce waits = (thread : ThreadNo) → times_waiting thread waits ≤ 1

-- These words are opened where a proof needs them; the laws on them are in proofs/WaitLaws.antt.

-- these waiters at this address, and all other addresses as they are
unfoldable pub with_waiters : ℕ → List ThreadNo → List Wait → List Wait
with_waiters addr threads waits =
    filter (λ wait. nat_lt wait.addr addr) waits ++ map (wait_at addr) threads
    ++ filter (λ wait. nat_lt addr wait.addr) waits

-- one more waiter, at the end of its address
unfoldable pub enqueue : ThreadNo → ℕ → List Wait → List Wait
enqueue thread addr waits = with_waiters addr (waiters_at addr waits ++ thread ∷ []) waits

-- the first waiters of an address, at most so many
abbrev pub woken_at : ℕ → ℕ → List Wait → List ThreadNo
woken_at addr count waits = take count (waiters_at addr waits)

-- what is left once these are taken out
unfoldable pub without_woken : ℕ → ℕ → List Wait → List Wait
without_woken addr count waits = with_waiters addr (drop count (waiters_at addr waits)) waits

-- the first waiters of an address, at most so many, moved in their order to the end of another or of the same
unfoldable pub requeue_at : ℕ → ℕ → ℕ → List Wait → List Wait
requeue_at from count to waits =
    with_waiters to (waiters_at to (without_woken from count waits) ++ woken_at from count waits) (without_woken from count waits)

-- the thread taken out
abbrev pub forget_thread : ThreadNo → List Wait → List Wait
forget_thread thread waits = filter (λ wait. not (wait.thread.0 == thread.0)) waits
