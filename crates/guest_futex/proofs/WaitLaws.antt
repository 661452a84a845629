-- The laws of waits, for this crate and its callers: what an address's list and the times of a thread are after a
-- change.
use Rattle.std.proofs.Common.{◌≡◌, ◌≢◌, ℕ, zero, suc, ◌+◌, ◌<◌, ◌≤◌, ◌==◌, Bool, true, false, cond, not, nat_lt, List}
use Rattle.std.proofs.Common.{[], ◌∷◌, ◌++◌, map, filter, length, take, drop, count_by, sum_by, refl, sym, ap, subst}
use Rattle.std.proofs.Common.{◌∙◌, inl, inr, arith}
use Rattle.std.proofs.lemmas.Bool.{cases_lt, cases_eq, eq-eqb, ne_eqb}
use Rattle.std.proofs.lemmas.Bool.Decides.{nat_tests}
use Rattle.std.proofs.lemmas.List.{append-nil, length-append}
use Rattle.std.proofs.lemmas.List.Elements.{filter-append}
use Rattle.std.proofs.lemmas.List.Sums.{sum_by-cons, sum_by-append}
use Rattle.event_costs.specs.declared.numbers.ThreadNo.{ThreadNo}
use Rattle.guest_futex.specs.Waits.{Wait, wait_at, is_at, threads_of, waiters_at, times_waiting, EachWaitsOnce}
use Rattle.guest_futex.specs.Waits.{with_waiters, enqueue, woken_at, without_woken, requeue_at, forget_thread}

take_and_drop : (i : ℕ) (ts : List ThreadNo) → take i ts ++ drop i ts ≡ ts
take_and_drop zero ts = refl
take_and_drop (suc i) [] = refl
take_and_drop (suc i) (t ∷ ts) = ap (λ (l : List ThreadNo). t ∷ l) (take_and_drop i ts)

-- the waits of one address, all of whose threads are given
abbrev pub block : ℕ → List ThreadNo → List Wait
block addr threads = map (wait_at addr) threads

pub filter-block_all : (test : Wait → Bool) (addr : ℕ) (ts : List ThreadNo)
    → ((t : ThreadNo) → test (wait_at addr t) ≡ true) → filter test (block addr ts) ≡ block addr ts
filter-block_all test addr [] passes = refl
filter-block_all test addr (t ∷ ts) passes =
    rw (passes t) (ap (λ (l : List Wait). wait_at addr t ∷ l) (filter-block_all test addr ts passes))

pub filter-block_none : (test : Wait → Bool) (addr : ℕ) (ts : List ThreadNo)
    → ((t : ThreadNo) → test (wait_at addr t) ≡ false) → filter test (block addr ts) ≡ []
filter-block_none test addr [] fails = refl
filter-block_none test addr (t ∷ ts) fails = rw (fails t) (filter-block_none test addr ts fails)

pub threads_of-block : (addr : ℕ) (ts : List ThreadNo) → threads_of (block addr ts) ≡ ts
threads_of-block addr [] = refl
threads_of-block addr (t ∷ ts) = ap (λ (l : List ThreadNo). t ∷ l) (threads_of-block addr ts)

threads_of-append : (xs ys : List Wait) → threads_of (xs ++ ys) ≡ threads_of xs ++ threads_of ys
threads_of-append [] ys = refl
threads_of-append (x ∷ xs) ys = ap (λ (l : List ThreadNo). x.thread ∷ l) (threads_of-append xs ys)

pub waiters_at-append : (addr : ℕ) (xs ys : List Wait)
    → waiters_at addr (xs ++ ys) ≡ waiters_at addr xs ++ waiters_at addr ys
waiters_at-append addr xs ys = ap threads_of (filter-append (is_at addr) xs ys)
    ∙ threads_of-append (filter (is_at addr) xs) (filter (is_at addr) ys)

pub waiters_at-block : (addr : ℕ) (ts : List ThreadNo) → waiters_at addr (block addr ts) ≡ ts
waiters_at-block addr ts = ap threads_of (filter-block_all (is_at addr) addr ts (λ t. eq-eqb addr addr refl))
    ∙ threads_of-block addr ts

pub waiters_at-block_other : (addr other : ℕ) (ts : List ThreadNo) → other ≢ addr
    → waiters_at other (block addr ts) ≡ []
waiters_at-block_other addr other ts differs =
    ap threads_of (filter-block_none (is_at other) addr ts (λ t. ne_eqb addr other (λ same. differs (sym same))))

below : ℕ → Wait → Bool
below addr w = nat_lt w.addr addr

above : ℕ → Wait → Bool
above addr w = nat_lt addr w.addr

pub lt-true : (a b : ℕ) → a < b → nat_lt a b ≡ true
lt-true a b less = grind (arith, nat_tests)

pub lt-false : (a b : ℕ) → b ≤ a → nat_lt a b ≡ false
lt-false a b most = grind (arith, nat_tests)

-- a test that passes what an address has keeps its list, and one that refuses it leaves none
waiters_at-filter_all : (addr : ℕ) (test : Wait → Bool) (ws : List Wait) → ((w : Wait) → w.addr ≡ addr → test w ≡ true)
    → waiters_at addr (filter test ws) ≡ waiters_at addr ws
waiters_at-filter_all addr test [] passes = refl
waiters_at-filter_all addr test (w ∷ ws) passes =
    elim (cases_eq w.addr addr) [
      | inl same ↦ rw (passes w same, eq-eqb w.addr addr same)
          (ap (λ (l : List ThreadNo). w.thread ∷ l) (waiters_at-filter_all addr test ws passes))
      | inr differs ↦ by_test (test w) differs (waiters_at-filter_all addr test ws passes)
    ]
  where
    by_test : (b : Bool) → (w.addr ≡ addr → ⊥) → waiters_at addr (filter test ws) ≡ waiters_at addr ws
        → waiters_at addr (cond b (w ∷ filter test ws) (filter test ws)) ≡ waiters_at addr (w ∷ ws)
    by_test true differs rest = rw (ne_eqb w.addr addr differs) rest
    by_test false differs rest = rw (ne_eqb w.addr addr differs) rest

waiters_at-filter_none : (addr : ℕ) (test : Wait → Bool) (ws : List Wait)
    → ((w : Wait) → w.addr ≡ addr → test w ≡ false) → waiters_at addr (filter test ws) ≡ []
waiters_at-filter_none addr test [] fails = refl
waiters_at-filter_none addr test (w ∷ ws) fails =
    elim (cases_eq w.addr addr) [
      | inl same ↦ rw (fails w same) (waiters_at-filter_none addr test ws fails)
      | inr differs ↦ by_test (test w) differs (waiters_at-filter_none addr test ws fails)
    ]
  where
    by_test : (b : Bool) → (w.addr ≡ addr → ⊥) → waiters_at addr (filter test ws) ≡ []
        → waiters_at addr (cond b (w ∷ filter test ws) (filter test ws)) ≡ []
    by_test true differs rest = rw (ne_eqb w.addr addr differs) rest
    by_test false differs rest = rest

-- the waiters that an address is given
pub waiters_at-with_waiters : (addr : ℕ) (ts : List ThreadNo) (ws : List Wait)
    → waiters_at addr (with_waiters addr ts ws) ≡ ts
unfolding with_waiters
waiters_at-with_waiters addr ts ws =
    waiters_at-append addr (filter (λ w. nat_lt w.addr addr) ws ++ block addr ts) (filter (λ w. nat_lt addr w.addr) ws)
    ∙ ap (λ (l : List ThreadNo). l ++ waiters_at addr (filter (λ w. nat_lt addr w.addr) ws))
    (waiters_at-append addr (filter (λ w. nat_lt w.addr addr) ws) (block addr ts))
    ∙ ap (λ (l : List ThreadNo). l ++ waiters_at addr (block addr ts) ++ waiters_at addr
    (filter (λ w. nat_lt addr w.addr) ws))
    (waiters_at-filter_none addr (λ w. nat_lt w.addr addr) ws (λ w same. lt-false w.addr addr (omega (arith, same))))
    ∙ ap (λ (l : List ThreadNo). [] ++ waiters_at addr (block addr ts) ++ l)
    (waiters_at-filter_none addr (λ w. nat_lt addr w.addr) ws (λ w same. lt-false addr w.addr (omega (arith, same))))
    ∙ append-nil (waiters_at addr (block addr ts)) ∙ waiters_at-block addr ts

-- another address keeps its waiters
pub waiters_at-with_waiters_other : (addr other : ℕ) (ts : List ThreadNo) (ws : List Wait) → other ≢ addr
    → waiters_at other (with_waiters addr ts ws) ≡ waiters_at other ws
unfolding with_waiters
waiters_at-with_waiters_other addr other ts ws differs =
    waiters_at-append other (filter (λ w. nat_lt w.addr addr) ws ++ block addr ts) (filter (λ w. nat_lt addr w.addr) ws)
    ∙ ap (λ (l : List ThreadNo). l ++ waiters_at other (filter (λ w. nat_lt addr w.addr) ws))
    (waiters_at-append other (filter (λ w. nat_lt w.addr addr) ws) (block addr ts)
    ∙ ap (λ (l : List ThreadNo). waiters_at other (filter (λ w. nat_lt w.addr addr) ws) ++ l)
    (waiters_at-block_other addr other ts differs)
    ∙ append-nil (waiters_at other (filter (λ w. nat_lt w.addr addr) ws)))
    ∙ elim (cases_lt other addr) [
      | inl less ↦
          ap (λ (l : List ThreadNo). l ++ waiters_at other (filter (λ w. nat_lt addr w.addr) ws))
          (waiters_at-filter_all other (λ w. nat_lt w.addr addr) ws
          (λ w same. lt-true w.addr addr (omega (arith, same))))
          ∙ ap (λ (l : List ThreadNo). waiters_at other ws ++ l)
          (waiters_at-filter_none other (λ w. nat_lt addr w.addr) ws
          (λ w same. lt-false addr w.addr (omega (arith, same))))
          ∙ append-nil (waiters_at other ws)
      | inr more ↦
          ap (λ (l : List ThreadNo). l ++ waiters_at other (filter (λ w. nat_lt addr w.addr) ws))
          (waiters_at-filter_none other (λ w. nat_lt w.addr addr) ws
          (λ w same. lt-false w.addr addr (omega (arith, same))))
          ∙ waiters_at-filter_all other (λ w. nat_lt addr w.addr) ws
          (λ w same. lt-true addr w.addr (omega (arith, same, differs)))
    ]

abbrev pub one_or_none : Bool → ℕ
one_or_none b = cond b 1 0

-- how often a thread stands in a list of threads
abbrev pub times_in : ThreadNo → List ThreadNo → ℕ
times_in thread ts = count_by (λ t. t.0 == thread.0) ts

-- a number for each wait, over the parts of a changed list
sum_parts : (f : Wait → ℕ) (addr : ℕ) (ws : List Wait)
    → sum_by f (filter (λ w. nat_lt w.addr addr) ws) + sum_by f (filter (is_at addr) ws) + sum_by f
    (filter (λ w. nat_lt addr w.addr) ws) ≡ sum_by f ws
sum_parts f addr [] = refl
sum_parts f addr (w ∷ ws) =
    elim (cases_lt w.addr addr) [
      | inl less ↦
          rw (
            lt-true w.addr addr less,
            ne_eqb w.addr addr (λ same. omega (arith, same)),
            lt-false addr w.addr (omega arith),
          )
          (omega
          (arith, sum_parts f addr ws, sum_by-cons f w ws, sum_by-cons f w (filter (λ v. nat_lt v.addr addr) ws)))
      | inr more ↦
          elim (cases_eq w.addr addr) [
            | inl same ↦
                rw (lt-false w.addr addr more, eq-eqb w.addr addr same, lt-false addr w.addr (omega (arith, same)))
                (omega (arith, sum_parts f addr ws, sum_by-cons f w ws, sum_by-cons f w (filter (is_at addr) ws)))
            | inr differs ↦
                rw (lt-false w.addr addr more, ne_eqb w.addr addr differs, lt-true addr w.addr (omega (arith, differs)))
                (omega (
                  arith,
                  sum_parts f addr ws,
                  sum_by-cons f w ws,
                  sum_by-cons f w (filter (λ v. nat_lt addr v.addr) ws),
                ))
          ]
    ]

sum_with : (f : Wait → ℕ) (addr : ℕ) (ts : List ThreadNo) (ws : List Wait)
    → sum_by f (with_waiters addr ts ws) + sum_by f (filter (is_at addr) ws) ≡ sum_by f ws + sum_by f (block addr ts)
unfolding with_waiters
sum_with f addr ts ws =
    omega (
      arith,
      sum_parts f addr ws,
      sum_by-append f (filter (λ w. nat_lt w.addr addr) ws ++ block addr ts) (filter (λ w. nat_lt addr w.addr) ws),
      sum_by-append f (filter (λ w. nat_lt w.addr addr) ws) (block addr ts),
    )

pub times_waiting-block : (thread : ThreadNo) (addr : ℕ) (ts : List ThreadNo)
    → times_waiting thread (block addr ts) ≡ times_in thread ts
times_waiting-block thread addr [] = refl
times_waiting-block thread addr (t ∷ ts) =
    omega (
      arith,
      times_waiting-block thread addr ts,
      sum_by-cons (λ (w : Wait). cond (w.thread.0 == thread.0) 1 0) (wait_at addr t) (block addr ts),
      sum_by-cons (λ (s : ThreadNo). cond (s.0 == thread.0) 1 0) t ts,
    )

times_in-threads_of : (thread : ThreadNo) (ws : List Wait) → times_in thread (threads_of ws) ≡ times_waiting thread ws
times_in-threads_of thread [] = refl
times_in-threads_of thread (w ∷ ws) =
    omega (
      arith,
      times_in-threads_of thread ws,
      sum_by-cons (λ (v : Wait). cond (v.thread.0 == thread.0) 1 0) w ws,
      sum_by-cons (λ (s : ThreadNo). cond (s.0 == thread.0) 1 0) w.thread (threads_of ws),
    )

-- how often a thread waits once an address is given these waiters
pub times_waiting-with_waiters : (thread : ThreadNo) (addr : ℕ) (ts : List ThreadNo) (ws : List Wait)
    → times_waiting thread (with_waiters addr ts ws) + times_in thread (waiters_at addr ws)
    ≡ times_waiting thread ws + times_in thread ts
times_waiting-with_waiters thread addr ts ws =
    omega (
      arith,
      sum_with (λ w. cond (w.thread.0 == thread.0) 1 0) addr ts ws,
      times_waiting-block thread addr ts,
      times_in-threads_of thread (filter (is_at addr) ws),
    )

sum_by-one : {X : Type 0} (xs : List X) → sum_by (λ _. 1) xs ≡ length xs
sum_by-one [] = refl
sum_by-one {X} (x ∷ xs) = omega (arith, sum_by-one xs, sum_by-cons (λ (y : X). 1) x xs)

length-block : (addr : ℕ) (ts : List ThreadNo) → length (block addr ts) ≡ length ts
length-block addr [] = refl
length-block addr (t ∷ ts) = ap suc (length-block addr ts)

length-threads_of : (ws : List Wait) → length (threads_of ws) ≡ length ws
length-threads_of [] = refl
length-threads_of (w ∷ ws) = ap suc (length-threads_of ws)

-- how many wait once an address is given these waiters
pub length-with_waiters : (addr : ℕ) (ts : List ThreadNo) (ws : List Wait)
    → length (with_waiters addr ts ws) + length (waiters_at addr ws) ≡ length ws + length ts
length-with_waiters addr ts ws =
    omega (
      arith,
      sum_with (λ w. 1) addr ts ws,
      sum_by-one (with_waiters addr ts ws),
      sum_by-one (filter (is_at addr) ws),
      sum_by-one ws,
      sum_by-one (block addr ts),
      length-block addr ts,
      length-threads_of (filter (is_at addr) ws),
    )

-- an address has no more waiters than wait in all
pub length-waiters_at : (addr : ℕ) (ws : List Wait) → length (waiters_at addr ws) ≤ length ws
length-waiters_at addr ws = omega (arith, length-with_waiters addr [] ws)

pub times_in-append : (thread : ThreadNo) (xs ys : List ThreadNo)
    → times_in thread (xs ++ ys) ≡ times_in thread xs + times_in thread ys
times_in-append thread xs ys = sum_by-append (λ t. cond (t.0 == thread.0) 1 0) xs ys

pub times_in-cons : (thread t : ThreadNo) (ts : List ThreadNo)
    → times_in thread (t ∷ ts) ≡ cond (t.0 == thread.0) 1 0 + times_in thread ts
times_in-cons thread t ts = sum_by-cons (λ s. cond (s.0 == thread.0) 1 0) t ts

-- once one more thread waits
pub times_waiting-queued : (thread other : ThreadNo) (addr : ℕ) (ws : List Wait)
    → times_waiting other (enqueue thread addr ws) ≡ times_waiting other ws + cond (thread.0 == other.0) 1 0
unfolding enqueue
times_waiting-queued thread other addr ws =
    omega (
      arith,
      times_waiting-with_waiters other addr (waiters_at addr ws ++ thread ∷ []) ws,
      times_in-append other (waiters_at addr ws) (thread ∷ []),
      times_in-cons other thread [],
    )

-- once some are taken out
pub times_waiting-still : (thread : ThreadNo) (addr count : ℕ) (ws : List Wait)
    → times_waiting thread (without_woken addr count ws) + times_in thread (woken_at addr count ws) ≡ times_waiting thread ws
unfolding without_woken
times_waiting-still thread addr count ws =
    omega (
      arith,
      times_waiting-with_waiters thread addr (drop count (waiters_at addr ws)) ws,
      times_in-append thread (woken_at addr count ws) (drop count (waiters_at addr ws)),
      ap (times_in thread) (take_and_drop count (waiters_at addr ws)),
    )

-- once some are moved
pub times_waiting-moved : (thread : ThreadNo) (from count to : ℕ) (ws : List Wait)
    → times_waiting thread (requeue_at from count to ws) ≡ times_waiting thread ws
unfolding requeue_at
times_waiting-moved thread from count to ws =
    omega (
      arith,
      times_waiting-with_waiters thread to (waiters_at to (without_woken from count ws) ++ woken_at from count ws)
          (without_woken from count ws),
      times_in-append thread (waiters_at to (without_woken from count ws)) (woken_at from count ws),
      times_waiting-still thread from count ws,
    )

-- once a thread is taken out
pub times_waiting-forgotten : (thread other : ThreadNo) (ws : List Wait)
    → times_waiting other (forget_thread thread ws) ≤ times_waiting other ws
times_waiting-forgotten thread other [] = omega arith
times_waiting-forgotten thread other (w ∷ ws) =
    by_test (w.thread.0 == thread.0) (times_waiting-forgotten thread other ws)
  where
    by_test : (b : Bool) → times_waiting other (forget_thread thread ws) ≤ times_waiting other ws
        → times_waiting other (cond (not b) (w ∷ forget_thread thread ws) (forget_thread thread ws))
        ≤ times_waiting other (w ∷ ws)
    by_test true rest = omega (arith, rest, sum_by-cons (λ (v : Wait). cond (v.thread.0 == other.0) 1 0) w ws)
    by_test false rest =
        omega (
          arith,
          rest,
          sum_by-cons (λ (v : Wait). cond (v.thread.0 == other.0) 1 0) w ws,
          sum_by-cons (λ (v : Wait). cond (v.thread.0 == other.0) 1 0) w (forget_thread thread ws),
        )

pub length-queued : (thread : ThreadNo) (addr : ℕ) (ws : List Wait) → length (enqueue thread addr ws) ≡ length ws + 1
unfolding enqueue
length-queued thread addr ws =
    omega (
      arith,
      length-with_waiters addr (waiters_at addr ws ++ thread ∷ []) ws,
      length-append (waiters_at addr ws) (thread ∷ []),
    )

pub length-still : (addr count : ℕ) (ws : List Wait)
    → length (without_woken addr count ws) + length (woken_at addr count ws) ≡ length ws
unfolding without_woken
length-still addr count ws =
    omega (
      arith,
      length-with_waiters addr (drop count (waiters_at addr ws)) ws,
      length-append (woken_at addr count ws) (drop count (waiters_at addr ws)),
      ap (length {A = ThreadNo}) (take_and_drop count (waiters_at addr ws)),
    )

pub length-moved : (from count to : ℕ) (ws : List Wait) → length (requeue_at from count to ws) ≡ length ws
unfolding requeue_at
length-moved from count to ws =
    omega (
      arith,
      length-with_waiters to (waiters_at to (without_woken from count ws) ++ woken_at from count ws) (without_woken from count ws),
      length-append (waiters_at to (without_woken from count ws)) (woken_at from count ws),
      length-still from count ws,
    )

pub length-forgotten : (thread : ThreadNo) (ws : List Wait)
    → length (forget_thread thread ws) + times_waiting thread ws ≡ length ws
length-forgotten thread [] = refl
length-forgotten thread (w ∷ ws) =
    elim (cases_eq w.thread.0 thread.0) [
      | inl same ↦
          omega (
            arith,
            length-forgotten thread ws,
            sum_by-cons (λ (v : Wait). cond (v.thread.0 == thread.0) 1 0) w ws,
            ap one_or_none (eq-eqb w.thread.0 thread.0 same),
            ap (λ b. length (cond (not b) (w ∷ forget_thread thread ws) (forget_thread thread ws)))
                (eq-eqb w.thread.0 thread.0 same),
          )
      | inr differs ↦
          omega (
            arith,
            length-forgotten thread ws,
            sum_by-cons (λ (v : Wait). cond (v.thread.0 == thread.0) 1 0) w ws,
            ap one_or_none (ne_eqb w.thread.0 thread.0 differs),
            ap (λ b. length (cond (not b) (w ∷ forget_thread thread ws) (forget_thread thread ws)))
                (ne_eqb w.thread.0 thread.0 differs),
          )
    ]

-- the lists of addresses after each change
pub waiters_at-queued : (thread : ThreadNo) (addr : ℕ) (ws : List Wait)
    → waiters_at addr (enqueue thread addr ws) ≡ waiters_at addr ws ++ thread ∷ []
unfolding enqueue
waiters_at-queued thread addr ws = waiters_at-with_waiters addr (waiters_at addr ws ++ thread ∷ []) ws

pub waiters_at-queued_other : (thread : ThreadNo) (addr other : ℕ) (ws : List Wait) → other ≢ addr
    → waiters_at other (enqueue thread addr ws) ≡ waiters_at other ws
unfolding enqueue
waiters_at-queued_other thread addr other ws differs =
    waiters_at-with_waiters_other addr other (waiters_at addr ws ++ thread ∷ []) ws differs

pub waiters_at-still : (addr count : ℕ) (ws : List Wait)
    → waiters_at addr ws ≡ woken_at addr count ws ++ waiters_at addr (without_woken addr count ws)
unfolding without_woken
waiters_at-still addr count ws =
    sym (ap (λ (l : List ThreadNo). woken_at addr count ws ++ l)
    (waiters_at-with_waiters addr (drop count (waiters_at addr ws)) ws) ∙ take_and_drop count (waiters_at addr ws))

pub waiters_at-still_other : (addr count other : ℕ) (ws : List Wait) → other ≢ addr
    → waiters_at other (without_woken addr count ws) ≡ waiters_at other ws
unfolding without_woken
waiters_at-still_other addr count other ws differs =
    waiters_at-with_waiters_other addr other (drop count (waiters_at addr ws)) ws differs

pub waiters_at-moved_to : (from count to : ℕ) (ws : List Wait)
    → waiters_at to (requeue_at from count to ws) ≡ waiters_at to (without_woken from count ws) ++ woken_at from count ws
unfolding requeue_at
waiters_at-moved_to from count to ws =
    waiters_at-with_waiters to (waiters_at to (without_woken from count ws) ++ woken_at from count ws) (without_woken from count ws)

pub waiters_at-moved_from : (from count to : ℕ) (ws : List Wait) → from ≢ to
    → waiters_at from ws ≡ woken_at from count ws ++ waiters_at from (requeue_at from count to ws)
unfolding requeue_at
waiters_at-moved_from from count to ws differs =
    waiters_at-still from count ws
    ∙ ap (λ (l : List ThreadNo). woken_at from count ws ++ l)
    (sym (waiters_at-with_waiters_other to from (waiters_at to (without_woken from count ws) ++ woken_at from count ws)
    (without_woken from count ws) differs))

pub waiters_at-moved_other : (from count to other : ℕ) (ws : List Wait) → other ≢ from → other ≢ to
    → waiters_at other (requeue_at from count to ws) ≡ waiters_at other ws
unfolding requeue_at
waiters_at-moved_other from count to other ws differs apart =
    waiters_at-with_waiters_other to other (waiters_at to (without_woken from count ws) ++ woken_at from count ws)
    (without_woken from count ws) apart
    ∙ waiters_at-still_other from count other ws differs

-- no thread waits twice after each change
pub once-queued : (thread : ThreadNo) (addr : ℕ) (ws : List Wait) → EachWaitsOnce ws → times_waiting thread ws ≡ 0
    → EachWaitsOnce (enqueue thread addr ws)
once-queued thread addr ws once apart other =
    elim (cases_eq thread.0 other.0) [
      | inl same ↦
          let none : times_waiting other ws ≡ 0
          = subst (λ n. count_by (λ (w : Wait). w.thread.0 == n) ws ≡ 0) same apart in
          omega (arith, times_waiting-queued thread other addr ws, none, at_most_one (thread.0 == other.0))
      | inr differs ↦ omega (
        arith,
        times_waiting-queued thread other addr ws,
        once other,
        ap one_or_none (ne_eqb thread.0 other.0 differs),
      )
    ]
  where
    at_most_one : (b : Bool) → cond b 1 0 ≤ 1
    at_most_one true = omega arith
    at_most_one false = omega arith

pub once-still : (addr count : ℕ) (ws : List Wait) → EachWaitsOnce ws → EachWaitsOnce (without_woken addr count ws)
once-still addr count ws once other = omega (arith, times_waiting-still other addr count ws, once other)

pub once-moved : (from count to : ℕ) (ws : List Wait) → EachWaitsOnce ws → EachWaitsOnce (requeue_at from count to ws)
once-moved from count to ws once other = omega (arith, times_waiting-moved other from count to ws, once other)

pub once-forgotten : (thread : ThreadNo) (ws : List Wait) → EachWaitsOnce ws → EachWaitsOnce (forget_thread thread ws)
once-forgotten thread ws once other = omega (arith, times_waiting-forgotten thread other ws, once other)

times_waiting-cons : (thread : ThreadNo) (w : Wait) (ws : List Wait)
    → times_waiting thread (w ∷ ws) ≡ one_or_none (w.thread.0 == thread.0) + times_waiting thread ws
times_waiting-cons thread w ws = sum_by-cons (λ v. cond (v.thread.0 == thread.0) 1 0) w ws

-- a thread that is taken out doesn't wait
pub times_waiting-forgotten_self : (thread : ThreadNo) (ws : List Wait) → times_waiting thread (forget_thread thread ws) ≡ 0
times_waiting-forgotten_self thread [] = refl
times_waiting-forgotten_self thread (w ∷ ws) =
    elim (cases_eq w.thread.0 thread.0) [
      | inl same ↦ rw (eq-eqb w.thread.0 thread.0 same) (times_waiting-forgotten_self thread ws)
      | inr differs ↦
          rw (ne_eqb w.thread.0 thread.0 differs)
          (omega (
            arith,
            times_waiting-cons thread w (forget_thread thread ws),
            ap one_or_none (ne_eqb w.thread.0 thread.0 differs),
            times_waiting-forgotten_self thread ws,
          ))
    ]
