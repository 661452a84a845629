-- Each thread that waits is a live one, and so fewer wait than live.
use Rattle.std.proofs.Common.{◌≡◌, ◌≢◌, ℕ, ◌+◌, ◌-◌, ◌<◌, ◌≤◌, ◌==◌, ◌⊎◌, Bool, true, false, not, cond, List, [], ◌∷◌}
use Rattle.std.proofs.Common.{length, map, Some, None, refl, sym, ◌∙◌, ap, subst, inl, inr, arith, rules, position}
use Rattle.std.proofs.Common.{get_or}
use Rattle.std.specs.Prelude.{IsSome}
use Rattle.std.proofs.lemmas.Bool.{cases_eq, eq-eqb, ne_eqb, cond-true, cond-false}
use Rattle.std.proofs.lemmas.List.{length-map}
use Rattle.std.proofs.lemmas.List.Sums.{sum_by-cons}
use Rattle.std.proofs.lemmas.List.Quantifiers.{position-Some}
use Rattle.std.specs.List.{slice_get, position_or_len}
use Rattle.std.specs.Option.{option_and_then, option_map}
use Rattle.event_costs.specs.declared.numbers.ThreadNo.{ThreadNo}
use Rattle.guest_load.specs.declared.thread.Thread.{Thread}
use Rattle.guest_futex.specs.declared.queue.Wait.{Wait}
use Rattle.guest_futex.specs.Waits.{times_waiting}
use Rattle.guest_sys.specs.declared.caller.Caller.{Caller}
use Rattle.guest_sys.specs.declared.effect.Act.{Act}
use Rattle.guest_sys.specs.declared.effect.Act.TheVariants as act
use Rattle.guest_sys.specs.declared.effect.Effect.{Effect}
use Rattle.guest_sys.specs.Kernel.{Kernel, times_live, EachWaiterLives}
use Rattle.guest_sys.specs.CallRow.{caller_at, caller_of}
use Rattle.guest_sys.specs.Laws.{times_in, waiters_by, gone_by, IsBalanced}
use Rattle.std.proofs.lemmas.Bool.{lt-ltb}
use Rattle.std.proofs.lemmas.Bool.Decides.{nat_tests}
use Rattle.guest_sys.proofs.BalanceLemmas.{times_live-cons, times_in-one}
use Rattle.guest_sys.proofs.RowLemmas.{some_at}

-- ---- fewer numbers than others

abbrev pub times : ℕ → List ℕ → ℕ
times n [] = 0
times n (m ∷ ms) = cond (m == n) 1 0 + times n ms

abbrev pub without : ℕ → List ℕ → List ℕ
without n [] = []
without n (m ∷ ms) = cond (m == n) ms (m ∷ without n ms)

without_other : (n k : ℕ) (ms : List ℕ) → k ≢ n → times k (without n ms) ≡ times k ms
without_other n k [] differs = refl
without_other n k (m ∷ ms) differs =
    let rest : times k (without n ms) ≡ times k ms = without_other n k ms differs in
    elim (cases_eq m n) [
      | inl same ↦
          let out : ◌≡◌ {A = ℕ} (cond {A = ℕ} (m == k) 1 0) 0
          = cond-false {A = ℕ} (m == k) 1 0 (ne_eqb m k (λ e. differs (sym e ∙ same))) in
          ap (times k) (cond-true (m == n) ms (m ∷ without n ms) (eq-eqb m n same)) ∙ omega (arith, out)
      | inr other ↦
          ap (times k) (cond-false (m == n) ms (m ∷ without n ms) (ne_eqb m n other))
          ∙ ap (λ t. cond {A = ℕ} (m == k) 1 0 + t) rest
    ]

without_same : (n : ℕ) (ms : List ℕ) → times n (without n ms) ≡ times n ms - 1
without_same n [] = refl
without_same n (m ∷ ms) =
    let rest : times n (without n ms) ≡ times n ms - 1 = without_same n ms in
    elim (cases_eq m n) [
      | inl same ↦
          let in_it : ◌≡◌ {A = ℕ} (cond {A = ℕ} (m == n) 1 0) 1 = cond-true {A = ℕ} (m == n) 1 0 (eq-eqb m n same) in
          ap (times n) (cond-true (m == n) ms (m ∷ without n ms) (eq-eqb m n same)) ∙ omega (arith, in_it)
      | inr other ↦
          let out : ◌≡◌ {A = ℕ} (cond {A = ℕ} (m == n) 1 0) 0 = cond-false {A = ℕ} (m == n) 1 0 (ne_eqb m n other) in
          ap (times n) (cond-false (m == n) ms (m ∷ without n ms) (ne_eqb m n other)) ∙ omega (arith, out, rest)
    ]

length_without : (n : ℕ) (ms : List ℕ) → length ms ≤ length (without n ms) + 1
length_without n [] = omega arith
length_without n (m ∷ ms) = by_test (m == n) (length_without n ms)
  where
    by_test : (b : Bool) → length ms ≤ length (without n ms) + 1
        → length (m ∷ ms) ≤ length (cond b ms (m ∷ without n ms)) + 1
    by_test true rest = omega arith
    by_test false rest = omega (arith, rest)

pigeons : (ns ms : List ℕ) → ((k : ℕ) → times k ms ≤ times k ns) → length ms ≤ length ns
pigeons [] [] h = omega arith
pigeons [] (m ∷ ms) h = absurd (omega (arith, h m, cond-true {A = ℕ} (m == m) 1 0 (eq-eqb m m refl)))
pigeons (n ∷ ns) ms h =
    let fewer = λ (k : ℕ). by_case k (cases_eq k n) in
    omega (arith, pigeons ns (without n ms) fewer, length_without n ms)
  where
    by_case : (k : ℕ) → (k ≡ n) ⊎ (k ≢ n) → times k (without n ms) ≤ times k ns
    by_case k (inl same) =
        subst (λ j. times j (without n ms) ≤ times j ns) (sym same)
        (omega (arith, without_same n ms, h n, cond-true {A = ℕ} (n == n) 1 0 (eq-eqb n n refl)))
    by_case k (inr differs) =
        omega (
          arith,
          without_other n k ms differs,
          h k,
          cond-false {A = ℕ} (n == k) 1 0 (ne_eqb n k (λ e. differs (sym e))),
        )

abbrev pub live_numbers : List Thread → List ℕ
live_numbers ts = map (λ (t : Thread). t.no.0) ts

abbrev pub waiting_numbers : List Wait → List ℕ
waiting_numbers ws = map (λ (w : Wait). w.thread.0) ws

times-live : (thread : ThreadNo) (ts : List Thread) → times thread.0 (live_numbers ts) ≡ times_live thread ts
times-live thread [] = refl
times-live thread (t ∷ ts) = omega (arith, times-live thread ts, times_live-cons thread t ts)

times-waiting : (thread : ThreadNo) (ws : List Wait) → times thread.0 (waiting_numbers ws) ≡ times_waiting thread ws
times-waiting thread [] = refl
times-waiting thread (w ∷ ws) =
    omega (arith, times-waiting thread ws, sum_by-cons (λ (v : Wait). cond (v.thread.0 == thread.0) 1 0) w ws)

-- where a thread lives and doesn't wait, fewer wait than live
pub fewer_wait : (caller : ThreadNo) (ts : List Thread) (ws : List Wait) → EachWaiterLives ts ws
    → times_waiting caller ws ≡ 0 → 1 ≤ times_live caller ts → length ws + 1 ≤ length ts
fewer_wait caller ts ws lives idle live =
    let all : length (caller.0 ∷ waiting_numbers ws) ≤ length (live_numbers ts)
    = pigeons (live_numbers ts) (caller.0 ∷ waiting_numbers ws) (λ k. by_case k (cases_eq k caller.0)) in
    omega (arith, all, length-map ws (λ (w : Wait). w.thread.0), length-map ts (λ (t : Thread). t.no.0))
  where
    by_case : (k : ℕ) → (k ≡ caller.0) ⊎ (k ≢ caller.0)
        → times k (caller.0 ∷ waiting_numbers ws) ≤ times k (live_numbers ts)
    by_case k (inl same) =
        subst (λ j. times j (caller.0 ∷ waiting_numbers ws) ≤ times j (live_numbers ts)) (sym same)
        (omega (
          arith,
          times-waiting caller ws,
          times-live caller ts,
          idle,
          live,
          cond-true {A = ℕ} (caller.0 == caller.0) 1 0 (eq-eqb caller.0 caller.0 refl),
        ))
    by_case k (inr differs) =
        let thread : ThreadNo = record { 0 = k } in
        omega (
          arith,
          times-waiting thread ws,
          times-live thread ts,
          lives thread,
          cond-false {A = ℕ} (caller.0 == k) 1 0 (ne_eqb caller.0 k (λ e. differs (sym e))),
        )

-- ---- after a call

one_other : (thread other : ThreadNo) → thread.0 ≢ other.0 → times_in thread (other ∷ []) ≡ 0
one_other thread other differs = times_in-one thread other
    ∙ cond-false {A = ℕ} (other.0 == thread.0) 1 0 (ne_eqb other.0 thread.0 (λ e. differs (sym e)))

at_most_one : (thread other : ThreadNo) → times_in thread (other ∷ []) ≤ 1
at_most_one thread other = omega (arith, times_in-one thread other, small (other.0 == thread.0))
  where
    small : (b : Bool) → cond b 1 0 ≤ 1
    small true = omega arith
    small false = omega arith

waiting_other : (thread caller : ThreadNo) (a : Act) → thread.0 ≢ caller.0 → times_in thread (waiters_by caller a) ≡ 0
waiting_other thread caller (act.Wait addr) differs = one_other thread caller differs
waiting_other thread caller act.Answer differs = refl
waiting_other thread caller act.Yield differs = refl
waiting_other thread caller (act.Spawn other) differs = refl
waiting_other thread caller (act.Output fd bytes) differs = refl
waiting_other thread caller act.ThreadEnd differs = refl
waiting_other thread caller (act.ProcessEnd code) differs = refl
waiting_other thread caller (act.Killed signal) differs = refl

ended_other : (thread caller : ThreadNo) (a : Act) → thread.0 ≢ caller.0 → times_in thread (gone_by caller a) ≡ 0
ended_other thread caller act.ThreadEnd differs = one_other thread caller differs
ended_other thread caller (act.ProcessEnd code) differs = one_other thread caller differs
ended_other thread caller (act.Wait addr) differs = refl
ended_other thread caller act.Answer differs = refl
ended_other thread caller act.Yield differs = refl
ended_other thread caller (act.Spawn other) differs = refl
ended_other thread caller (act.Output fd bytes) differs = refl
ended_other thread caller (act.Killed signal) differs = refl

-- an act that stops the caller's thread doesn't end it
waits_or_ends : (thread caller : ThreadNo) (a : Act) → (times_in thread (waiters_by caller a) ≡ 0)
    ⊎ ((times_in thread (gone_by caller a) ≡ 0) × (times_in thread (waiters_by caller a) ≤ 1))
waits_or_ends thread caller (act.Wait addr) = inr (refl, at_most_one thread caller)
waits_or_ends thread caller act.Answer = inl refl
waits_or_ends thread caller act.Yield = inl refl
waits_or_ends thread caller (act.Spawn other) = inl refl
waits_or_ends thread caller (act.Output fd bytes) = inl refl
waits_or_ends thread caller act.ThreadEnd = inl refl
waits_or_ends thread caller (act.ProcessEnd code) = inl refl
waits_or_ends thread caller (act.Killed signal) = inl refl

pub lives_after : (caller : ThreadNo) (old : Kernel) (e : Effect) (new : Kernel) → IsBalanced caller old e new
    → EachWaiterLives old.guest.threads old.waits → times_waiting caller old.waits ≡ 0
    → 1 ≤ times_live caller old.guest.threads
    → EachWaiterLives new.guest.threads new.waits
lives_after caller old e new balanced lives idle live thread = elim (cases_eq thread.0 caller.0) [
  | inl same ↦
      let still_idle : times_waiting thread old.waits ≡ 0
      = ap (λ n. times_waiting (record { 0 = n }) old.waits) same ∙ idle in
      let still_live : times_live thread old.guest.threads ≡ times_live caller old.guest.threads
      = ap (λ n. times_live (record { 0 = n }) old.guest.threads) same in
      elim (waits_or_ends thread caller e.act) [
        | inl none ↦ omega (arith, balanced.waits thread, still_idle, none)
        | inr begins ↦ omega
            (arith, balanced.waits thread, balanced.lives thread, still_idle, still_live, live, begins.0, begins.1)
      ]
  | inr differs ↦
      omega (
        arith,
        balanced.waits thread,
        balanced.lives thread,
        lives thread,
        waiting_other thread caller e.act differs,
        ended_other thread caller e.act differs,
      )
]

-- ---- the caller

-- a live thread is found
found_live : (thread : ThreadNo) (ts : List Thread) → 1 ≤ times_live thread ts
    → position_or_len (λ (t : Thread). t.no.0 == thread.0) ts < length ts
found_live thread [] live = absurd (omega arith)
found_live thread (t ∷ ts) live = elim (cases_eq t.no.0 thread.0) [
  | inl same ↦ omega (
    arith,
    ap (λ b. cond (not b) (1 + position_or_len (λ (u : Thread). u.no.0 == thread.0) ts) 0)
        (eq-eqb t.no.0 thread.0 same),
  )
  | inr differs ↦
      let rest : 1 ≤ times_live thread ts
      = omega (
        arith,
        times_live-cons thread t ts,
        live,
        cond-false {A = ℕ} (t.no.0 == thread.0) 1 0 (ne_eqb t.no.0 thread.0 differs),
      ) in
      omega (
        arith,
        found_live thread ts rest,
        ap (λ b. cond (not b) (1 + position_or_len (λ (u : Thread). u.no.0 == thread.0) ts) 0)
            (ne_eqb t.no.0 thread.0 differs),
      )
]

abbrev pub place_in : ThreadNo → List Thread → ℕ
place_in thread ts = position_or_len (λ (t : Thread). t.no.0 == thread.0) ts

found_caller : (thread : ThreadNo) (ts : List Thread) (d : Thread) → 1 ≤ times_live thread ts
    → caller_of thread ts ≡ Some (record { place = place_in thread ts; thread = get_or ts (place_in thread ts) d })
unfolding caller_of
found_caller thread ts d live =
    let within : place_in thread ts < length ts = found_live thread ts live in
    ap (λ b. option_and_then (caller_at ts) (cond b (Some (place_in thread ts)) None))
    (lt-ltb (place_in thread ts) (length ts) within)
    ∙ ap (option_map (λ (t : Thread). record { place = place_in thread ts; thread = t }))
    (sym (some_at ts (place_in thread ts) d within))

same_number : (a b : ℕ) → (a == b) ≡ true → a ≡ b
same_number a b h = grind (arith, nat_tests)

-- a live thread is found at its place, and has its number
pub caller_found : (thread : ThreadNo) (ts : List Thread) (d : Thread) → 1 ≤ times_live thread ts
    → (c : Caller) × (caller_of thread ts ≡ Some c) × (slice_get ts c.place ≡ Some c.thread)
    × (c.thread.no.0 ≡ thread.0)
caller_found thread ts d live =
    let within : place_in thread ts < length ts = found_live thread ts live in
    let at_place : position (λ (t : Thread). t.no.0 == thread.0) ts ≡ Some (place_in thread ts)
    = ap (λ b. cond b (Some (place_in thread ts)) None) (lt-ltb (place_in thread ts) (length ts) within) in (
      record { place = place_in thread ts; thread = get_or ts (place_in thread ts) d },
      found_caller thread ts d live,
      sym (some_at ts (place_in thread ts) d within),
      same_number _ _ (position-Some (λ (t : Thread). t.no.0 == thread.0) ts (place_in thread ts) d at_place).1,
    )

-- a thread that isn't any
abbrev pub nobody : Thread
nobody = record { no = record { 0 = 0 }; regs = record { pc = 0; x = [] }; clear = 0 }

some_caller : (c : Caller) → IsSome (Some c)
some_caller c = search rules

pub live_is_found : (thread : ThreadNo) (ts : List Thread) → 1 ≤ times_live thread ts → IsSome (caller_of thread ts)
live_is_found thread ts live =
    subst IsSome (sym (found_caller thread ts nobody live))
    (some_caller (record { place = place_in thread ts; thread = get_or ts (place_in thread ts) nobody }))

same_caller : (a b : Caller) → Some a ≡ Some b → a ≡ b
same_caller a b e = cc

pub caller_is : (thread : ThreadNo) (ts : List Thread) (d : Thread) (c : Caller) → 1 ≤ times_live thread ts
    → caller_of thread ts ≡ Some c → (slice_get ts c.place ≡ Some c.thread) × (c.thread.no.0 ≡ thread.0)
caller_is thread ts d c live is =
    let found = caller_found thread ts d live in
    let same : c ≡ found.0 = same_caller c found.0 (sym is ∙ found.1) in
    subst (λ (b : Caller). (slice_get ts b.place ≡ Some b.thread) × (b.thread.no.0 ≡ thread.0)) (sym same)
    (found.2, found.3)
