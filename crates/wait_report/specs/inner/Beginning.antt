-- What is kept stands for a step in which its thread began to wait.
use Rattle.std.proofs.Common.{◌≡◌, ℕ, ◌+◌, ◌==◌, ◌&&◌, Bool, true, false, not, List, [], ◌∷◌, ◌++◌}
use Rattle.std.proofs.Common.{if◌then◌else◌, refl, sym, ap, ◌∙◌, subst, arith, Option}
use Rattle.std.proofs.Common.{Some, None, is_some, length, nat_lt, get_or}
use Rattle.std.proofs.Common.{unwrap_or}
use Rattle.std.specs.Map.{lookup}
use Rattle.event_costs.specs.Costs.{IsWhole, no_cost}
use Rattle.event_costs.specs.declared.numbers.ThreadNo.{ThreadNo}
use Rattle.shadow_stack.specs.Traces.{EventOnStack}
use Rattle.part_dump.specs.Steps.{Step}
use Rattle.part_dump.specs.Watched.{is_woken, waits}
use Rattle.wait_report.specs.Keeping.{WaitBooks, begins, begun_sum, flat, open_of, same_thread, spot, sum_of}
use Rattle.wait_report.specs.Rows.{cost_at, ended_at, open_at, same_spot, waits_at}
use Rattle.wait_report.specs.Waits.{cost_of}
use Rattle.wait_report.specs.Standing.{AreOpen, IsCost, StandsFor, step}
use Rattle.wait_report.specs.declared.books.Open.{Open}
use Rattle.wait_report.specs.declared.books.Spot.{Spot}
use Rattle.wait_report.specs.inner.Counts.{cost_at_any, cost_of_more, ended_at_more, one, open_at_more}
use Rattle.wait_report.specs.inner.Counts.{waits_after_more, waits_at_more}
use Rattle.wait_report.specs.inner.Lookups.{after_insert, itself, spot_tells, thread_tells, true_false}
use Rattle.wait_report.specs.inner.Passing.{are_open_same, one_more}
use Rattle.wait_report.specs.inner.Waking.{choose, some_number, turned_number, under_if}

module _ (ys : List Step) (seen : EventOnStack) (woken : List ThreadNo) (word : ℕ) where
  abbrev before : List Step
  before = ys ++ step seen None woken ∷ []

  abbrev after : List Step
  after = ys ++ step seen (Some word) woken ∷ []

  abbrev t : ThreadNo
  t = seen.event.thread

  abbrev here : Spot
  here = spot t word

  and_true : (b : Bool) → one (b && true) ≡ one b
  and_true true = refl
  and_true false = refl

  waits_after : (s : Spot) → waits_at s after ≡ waits_at s before + one (same_spot s here)
  waits_after s =
      let a = waits_at_more s ys (step seen (Some word) woken) in
      let b = waits_at_more s ys (step seen None woken) in
      omega (arith, a, b)

  open_after : (s : Spot) → open_at s after ≡ open_at s before + one (same_spot s here)
  open_after s =
      let a = open_at_more s ys (step seen (Some word) woken) in
      let b = open_at_more s ys (step seen None woken) in
      let c = and_true (same_spot s here) in
      omega (arith, a, b, c)

  ended_same : (s : Spot) (u : ThreadNo) → ended_at s u after ≡ ended_at s u before
  ended_same s u =
      ended_at_more s u ys (step seen (Some word) woken) ∙ sym (ended_at_more s u ys (step seen None woken))

  cost_same : (kind : ℕ) (s : Spot) → cost_at kind s after ≡ cost_at kind s before
  cost_same kind s =
      cost_at_any kind s ys (step seen (Some word) woken) ∙ sym (cost_at_any kind s ys (step seen None woken))

  total_same : (kind : ℕ) → cost_of kind after ≡ cost_of kind before
  total_same kind =
      cost_of_more kind ys (step seen (Some word) woken) ∙ sym (cost_of_more kind ys (step seen None woken))

  length_same : length after ≡ length before
  length_same = one_more ys (step seen (Some word) woken) ∙ sym (one_more ys (step seen None woken))

  asleep_after : (thread : ℕ) → waits thread after ≡ (if t.0 == thread then true else waits thread before)
  asleep_after thread =
      waits_after_more thread false ys (step seen (Some word) woken)
      ∙ by (t.0 == thread) (waits thread ys && not (is_woken thread (step seen (Some word) woken)))
      ∙ ap (λ w. if t.0 == thread then true else w) (sym (waits_after_more thread false ys (step seen None woken)))
    where
      by : (b w : Bool) → (if b then true else w) ≡ (if b then true else (if b then false else w))
      by true w = refl
      by false w = refl

  module _ (k : WaitBooks) (stands : StandsFor k before) where
    abbrev new : WaitBooks
    new = begins t word k

    abbrev begun : Open
    begun = record { word = word; start = k.total }

    none_asleep : is_some (open_of t k) ≡ false
    none_asleep =
        sym (stands.asleep t) ∙ waits_after_more t.0 false ys (step seen None woken)
        ∙ choose (t.0 == t.0) (itself t.0) false (waits t.0 ys && not (is_woken t.0 (step seen None woken)))

    none : open_of t k ≡ None
    none = is_none (open_of t k) none_asleep
      where
        is_none : (o : Option Open) → is_some o ≡ false → o ≡ None
        is_none None e = refl
        is_none (Some o) e = absurd (true_false e)

    at_thread : (s : Spot) → (s.thread.0 == t.0) ≡ true → s ≡ spot t s.word
    at_thread s e = ap (λ u. spot u s.word) (thread_tells.alike s.thread t e)

    none_open : (s : Spot) → (s.thread.0 == t.0) ≡ true → open_at s before ≡ 0
    none_open s e = ap (λ q. open_at q before) (at_thread s e) ∙ subst (AreOpen before t) none (stands.waiting t) s.word

    open_new : (thread : ThreadNo) → open_of thread new ≡ (if thread.0 == t.0 then Some begun else open_of thread k)
    open_new thread =
        ap flat (after_insert same_thread thread_tells k.waiting t (Some begun) thread)
        ∙ under_if flat (thread.0 == t.0) (Some (Some begun)) (lookup (same_thread thread) k.waiting)

    sum_new : (s : Spot) → sum_of s new ≡ (if same_spot s here then begun_sum (sum_of here k) else sum_of s k)
    sum_new s =
        ap (λ r. unwrap_or r (record { waits = 0; cost = no_cost }))
        (after_insert same_spot spot_tells k.sums here (begun_sum (sum_of here k)) s)
        ∙ under_if (λ r. unwrap_or r (record { waits = 0; cost = no_cost })) (same_spot s here)
        (Some (begun_sum (sum_of here k))) (lookup (same_spot s) k.sums)

    asleep_new : (thread : ThreadNo) → waits thread.0 after ≡ is_some (open_of thread new)
    asleep_new thread =
        asleep_after thread.0 ∙ ap (λ b. if b then true else waits thread.0 before) (turned_number t.0 thread.0)
        ∙ ap (λ b. if thread.0 == t.0 then true else b) (stands.asleep thread)
        ∙ sym (under_if is_some (thread.0 == t.0) (Some begun) (open_of thread k)) ∙ ap is_some (sym (open_new thread))

    waiting_new : (thread : ThreadNo) → AreOpen after thread (open_of thread new)
    waiting_new thread = subst (AreOpen after thread) (sym (open_new thread)) (held (thread.0 == t.0) refl)
      where
        to_if : (b : Bool) → one b ≡ (if b then 1 else 0)
        to_if true = refl
        to_if false = refl

        only_word : (b c : Bool) → b ≡ true → one (b && c) ≡ one c
        only_word true c e = refl
        only_word false c e = absurd (true_false (sym e))

        apart : (b c : Bool) → b ≡ false → one (b && c) ≡ 0
        apart false c e = refl
        apart true c e = absurd (true_false e)

        held : (b : Bool) → (thread.0 == t.0) ≡ b → AreOpen after thread (if b then Some begun else open_of thread k)
        held true e = (
          stands.whole,
          λ w.
              let more = open_after (spot thread w) in
              let zero = none_open (spot thread w) e in
              let only = only_word (thread.0 == t.0) (w == word) e in
              let turn = ap one (turned_number w word) in
              let last = to_if (word == w) in
              omega (arith, more, zero, only, turn, last),
        )
        held false e =
            are_open_same before after thread (open_of thread k)
            (λ w.
            let more = open_after (spot thread w) in
            let zero = apart (thread.0 == t.0) (w == word) e in omega (arith, more, zero))
            (stands.waiting thread)

    known_new : (s : Spot) → is_some (lookup (same_spot s) new.sums) ≡ nat_lt 0 (waits_at s after)
    known_new s =
        ap is_some (after_insert same_spot spot_tells k.sums here (begun_sum (sum_of here k)) s)
        ∙ held (same_spot s here) refl
        ∙ ap (nat_lt 0) (sym (waits_after s))
      where
        zero : (n : ℕ) → n ≡ n + 0
        zero n = omega arith

        held : (b : Bool) → same_spot s here ≡ b
            → is_some (if b then Some (begun_sum (sum_of here k)) else lookup (same_spot s) k.sums)
            ≡ nat_lt 0 (waits_at s before + one (same_spot s here))
        held true e =
            sym (some_number (waits_at s before)) ∙ ap (λ b. nat_lt 0 (waits_at s before + one b)) (sym e)
        held false e =
            stands.known s ∙ ap (nat_lt 0) (zero (waits_at s before))
            ∙ ap (λ b. nat_lt 0 (waits_at s before + one b)) (sym e)

    waits_new : (s : Spot) → (sum_of s new).waits ≡ waits_at s after
    waits_new s = ap (λ x. x.waits) (sum_new s) ∙ held (same_spot s here) refl ∙ sym (waits_after s)
      where
        zero : (n : ℕ) → n ≡ n + 0
        zero n = omega arith

        held : (b : Bool) → same_spot s here ≡ b
            → (if b then begun_sum (sum_of here k) else sum_of s k).waits
            ≡ waits_at s before + one (same_spot s here)
        held true e =
            ap (λ n. n + 1) (stands.waits here ∙ ap (λ q. waits_at q before) (sym (spot_tells.alike s here e)))
            ∙ ap (λ b. waits_at s before + one b) (sym e)
        held false e =
            stands.waits s ∙ zero (waits_at s before) ∙ ap (λ b. waits_at s before + one b) (sym e)

    -- the cost of a sum stays
    sum_cost : (s : Spot) → (sum_of s new).cost ≡ (sum_of s k).cost
    sum_cost s = ap (λ x. x.cost) (sum_new s) ∙ held (same_spot s here) refl
      where
        held : (b : Bool) → same_spot s here ≡ b
            → (if b then begun_sum (sum_of here k) else sum_of s k).cost ≡ (sum_of s k).cost
        held true e = ap (λ q. (sum_of q k).cost) (sym (spot_tells.alike s here e))
        held false e = refl

    costs_same : (s : Spot) (o : Option Open)
        → IsCost k.total s.word (sum_of s k).cost (λ kind. cost_at kind s before) o
        → IsCost k.total s.word (sum_of s k).cost (λ kind. cost_at kind s after) o
    costs_same s None is = λ kind. cost_same kind s ∙ is kind
    costs_same s (Some o) is = λ kind. (
      (is kind).0,
      ap (λ n. n + (if o.word == s.word then get_or o.start kind 0 else 0)) (cost_same kind s) ∙ (is kind).1,
    )

    costs_new : (s : Spot)
        → IsCost k.total s.word (sum_of s new).cost (λ kind. cost_at kind s after) (open_of s.thread new)
    costs_new s =
        subst (λ c. IsCost k.total s.word c (λ kind. cost_at kind s after) (open_of s.thread new)) (sym (sum_cost s))
        (subst (IsCost k.total s.word (sum_of s k).cost (λ kind. cost_at kind s after)) (sym (open_new s.thread))
        (held (s.thread.0 == t.0) refl))
      where
        held : (b : Bool) → (s.thread.0 == t.0) ≡ b
            → IsCost k.total s.word (sum_of s k).cost (λ kind. cost_at kind s after)
            (if b then Some begun else open_of s.thread k)
        held true e = λ kind.
            let was = subst (IsCost k.total s.word (sum_of s k).cost (λ j. cost_at j s before))
            (ap (λ u. open_of u k) (thread_tells.alike s.thread t e) ∙ none) (stands.costs s) kind in
            let same = cost_same kind s in
            (omega arith, ap (λ n. n + (if word == s.word then get_or k.total kind 0 else 0)) (same ∙ was))
        held false e = costs_same s (open_of s.thread k) (stands.costs s)

    -- a wait has begun
    pub begins_one : StandsFor new after
    begins_one = record {
      few = let same = length_same in let few = stands.few in omega (arith, same, few);
      ones = λ kind.
          let same = length_same in let total = total_same kind in let ones = stands.ones kind in
          omega (arith, same, total, ones);
      whole = stands.whole;
      total = λ kind. stands.total kind ∙ sym (total_same kind);
      asleep = asleep_new;
      waiting = waiting_new;
      known = known_new;
      waits = waits_new;
      whole_sums = λ s. subst IsWhole (sym (sum_cost s)) (stands.whole_sums s);
      costs = costs_new;
      within = λ kind s.
          let cost = cost_same kind s in let total = total_same kind in let within = stands.within kind s in
          omega (arith, cost, total, within);
      known_wakes = λ w. stands.known_wakes w ∙ ap (nat_lt 0) (sym (ended_same w.spot w.waker));
      ended = λ w. stands.ended w ∙ sym (ended_same w.spot w.waker);
    }
