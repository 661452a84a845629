-- What is kept stands for a step that woke one thread more.
use Rattle.std.proofs.Common.{◌≡◌, ℕ, ◌+◌, ◌-◌, ◌==◌, ◌&&◌, ◌||◌, Bool, true, false, not, List, [], ◌∷◌, ◌++◌}
use Rattle.std.proofs.Common.{if◌then◌else◌, refl, sym, ap, ◌∙◌, subst, arith, Option}
use Rattle.std.proofs.Common.{Some, None, is_some, length, nat_lt, get_or}
use Rattle.std.proofs.Common.{unwrap_or, zero, suc}
use Rattle.std.specs.List.{list_any}
use Rattle.std.specs.Map.{lookup}
use Rattle.std.proofs.lemmas.Bool.Decides.{nat_tests}
use Rattle.std.proofs.lemmas.List.Folds.{list_any-append}
use Rattle.std.proofs.lemmas.Simd.{length-zip2}
use Rattle.event_costs.specs.Costs.{IsWhole, difference_of_costs, no_cost, sum_of_costs}
use Rattle.event_costs.specs.declared.numbers.ThreadNo.{ThreadNo}
use Rattle.shadow_stack.specs.Traces.{EventOnStack}
use Rattle.part_dump.specs.Steps.{Step}
use Rattle.part_dump.specs.Watched.{waits}
use Rattle.wait_report.specs.Keeping.{WaitBooks, ended_sum, ends, ends_open, flat, open_of}
use Rattle.wait_report.specs.Keeping.{same_thread, same_wake, spot, sum_of}
use Rattle.wait_report.specs.Keeping.{times_of, wakes}
use Rattle.wait_report.specs.Rows.{cost_at, ended_at, open_at, same_spot, waits_at}
use Rattle.wait_report.specs.Waits.{cost_of}
use Rattle.wait_report.specs.Standing.{AreOpen, IsCost, StandsFor, step}
use Rattle.wait_report.specs.declared.books.Open.{Open}
use Rattle.wait_report.specs.declared.books.Spot.{Spot}
use Rattle.wait_report.specs.declared.books.Sum.{Sum}
use Rattle.wait_report.specs.declared.books.Wake.{Wake}
use Rattle.wait_report.specs.inner.Counts.{cost_at_any, cost_of_more, ended_at_more, open_at_more, open_below}
use Rattle.wait_report.specs.inner.Counts.{waits_after_more, waits_at_more}
use Rattle.wait_report.specs.inner.Lookups.{after_insert, both, itself, spot_tells, thread_tells, true_false}
use Rattle.wait_report.specs.inner.Lookups.{turned, wake_tells}
use Rattle.wait_report.specs.inner.Passing.{are_open_same, number_of_sum, one_more, whole_sum}

-- ---- differences

pub number_of_difference : (xs ys : List ℕ) (kind : ℕ) → length xs ≡ length ys
    → get_or (difference_of_costs xs ys) kind 0 ≡ get_or xs kind 0 - get_or ys kind 0
number_of_difference [] [] kind alike = refl
number_of_difference [] (y ∷ ys) kind alike = absurd (omega (arith, alike))
number_of_difference (x ∷ xs) [] kind alike = absurd (omega (arith, alike))
number_of_difference (x ∷ xs) (y ∷ ys) zero alike = refl
number_of_difference (x ∷ xs) (y ∷ ys) (suc kind) alike = number_of_difference xs ys kind (omega (arith, alike))

pub whole_difference : (a b : List ℕ) → IsWhole a → IsWhole b → IsWhole (difference_of_costs a b)
whole_difference a b one other = length-zip2 (λ x y. x - y) a b (one ∙ sym other) ∙ one

-- ---- what is kept at a thread, a spot and a wake

pub choose : {A : Type 0} (b : Bool) → b ≡ true → (x y : A) → (if b then x else y) ≡ x
choose b e x y = ap (λ c. if c then x else y) e

pub leave : {A : Type 0} (b : Bool) → b ≡ false → (x y : A) → (if b then x else y) ≡ y
leave b e x y = ap (λ c. if c then x else y) e

pub under_if : {A B : Type 0} (f : A → B) (b : Bool) (x y : A) → f (if b then x else y) ≡ (if b then f x else f y)
under_if f true x y = refl
under_if f false x y = refl

pub turned_number : (m n : ℕ) → (m == n) ≡ (n == m)
turned_number m n = turned same_thread thread_tells (record { 0 = m }) (record { 0 = n })

pub second_false : (a b : Bool) → a ≡ true → (a && b) ≡ false → b ≡ false
second_false true b e f = f
second_false false b e f = absurd (true_false (sym e))

first_false : (a b : Bool) → b ≡ true → (a && b) ≡ false → a ≡ false
first_false true b e f = absurd (true_false (sym e ∙ f))
first_false false b e f = refl

plus_zero : (n m : ℕ) → m ≡ 0 → n ≡ n + m
plus_zero n m e = omega (arith, e)

pub some_number : (n : ℕ) → nat_lt 0 (n + 1) ≡ true
some_number n = grind (arith, nat_tests)

-- ---- the numbers of a step that wakes one thread more

gate : (w c : Bool) (all a b : ℕ) → a ≡ (if not (w || c) then all else 0) + 0 → b ≡ (if not w then all else 0) + 0
    → a ≡ (if c then 0 else b)
gate true true all a b e f = omega (arith, e)
gate true false all a b e f = omega (arith, e, f)
gate false true all a b e f = omega (arith, e)
gate false false all a b e f = omega (arith, e, f)

gate_ended : (w c q : Bool) (all ended a b held : ℕ) → a ≡ ended + (if (w || c) && q then all else 0)
    → b ≡ ended + (if w && q then all else 0) → held ≡ (if not w then all else 0) + 0
    → a ≡ b + (if c && q then held else 0)
gate_ended true true true all ended a b held e f g = omega (arith, e, f, g)
gate_ended true true false all ended a b held e f g = omega (arith, e, f)
gate_ended true false q all ended a b held e f g = omega (arith, e, f)
gate_ended false true true all ended a b held e f g = omega (arith, e, f, g)
gate_ended false true false all ended a b held e f g = omega (arith, e, f)
gate_ended false false q all ended a b held e f g = omega (arith, e, f)

gate_asleep : (q c w all : Bool) (a b : Bool) → a ≡ (if q then false else (all && not (w || c)))
    → b ≡ (if q then false else (all && not w)) → a ≡ (if c then false else b)
gate_asleep true true w all a b e f = e
gate_asleep true false w all a b e f = e ∙ sym f
gate_asleep false true true true a b e f = e
gate_asleep false true true false a b e f = e
gate_asleep false true false true a b e f = e
gate_asleep false true false false a b e f = e
gate_asleep false false true all a b e f = e ∙ sym f
gate_asleep false false false all a b e f = e ∙ sym f

module _ (ys : List Step) (seen : EventOnStack) (woken : List ThreadNo) (t : ThreadNo) where
  abbrev before : List Step
  before = ys ++ step seen None woken ∷ []

  abbrev after : List Step
  after = ys ++ step seen None (woken ++ t ∷ []) ∷ []

  abbrev is_by : ℕ → Bool
  is_by thread = list_any (λ u. u.0 == thread) woken

  woken_more : (thread : ℕ) → list_any (λ u. u.0 == thread) (woken ++ t ∷ []) ≡ (is_by thread || (thread == t.0))
  woken_more thread =
      list_any-append (λ u. u.0 == thread) woken (t ∷ [])
      ∙ ap (λ b. is_by thread || b)
      (or_none (t.0 == thread) ∙ turned same_thread thread_tells t (record { 0 = thread }))
    where
      or_none : (b : Bool) → (b || false) ≡ b
      or_none true = refl
      or_none false = refl

  open_after : (s : Spot) → open_at s after ≡ (if s.thread.0 == t.0 then 0 else open_at s before)
  open_after s =
      gate (is_by s.thread.0) (s.thread.0 == t.0) (open_at s ys) (open_at s after) (open_at s before)
      (open_at_more s ys (step seen None (woken ++ t ∷ []))
      ∙ ap (λ b. (if not b then open_at s ys else 0) + 0) (woken_more s.thread.0))
      (open_at_more s ys (step seen None woken))

  ended_after : (s : Spot) (u : ThreadNo) → ended_at s u after
      ≡ ended_at s u before + (if s.thread.0 == t.0 && seen.event.thread.0 == u.0 then open_at s before else 0)
  ended_after s u =
      gate_ended (is_by s.thread.0) (s.thread.0 == t.0) (seen.event.thread.0 == u.0) (open_at s ys)
      (ended_at s u ys) (ended_at s u after) (ended_at s u before) (open_at s before)
      (ended_at_more s u ys (step seen None (woken ++ t ∷ []))
      ∙ ap (λ b. ended_at s u ys + (if b && seen.event.thread.0 == u.0 then open_at s ys else 0))
      (woken_more s.thread.0))
      (ended_at_more s u ys (step seen None woken))
      (open_at_more s ys (step seen None woken))

  asleep_after : (thread : ℕ) → waits thread after ≡ (if thread == t.0 then false else waits thread before)
  asleep_after thread =
      gate_asleep (seen.event.thread.0 == thread) (thread == t.0) (is_by thread) (waits thread ys)
      (waits thread after) (waits thread before)
      (waits_after_more thread false ys (step seen None (woken ++ t ∷ []))
      ∙ ap (λ b. if seen.event.thread.0 == thread then false else (waits thread ys && not b)) (woken_more thread))
      (waits_after_more thread false ys (step seen None woken))

  waits_same : (s : Spot) → waits_at s after ≡ waits_at s before
  waits_same s =
      waits_at_more s ys (step seen None (woken ++ t ∷ [])) ∙ sym (waits_at_more s ys (step seen None woken))

  cost_same : (kind : ℕ) (s : Spot) → cost_at kind s after ≡ cost_at kind s before
  cost_same kind s =
      cost_at_any kind s ys (step seen None (woken ++ t ∷ [])) ∙ sym (cost_at_any kind s ys (step seen None woken))

  total_same : (kind : ℕ) → cost_of kind after ≡ cost_of kind before
  total_same kind =
      cost_of_more kind ys (step seen None (woken ++ t ∷ [])) ∙ sym (cost_of_more kind ys (step seen None woken))

  length_same : length after ≡ length before
  length_same =
      one_more ys (step seen None (woken ++ t ∷ [])) ∙ sym (one_more ys (step seen None woken))

  module _ (k : WaitBooks) (stands : StandsFor k before) where
    abbrev by : ThreadNo
    by = seen.event.thread

    at_thread : (s : Spot) → (s.thread.0 == t.0) ≡ true → s ≡ spot t s.word
    at_thread s e = ap (λ u. spot u s.word) (thread_tells.alike s.thread t e)

    costs_same : (s : Spot) (o : Option Open)
        → IsCost k.total s.word (sum_of s k).cost (λ kind. cost_at kind s before) o
        → IsCost k.total s.word (sum_of s k).cost (λ kind. cost_at kind s after) o
    costs_same s None is = λ kind. cost_same kind s ∙ is kind
    costs_same s (Some o) is = λ kind. (
      (is kind).0,
      ap (λ n. n + (if o.word == s.word then get_or o.start kind 0 else 0)) (cost_same kind s)
          ∙ (is kind).1,
    )

    -- ---- the thread has no open wait

    module _ (none : open_of t k ≡ None) where
      none_open : (s : Spot) → (s.thread.0 == t.0) ≡ true → open_at s before ≡ 0
      none_open s e =
          ap (λ q. open_at q before) (at_thread s e) ∙ subst (AreOpen before t) none (stands.waiting t) s.word

      open_kept : (s : Spot) → open_at s after ≡ open_at s before
      open_kept s = open_after s ∙ here (s.thread.0 == t.0) refl
        where
          here : (b : Bool) → (s.thread.0 == t.0) ≡ b → (if b then 0 else open_at s before) ≡ open_at s before
          here true e = sym (none_open s e)
          here false e = refl

      ended_kept : (s : Spot) (u : ThreadNo) → ended_at s u after ≡ ended_at s u before
      ended_kept s u = ended_after s u ∙ here (s.thread.0 == t.0) refl (seen.event.thread.0 == u.0)
        where
          here : (b : Bool) → (s.thread.0 == t.0) ≡ b → (q : Bool)
              → ended_at s u before + (if b && q then open_at s before else 0) ≡ ended_at s u before
          here true e true = let zero = none_open s e in omega (arith, zero)
          here true e false = omega arith
          here false e q = omega arith

      asleep_kept : (thread : ThreadNo) → waits thread.0 after ≡ is_some (open_of thread k)
      asleep_kept thread = asleep_after thread.0 ∙ here (thread.0 == t.0) refl
        where
          here : (b : Bool) → (thread.0 == t.0) ≡ b
              → (if b then false else waits thread.0 before) ≡ is_some (open_of thread k)
          here true e =
              sym (ap (λ u. is_some (open_of u k)) (thread_tells.alike thread t e) ∙ ap is_some none)
          here false e = stands.asleep thread

      wakes_none : StandsFor k after
      wakes_none = record {
        few = let same = length_same in let few = stands.few in omega (arith, same, few);
        ones = λ kind.
            let same = length_same in let total = total_same kind in let ones = stands.ones kind in
            omega (arith, same, total, ones);
        whole = stands.whole;
        total = λ kind. stands.total kind ∙ sym (total_same kind);
        asleep = asleep_kept;
        waiting = λ thread.
            are_open_same before after thread (open_of thread k) (λ word. open_kept (spot thread word))
            (stands.waiting thread);
        known = λ s. stands.known s ∙ ap (nat_lt 0) (sym (waits_same s));
        waits = λ s. stands.waits s ∙ sym (waits_same s);
        whole_sums = stands.whole_sums;
        costs = λ s. costs_same s (open_of s.thread k) (stands.costs s);
        within = λ kind s.
            let cost = cost_same kind s in let total = total_same kind in let within = stands.within kind s in
            omega (arith, cost, total, within);
        known_wakes = λ w. stands.known_wakes w ∙ ap (nat_lt 0) (sym (ended_kept w.spot w.waker));
        ended = λ w. stands.ended w ∙ sym (ended_kept w.spot w.waker);
      }

    -- ---- the thread has this open wait

    module _ (o : Open) (some : open_of t k ≡ Some o) where
      abbrev here : Spot
      here = spot t o.word

      abbrev wake : Wake
      wake = record { spot = here; waker = by }

      abbrev new : WaitBooks
      new = ends by t o k

      are : AreOpen before t (Some o)
      are = subst (AreOpen before t) some (stands.waiting t)

      one_open : open_at here before ≡ 1
      one_open = are.1 o.word ∙ choose (o.word == o.word) (itself o.word) 1 0

      other_word : (s : Spot) → (s.thread.0 == t.0) ≡ true → same_spot s here ≡ false → (o.word == s.word) ≡ false
      other_word s e apart =
          turned_number o.word s.word ∙ second_false (s.thread.0 == t.0) (s.word == o.word) e apart

      other_open : (s : Spot) → (s.thread.0 == t.0) ≡ true → same_spot s here ≡ false → open_at s before ≡ 0
      other_open s e apart =
          ap (λ q. open_at q before) (at_thread s e) ∙ are.1 s.word
          ∙ leave (o.word == s.word) (other_word s e apart) 1 0

      open_new : (thread : ThreadNo) → open_of thread new ≡ (if thread.0 == t.0 then None else open_of thread k)
      open_new thread =
          ap flat (after_insert same_thread thread_tells k.waiting t None thread)
          ∙ under_if flat (thread.0 == t.0) (Some None) (lookup (same_thread thread) k.waiting)

      sum_new : (s : Spot) → sum_of s new
          ≡ (if same_spot s here then ended_sum (sum_of here k) (difference_of_costs k.total o.start) else sum_of s k)
      sum_new s =
          ap (λ r. unwrap_or r (record { waits = 0; cost = no_cost }))
          (after_insert same_spot spot_tells k.sums here
          (ended_sum (sum_of here k) (difference_of_costs k.total o.start)) s)
          ∙ under_if (λ r. unwrap_or r (record { waits = 0; cost = no_cost })) (same_spot s here)
          (Some (ended_sum (sum_of here k) (difference_of_costs k.total o.start))) (lookup (same_spot s) k.sums)

      times_new : (w : Wake) → times_of w new ≡ (if same_wake w wake then times_of wake k + 1 else times_of w k)
      times_new w =
          ap (λ r. unwrap_or r 0) (after_insert same_wake wake_tells k.wakes wake (times_of wake k + 1) w)
          ∙ under_if (λ r. unwrap_or r 0) (same_wake w wake) (Some (times_of wake k + 1)) (lookup (same_wake w) k.wakes)

      asleep_new : (thread : ThreadNo) → waits thread.0 after ≡ is_some (open_of thread new)
      asleep_new thread =
          asleep_after thread.0 ∙ ap (λ b. if thread.0 == t.0 then false else b) (stands.asleep thread)
          ∙ sym (under_if is_some (thread.0 == t.0) None (open_of thread k)) ∙ ap is_some (sym (open_new thread))

      waiting_new : (thread : ThreadNo) → AreOpen after thread (open_of thread new)
      waiting_new thread = subst (AreOpen after thread) (sym (open_new thread)) (held (thread.0 == t.0) refl)
        where
          held : (b : Bool) → (thread.0 == t.0) ≡ b → AreOpen after thread (if b then None else open_of thread k)
          held true e = λ word. open_after (spot thread word)
              ∙ choose (thread.0 == t.0) e 0 (open_at (spot thread word) before)
          held false e =
              are_open_same before after thread (open_of thread k)
              (λ word. open_after (spot thread word) ∙ leave (thread.0 == t.0) e 0 (open_at (spot thread word) before))
              (stands.waiting thread)

      some_waits : nat_lt 0 (waits_at here before) ≡ true
      some_waits = let one = one_open in let below = open_below here before in grind (arith, nat_tests, one, below)

      known_new : (s : Spot) → is_some (lookup (same_spot s) new.sums) ≡ nat_lt 0 (waits_at s after)
      known_new s =
          ap is_some (after_insert same_spot spot_tells k.sums here
          (ended_sum (sum_of here k) (difference_of_costs k.total o.start)) s)
          ∙ held (same_spot s here) refl
          ∙ ap (nat_lt 0) (sym (waits_same s))
        where
          held : (b : Bool) → same_spot s here ≡ b
              → is_some (if b then Some (ended_sum (sum_of here k) (difference_of_costs k.total o.start))
              else lookup (same_spot s) k.sums)
              ≡ nat_lt 0 (waits_at s before)
          held true e = sym (ap (λ q. nat_lt 0 (waits_at q before)) (spot_tells.alike s here e) ∙ some_waits)
          held false e = stands.known s

      waits_new : (s : Spot) → (sum_of s new).waits ≡ waits_at s after
      waits_new s = ap (λ x. x.waits) (sum_new s) ∙ held (same_spot s here) refl ∙ sym (waits_same s)
        where
          held : (b : Bool) → same_spot s here ≡ b
              → (if b then ended_sum (sum_of here k) (difference_of_costs k.total o.start) else sum_of s k).waits
              ≡ waits_at s before
          held true e = stands.waits here ∙ ap (λ q. waits_at q before) (sym (spot_tells.alike s here e))
          held false e = stands.waits s

      whole_new : (s : Spot) → IsWhole (sum_of s new).cost
      whole_new s = subst (λ (x : Sum). IsWhole x.cost) (sym (sum_new s)) (held (same_spot s here))
        where
          held : (b : Bool)
              → IsWhole (if b then ended_sum (sum_of here k) (difference_of_costs k.total o.start) else sum_of s k).cost
          held true =
              whole_sum (sum_of here k).cost (difference_of_costs k.total o.start) (stands.whole_sums here)
              (whole_difference k.total o.start stands.whole are.0)
          held false = stands.whole_sums s

      cost_here : (kind : ℕ) → cost_at kind here after
          ≡ get_or (sum_of_costs (sum_of here k).cost (difference_of_costs k.total o.start)) kind 0
      cost_here kind =
          let tied = subst (IsCost k.total o.word (sum_of here k).cost (λ j. cost_at j here before)) some
          (stands.costs here) kind in
          let start = choose (o.word == o.word) (itself o.word) (get_or o.start kind 0) 0 in
          let total = choose (o.word == o.word) (itself o.word) (get_or k.total kind 0) 0 in
          let sum = number_of_sum (sum_of here k).cost (difference_of_costs k.total o.start) kind
          (stands.whole_sums here ∙ sym (whole_difference k.total o.start stands.whole are.0)) in
          let less = number_of_difference k.total o.start kind (stands.whole ∙ sym are.0) in
          let same = cost_same kind here in
          let below = tied.0 in
          let tie = tied.1 in
          omega (arith, start, total, sum, less, same, below, tie)

      costs_new : (s : Spot)
          → IsCost k.total s.word (sum_of s new).cost (λ kind. cost_at kind s after) (open_of s.thread new)
      costs_new s =
          subst (λ (x : Sum). IsCost k.total s.word x.cost (λ kind. cost_at kind s after) (open_of s.thread new))
          (sym (sum_new s))
          (subst (λ q. IsCost k.total s.word (held_sum (same_spot s here)).cost (λ kind. cost_at kind s after) q)
          (sym (open_new s.thread)) (held (same_spot s here) refl (s.thread.0 == t.0) refl))
        where
          held_sum : Bool → Sum
          held_sum b = if b then ended_sum (sum_of here k) (difference_of_costs k.total o.start) else sum_of s k

          held : (b : Bool) → same_spot s here ≡ b → (c : Bool) → (s.thread.0 == t.0) ≡ c
              → IsCost k.total s.word
              (if b then ended_sum (sum_of here k) (difference_of_costs k.total o.start) else sum_of s k).cost
              (λ kind. cost_at kind s after) (if c then None else open_of s.thread k)
          held true e true f = λ kind.
              ap (λ q. cost_at kind q after) (spot_tells.alike s here e) ∙ cost_here kind
          held true e false f =
              absurd (true_false (sym (both (s.thread.0 == t.0) (s.word == o.word) e).0 ∙ f))
          held false e true f = λ kind.
              let is = ap (λ u. open_of u k) (thread_tells.alike s.thread t f) ∙ some in
              let tied = subst (IsCost k.total s.word (sum_of s k).cost (λ j. cost_at j s before)) is
              (stands.costs s) kind in
              let apart = other_word s f e in
              let start = leave (o.word == s.word) apart (get_or o.start kind 0) 0 in
              let total = leave (o.word == s.word) apart (get_or k.total kind 0) 0 in
              let same = cost_same kind s in
              let tie = tied.1 in
              omega (arith, start, total, same, tie)
          held false e false f = costs_same s (open_of s.thread k) (stands.costs s)

      abbrev more_ended : Wake → ℕ
      more_ended w = if w.spot.thread.0 == t.0 && seen.event.thread.0 == w.waker.0 then open_at w.spot before else 0

      more_here : more_ended wake ≡ 1
      more_here =
          choose (t.0 == t.0 && seen.event.thread.0 == seen.event.thread.0)
          (λ i. itself t.0 i && itself seen.event.thread.0 i) (open_at here before) 0
          ∙ one_open

      more_else : (w : Wake) → same_wake w wake ≡ false → more_ended w ≡ 0
      more_else w apart = held (w.spot.thread.0 == t.0) refl (seen.event.thread.0 == w.waker.0) refl
        where
          held : (b : Bool) → (w.spot.thread.0 == t.0) ≡ b → (c : Bool) → (seen.event.thread.0 == w.waker.0) ≡ c
              → (if b && c then open_at w.spot before else 0) ≡ 0
          held true e true f =
              other_open w.spot e
              (first_false (same_spot w.spot here) (w.waker.0 == seen.event.thread.0)
              (turned_number w.waker.0 seen.event.thread.0 ∙ f) apart)
          held true e false f = refl
          held false e c f = refl

      ended_new : (w : Wake) → times_of w new ≡ ended_at w.spot w.waker after
      ended_new w = times_new w ∙ held (same_wake w wake) refl ∙ sym (ended_after w.spot w.waker)
        where
          held : (b : Bool) → same_wake w wake ≡ b
              → (if b then times_of wake k + 1 else times_of w k) ≡ ended_at w.spot w.waker before + more_ended w
          held true e =
              (λ i. stands.ended wake i + sym more_here i)
              ∙ ap (λ (q : Wake). ended_at q.spot q.waker before + more_ended q) (sym (wake_tells.alike w wake e))
          held false e =
              let more = more_else w e in let was = stands.ended w in omega (arith, more, was)

      known_wakes_new : (w : Wake)
          → is_some (lookup (same_wake w) new.wakes) ≡ nat_lt 0 (ended_at w.spot w.waker after)
      known_wakes_new w =
          ap is_some (after_insert same_wake wake_tells k.wakes wake (times_of wake k + 1) w)
          ∙ held (same_wake w wake) refl
          ∙ ap (nat_lt 0) (sym (ended_after w.spot w.waker))
        where
          held : (b : Bool) → same_wake w wake ≡ b
              → is_some (if b then Some (times_of wake k + 1) else lookup (same_wake w) k.wakes)
              ≡ nat_lt 0 (ended_at w.spot w.waker before + more_ended w)
          held true e =
              sym (some_number (ended_at here by before))
              ∙ (λ i. nat_lt 0 (ended_at here by before + sym more_here i))
              ∙ ap (λ (q : Wake). nat_lt 0 (ended_at q.spot q.waker before + more_ended q))
              (sym (wake_tells.alike w wake e))
          held false e = stands.known_wakes w ∙ ap (nat_lt 0)
              (plus_zero (ended_at w.spot w.waker before) (more_ended w) (more_else w e))

      wakes_some : StandsFor new after
      wakes_some = record {
        few = let same = length_same in let few = stands.few in omega (arith, same, few);
        ones = λ kind.
            let same = length_same in let total = total_same kind in let ones = stands.ones kind in
            omega (arith, same, total, ones);
        whole = stands.whole;
        total = λ kind. stands.total kind ∙ sym (total_same kind);
        asleep = asleep_new;
        waiting = waiting_new;
        known = known_new;
        waits = waits_new;
        whole_sums = whole_new;
        costs = costs_new;
        within = λ kind s.
            let cost = cost_same kind s in let total = total_same kind in let within = stands.within kind s in
            omega (arith, cost, total, within);
        known_wakes = known_wakes_new;
        ended = ended_new;
      }

    ends_any : (o : Option Open) → open_of t k ≡ o → StandsFor (ends_open by t o k) after
    ends_any None none = wakes_none none
    ends_any (Some o) some = wakes_some o some

    -- the thread is woken
    pub wakes_one : StandsFor (wakes by k t) after
    wakes_one = ends_any (open_of t k) refl
