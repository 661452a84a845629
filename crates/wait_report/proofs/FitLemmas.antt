-- Where what is kept stands for steps, no sum passes 64 bits.
use Rattle.std.proofs.Common.{◌≡◌, ℕ, ◌+◌, ◌<◌, ◌≤◌, ◌==◌, ◌^◌, List, [], ◌∷◌, ◌++◌, length, get_or}
use Rattle.std.proofs.Common.{refl, sym, ◌∙◌, subst, arith, Option, Some, None, IfSome, if◌then◌else◌, suc}
use Rattle.std.specs.List.{All, AllZip}
use Rattle.std.proofs.lemmas.List.Elements.{recursion_from_All}
use Rattle.event_costs.specs.Costs.{difference_of_costs, sum_of_costs}
use Rattle.event_costs.specs.declared.event.Event.{Event}
use Rattle.event_costs.specs.declared.numbers.ThreadNo.{ThreadNo}
use Rattle.sym_map.specs.SymbolMap.{SymbolMap}
use Rattle.shadow_stack.specs.Traces.{EventOnStack}
use Rattle.wait_report.proofs.Others.{fits_from_numbers}
use Rattle.part_dump.specs.Steps.{Step}
use Rattle.wait_report.specs.Keeping.{WaitBooks, WaitState, begins, open_of, after_event, spot, sum_of, wakes_all}
use Rattle.wait_report.specs.Rows.{cost_at}
use Rattle.wait_report.specs.Standing.{AreOpen, CanSee, IsCost, MayFollow, StandsFor, step}
use Rattle.wait_report.specs.declared.books.Open.{Open}
use Rattle.wait_report.specs.inner.Beginning.{begins_one}
use Rattle.wait_report.specs.inner.Counts.{ended_below, waits_below}
use Rattle.wait_report.specs.inner.Law.{wakes_each}
use Rattle.wait_report.specs.inner.Lookups.{itself}
use Rattle.wait_report.specs.inner.Passing.{ones_at, passes}
use Rattle.wait_report.specs.inner.Room.{CanEnd, HasPassed, HasSpan, IsSound}
use Rattle.wait_report.specs.inner.Waking.{choose, number_of_difference}

pub all_zip : (xs ys : List ℕ) → length xs ≡ length ys → ((kind : ℕ) → get_or ys kind 0 ≤ get_or xs kind 0)
    → AllZip (λ x y. y ≤ x) xs ys
all_zip [] [] alike below = tt
all_zip [] (y ∷ ys) alike below = absurd (omega (arith, alike))
all_zip (x ∷ xs) [] alike below = absurd (omega (arith, alike))
all_zip (x ∷ xs) (y ∷ ys) alike below = (below 0, all_zip xs ys (omega (arith, alike)) (λ kind. below (suc kind)))

module _ (k : WaitBooks) (xs : List Step) (stands : StandsFor k xs) where
  total_small : (kind : ℕ) → get_or k.total kind 0 ≤ 10 ^ 12
  total_small kind =
      let total = stands.total kind in let ones = stands.ones kind in let few = stands.few in
      omega (arith, total, ones, few)

  span_of : (thread : ThreadNo) (o : Open) → open_of thread k ≡ Some o → HasSpan k thread o
  span_of thread o is =
      let are = subst (AreOpen xs thread) is (stands.waiting thread) in
      let here = spot thread o.word in
      let tied = subst (IsCost k.total o.word (sum_of here k).cost (λ j. cost_at j here xs)) is (stands.costs here) in
      record {
        covered = all_zip k.total o.start (stands.whole ∙ sym are.0) (λ kind. (tied kind).0);
        fits = fits_from_numbers (sum_of here k).cost (difference_of_costs k.total o.start)
            (λ kind. sum_fits kind (stands.whole ∙ sym are.0) (tied kind).0 (tied kind).1);
      }
    where
      sum_fits : (kind : ℕ) → length k.total ≡ length o.start → get_or o.start kind 0 ≤ get_or k.total kind 0
          → cost_at kind (spot thread o.word) xs + (if o.word == o.word then get_or o.start kind 0 else 0)
          ≡ get_or (sum_of (spot thread o.word) k).cost kind 0
          + (if o.word == o.word then get_or k.total kind 0 else 0)
          → get_or (sum_of (spot thread o.word) k).cost kind 0
          + get_or (difference_of_costs k.total o.start) kind 0 < 2 ^ 64
      sum_fits kind alike below tie =
          let start = choose (o.word == o.word) (itself o.word) (get_or o.start kind 0) 0 in
          let total = choose (o.word == o.word) (itself o.word) (get_or k.total kind 0) 0 in
          let less = number_of_difference k.total o.start kind alike in
          let within = stands.within kind (spot thread o.word) in
          let ones = stands.ones kind in
          let few = stands.few in
          omega (arith, start, total, less, within, ones, few, below, tie)

  pub sound : IsSound k
  sound thread = by (open_of thread k) refl
    where
      by : (o : Option Open) → open_of thread k ≡ o → IfSome o (HasSpan k thread)
      by None is = tt
      by (Some o) is = span_of thread o is

  pub can_end : (waker thread : ThreadNo) → IfSome (open_of thread k) (CanEnd k waker thread)
  can_end waker thread = by (open_of thread k) refl
    where
      by : (o : Option Open) → open_of thread k ≡ o → IfSome o (CanEnd k waker thread)
      by None is = tt
      by (Some o) is = record {
        span = span_of thread o is;
        times =
            let here = spot thread o.word in
            let ended = stands.ended (record { spot = here; waker = waker }) in
            let below = ended_below here waker xs in
            let waits = waits_below here xs in
            let few = stands.few in
            omega (arith, ended, below, waits, few);
      }

  pub can_begin : (thread : ThreadNo) (word : ℕ) → (sum_of (spot thread word) k).waits + 1 < 2 ^ 64
  can_begin thread word =
      let here = spot thread word in
      let is = stands.waits here in
      let waits = waits_below here xs in
      let few = stands.few in
      omega (arith, is, waits, few)

-- the threads of a list are woken after the step has passed
pub passed_stands : (k new : WaitBooks) (waker : ThreadNo) (woken : List ThreadNo) → (has : HasPassed k waker)
    → new ≡ wakes_all waker woken k → StandsFor new (has.earlier ++ step has.on_stack None woken ∷ [])
passed_stands k new waker woken has is =
    subst (λ q. StandsFor q (has.earlier ++ step has.on_stack None woken ∷ [])) (sym is)
    (subst (λ u. StandsFor (wakes_all u woken k) (has.earlier ++ step has.on_stack None woken ∷ [])) has.is
    (wakes_each has.earlier has.on_stack [] woken k has.stands))

-- and then the step's thread begins to wait
pub begun_stands : (k mid new : WaitBooks) (waker : ThreadNo) (woken : List ThreadNo) (word : ℕ) → (has : HasPassed k waker)
    → mid ≡ wakes_all waker woken k → new ≡ begins waker word mid
    → StandsFor new (has.earlier ++ step has.on_stack (Some word) woken ∷ [])
begun_stands k mid new waker woken word has woke is =
    subst (λ q. StandsFor q (has.earlier ++ step has.on_stack (Some word) woken ∷ [])) (sym is)
    (subst (λ u. StandsFor (begins u word mid) (has.earlier ++ step has.on_stack (Some word) woken ∷ [])) has.is
    (begins_one has.earlier has.on_stack woken word mid (passed_stands k mid waker woken has woke)))

module _ (w : WaitState) (event : Event) (cost : List ℕ) (wait : Option ℕ) (woken : List ThreadNo) (syms : SymbolMap)
    (can : CanSee w event cost wait woken syms) (k : WaitBooks) (is : k ≡ w.books) where
  abbrev seen : EventOnStack
  seen = record { event = event; cost = cost; stack = [] }

  stands : StandsFor k can.earlier
  stands = subst (λ q. StandsFor q can.earlier) (sym is) can.stands

  follows : MayFollow can.earlier (step seen None [])
  follows = record {
    whole = can.follows.whole;
    ones = can.follows.ones;
    room = can.follows.room;
    awake = can.follows.awake;
  }

  pub can_add : All (λ n. n < 2 ^ 64) (sum_of_costs k.total cost)
  can_add =
      fits_from_numbers k.total cost (λ kind.
      let total = total_small k can.earlier stands kind in
      let last = ones_at cost kind (recursion_from_All (λ n. n ≤ 1) cost can.follows.ones) in
      omega (arith, total, last))

  pub has_passed : (new : WaitBooks) → new ≡ after_event cost k → HasPassed new event.thread
  has_passed new one = record {
    earlier = can.earlier;
    on_stack = seen;
    is = refl;
    stands = subst (λ q. StandsFor q (can.earlier ++ step seen None [] ∷ [])) (sym one)
        (passes k can.earlier seen stands follows);
  }
