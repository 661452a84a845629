-- What is kept stands for one step more once its event has passed.
use Rattle.std.proofs.Common.{◌≡◌, ℕ, zero, suc, ◌+◌, ◌≤◌, ◌==◌, ◌&&◌, Bool, true, false, List, [], ◌∷◌, ◌++◌}
use Rattle.std.proofs.Common.{if◌then◌else◌, refl, sym, ap, ◌∙◌, arith, Option}
use Rattle.std.proofs.Common.{Some, None, is_some, length, nat_lt, get_or}
use Rattle.std.specs.List.{AllByRecursion}
use Rattle.std.proofs.lemmas.List.Elements.{recursion_from_All}
use Rattle.std.proofs.lemmas.Simd.{length-zip2}
use Rattle.event_costs.specs.Costs.{IsWhole, sum_of_costs}
use Rattle.event_costs.specs.declared.numbers.ThreadNo.{ThreadNo}
use Rattle.shadow_stack.specs.Traces.{EventOnStack}
use Rattle.part_dump.specs.Steps.{Step}
use Rattle.part_dump.specs.Watched.{waits}
use Rattle.wait_report.specs.Keeping.{WaitBooks, open_of, after_event, spot, sum_of}
use Rattle.wait_report.specs.Rows.{cost_at, ended_at, open_at, waits_at}
use Rattle.wait_report.specs.Waits.{cost_of}
use Rattle.wait_report.specs.Standing.{AreOpen, IsCost, MayFollow, StandsFor, step}
use Rattle.wait_report.specs.declared.books.Open.{Open}
use Rattle.wait_report.specs.declared.books.Spot.{Spot}
use Rattle.wait_report.specs.inner.Counts.{cost_at_none, cost_at_one, cost_of_more, ended_at_more, open_at_more}
use Rattle.wait_report.specs.inner.Counts.{waits_after_more, waits_at_more}
use Rattle.wait_report.specs.inner.Lookups.{same_number}

pub number_of_sum : (xs ys : List ℕ) (kind : ℕ) → length xs ≡ length ys
    → get_or (sum_of_costs xs ys) kind 0 ≡ get_or xs kind 0 + get_or ys kind 0
number_of_sum [] [] kind alike = refl
number_of_sum [] (y ∷ ys) kind alike = absurd (omega (arith, alike))
number_of_sum (x ∷ xs) [] kind alike = absurd (omega (arith, alike))
number_of_sum (x ∷ xs) (y ∷ ys) zero alike = refl
number_of_sum (x ∷ xs) (y ∷ ys) (suc kind) alike = number_of_sum xs ys kind (omega (arith, alike))

pub whole_sum : (a b : List ℕ) → IsWhole a → IsWhole b → IsWhole (sum_of_costs a b)
whole_sum a b one other = length-zip2 (λ x y. x + y) a b (one ∙ sym other) ∙ one

pub ones_at : (xs : List ℕ) (kind : ℕ) → AllByRecursion (λ n. n ≤ 1) xs → get_or xs kind 0 ≤ 1
ones_at [] kind all = omega arith
ones_at (x ∷ xs) zero all = all.0
ones_at (x ∷ xs) (suc kind) all = ones_at xs kind all.1

pub one_more : (xs : List Step) (x : Step) → length (xs ++ x ∷ []) ≡ length xs + 1
one_more [] x = refl
one_more (y ∷ ys) x = omega (arith, one_more ys x)

pub are_open_same : (xs ys : List Step) (thread : ThreadNo) (o : Option Open)
    → ((word : ℕ) → open_at (spot thread word) ys ≡ open_at (spot thread word) xs)
    → AreOpen xs thread o → AreOpen ys thread o
are_open_same xs ys thread None same are = λ word. same word ∙ are word
are_open_same xs ys thread (Some o) same are = (are.0, λ word. same word ∙ are.1 word)

plus_none : (n m : ℕ) → m ≡ n + 0 → m ≡ n
plus_none n m e = omega (arith, e)

module _ (k : WaitBooks) (xs : List Step) (seen : EventOnStack) (stands : StandsFor k xs)
    (follows : MayFollow xs (step seen None [])) where
  abbrev x : Step
  x = step seen None []

  open_same : (s : Spot) → open_at s (xs ++ x ∷ []) ≡ open_at s xs
  open_same s = plus_none (open_at s xs) (open_at s (xs ++ x ∷ [])) (open_at_more s xs x)

  waits_same : (s : Spot) → waits_at s (xs ++ x ∷ []) ≡ waits_at s xs
  waits_same s = plus_none (waits_at s xs) (waits_at s (xs ++ x ∷ [])) (waits_at_more s xs x)

  ended_same : (s : Spot) (u : ThreadNo) → ended_at s u (xs ++ x ∷ []) ≡ ended_at s u xs
  ended_same s u = plus_none (ended_at s u xs) (ended_at s u (xs ++ x ∷ [])) (ended_at_more s u xs x)

  total_more : (kind : ℕ) → cost_of kind (xs ++ x ∷ []) ≡ cost_of kind xs + get_or seen.cost kind 0
  total_more kind =
      let more = cost_of_more kind xs x in
      let last : cost_of kind (x ∷ []) ≡ get_or seen.cost kind 0 = omega arith in omega (arith, more, last)

  last_cost : (kind : ℕ) → cost_of kind (x ∷ []) ≡ get_or seen.cost kind 0
  last_cost kind = omega arith

  total_sum : (kind : ℕ) → get_or (sum_of_costs k.total seen.cost) kind 0
      ≡ get_or k.total kind 0 + get_or seen.cost kind 0
  total_sum kind = number_of_sum k.total seen.cost kind (stands.whole ∙ sym follows.whole)

  asleep_more : (thread : ThreadNo) → waits thread.0 (xs ++ x ∷ []) ≡ is_some (open_of thread k)
  asleep_more thread =
      waits_after_more thread.0 false xs x
      ∙ by (seen.event.thread.0 == thread.0) refl (waits thread.0 xs) refl
    where
      by : (b : Bool) → (seen.event.thread.0 == thread.0) ≡ b → (w : Bool) → waits thread.0 xs ≡ w
          → (if b then false else (w && true)) ≡ is_some (open_of thread k)
      by true e w f =
          sym (sym (stands.asleep thread)
          ∙ ap (λ t. waits t xs) (sym (same_number seen.event.thread.0 thread.0 e)) ∙ follows.awake)
      by false e true f = sym f ∙ stands.asleep thread
      by false e false f = sym f ∙ stands.asleep thread

  costs_more : (s : Spot) (o : Option Open) → AreOpen xs s.thread o
      → IsCost k.total s.word (sum_of s k).cost (λ kind. cost_at kind s xs) o
      → IsCost (sum_of_costs k.total seen.cost) s.word (sum_of s k).cost (λ kind. cost_at kind s (xs ++ x ∷ [])) o
  costs_more s None are is = λ kind. cost_at_none kind s xs x (are s.word) ∙ is kind
  costs_more s (Some o) are is = by (o.word == s.word) (are.1 s.word) is
    where
      by : (b : Bool) → open_at s xs ≡ (if b then 1 else 0)
          → ((kind : ℕ) → (get_or o.start kind 0 ≤ get_or k.total kind 0)
          × (cost_at kind s xs + (if b then get_or o.start kind 0 else 0)
          ≡ get_or (sum_of s k).cost kind 0 + (if b then get_or k.total kind 0 else 0)))
          → (kind : ℕ) → (get_or o.start kind 0 ≤ get_or (sum_of_costs k.total seen.cost) kind 0)
          × (cost_at kind s (xs ++ x ∷ []) + (if b then get_or o.start kind 0 else 0)
          ≡ get_or (sum_of s k).cost kind 0 + (if b then get_or (sum_of_costs k.total seen.cost) kind 0 else 0))
      by true one is kind =
          let more = cost_at_one kind s xs x one in
          let last = last_cost kind in
          let sum = total_sum kind in
          let below = (is kind).0 in
          let tie = (is kind).1 in
          (omega (arith, sum, below), omega (arith, more, last, sum, tie))
      by false none is kind =
          let more = cost_at_none kind s xs x none in
          let sum = total_sum kind in
          let below = (is kind).0 in
          let tie = (is kind).1 in
          (omega (arith, sum, below), omega (arith, more, tie))

  within_more : (kind : ℕ) (s : Spot) (o : Option Open) → AreOpen xs s.thread o
      → cost_at kind s (xs ++ x ∷ []) ≤ cost_of kind (xs ++ x ∷ [])
  within_more kind s None are =
      let more = cost_at_none kind s xs x (are s.word) in
      let total = total_more kind in
      let before = stands.within kind s in omega (arith, more, total, before)
  within_more kind s (Some o) are = by (o.word == s.word) (are.1 s.word)
    where
      by : (b : Bool) → open_at s xs ≡ (if b then 1 else 0)
          → cost_at kind s (xs ++ x ∷ []) ≤ cost_of kind (xs ++ x ∷ [])
      by true one =
          let more = cost_at_one kind s xs x one in
          let last = last_cost kind in
          let total = total_more kind in
          let before = stands.within kind s in omega (arith, more, last, total, before)
      by false none =
          let more = cost_at_none kind s xs x none in
          let total = total_more kind in
          let before = stands.within kind s in omega (arith, more, total, before)

  pub passes : StandsFor (after_event seen.cost k) (xs ++ x ∷ [])
  passes = record {
    few = let one = one_more xs x in let room = follows.room in omega (arith, one, room);
    ones = λ kind.
        let more = total_more kind in
        let one = one_more xs x in
        let before = stands.ones kind in
        let last = ones_at seen.cost kind (recursion_from_All (λ n. n ≤ 1) seen.cost follows.ones) in
        omega (arith, more, one, before, last);
    whole = whole_sum k.total seen.cost stands.whole follows.whole;
    total = λ kind.
        let sum = total_sum kind in
        let more = total_more kind in
        let before = stands.total kind in omega (arith, sum, more, before);
    asleep = asleep_more;
    waiting = λ thread.
        are_open_same xs (xs ++ x ∷ []) thread (open_of thread k) (λ word. open_same (spot thread word))
        (stands.waiting thread);
    known = λ s. stands.known s ∙ ap (nat_lt 0) (sym (waits_same s));
    waits = λ s. stands.waits s ∙ sym (waits_same s);
    whole_sums = stands.whole_sums;
    costs = λ s. costs_more s (open_of s.thread k) (stands.waiting s.thread) (stands.costs s);
    within = λ kind s. within_more kind s (open_of s.thread k) (stands.waiting s.thread);
    known_wakes = λ w. stands.known_wakes w ∙ ap (nat_lt 0) (sym (ended_same w.spot w.waker));
    ended = λ w. stands.ended w ∙ sym (ended_same w.spot w.waker);
  }
