-- A row is what the trace's waits at its spot come to.
use Rattle.std.proofs.Common.{◌≡◌, ℕ, ◌==◌, Bool, true, false, List}
use Rattle.std.proofs.Common.{get_or, refl, sym, ap, subst, ◌∙◌}
use Rattle.std.proofs.Common.{arith, Option, Some, None, if◌then◌else◌, nat_lt}
use Rattle.event_costs.specs.Costs.{difference_of_costs, sum_of_costs}
use Rattle.arc_costs.specs.Keys.{by_kind}
use Rattle.wait_report.proofs.Others.{cost_is}
use Rattle.part_dump.specs.Steps.{Step}
use Rattle.wait_report.specs.declared.rows.WaitRow.{WaitRow}
use Rattle.wait_report.specs.declared.rows.Waker.{Waker}
use Rattle.wait_report.specs.Keeping.{WaitBooks, open_of, sum_of}
use Rattle.wait_report.specs.Rows.{cost_at, open_at, row_at, waits_at, wakers_at}
use Rattle.wait_report.specs.Standing.{AreOpen, IsCost, StandsFor}
use Rattle.wait_report.specs.declared.books.Open.{Open}
use Rattle.wait_report.specs.declared.books.Spot.{Spot}
use Rattle.wait_report.specs.inner.Room.{only_at}
use Rattle.wait_report.specs.inner.Passing.{number_of_sum, whole_sum}
use Rattle.wait_report.specs.inner.Waking.{choose, leave, number_of_difference, whole_difference}

module _ (k : WaitBooks) (xs : List Step) (s : Spot) (stands : StandsFor k xs) where
  none_open : (o : Option Open) → open_of s.thread k ≡ o → AreOpen xs s.thread o
  none_open o is = subst (AreOpen xs s.thread) is (stands.waiting s.thread)

  is_cost : (o : Option Open) → open_of s.thread k ≡ o
      → IsCost k.total s.word (sum_of s k).cost (λ kind. cost_at kind s xs) o
  is_cost o is = subst (IsCost k.total s.word (sum_of s k).cost (λ kind. cost_at kind s xs)) is (stands.costs s)

  -- no wait of the thread is open
  pub none_cost : open_of s.thread k ≡ None → (sum_of s k).cost ≡ by_kind (λ kind. cost_at kind s xs)
  none_cost is =
      cost_is (sum_of s k).cost (λ kind. cost_at kind s xs) (stands.whole_sums s) (λ kind. sym (is_cost None is kind))

  pub none_unwoken : open_of s.thread k ≡ None → false ≡ nat_lt 0 (open_at s xs)
  none_unwoken is = ap (nat_lt 0) (sym (none_open None is s.word))

  -- the thread's open wait is at another word
  pub other_cost : (o : Open) → open_of s.thread k ≡ Some o → (o.word == s.word) ≡ false
      → (sum_of s k).cost ≡ by_kind (λ kind. cost_at kind s xs)
  other_cost o is other =
      cost_is (sum_of s k).cost (λ kind. cost_at kind s xs) (stands.whole_sums s)
      (λ kind.
      let tie = (is_cost (Some o) is kind).1 in
      let start = leave (o.word == s.word) other (get_or o.start kind 0) 0 in
      let total = leave (o.word == s.word) other (get_or k.total kind 0) 0 in
      omega (arith, tie, start, total))

  pub other_unwoken : (o : Open) → open_of s.thread k ≡ Some o → (o.word == s.word) ≡ false
      → false ≡ nat_lt 0 (open_at s xs)
  other_unwoken o is other =
      ap (nat_lt 0) (sym ((none_open (Some o) is).1 s.word ∙ leave (o.word == s.word) other 1 0))

  -- it is at this word
  pub open_cost : (o : Open) → open_of s.thread k ≡ Some o → (o.word == s.word) ≡ true
      → sum_of_costs (sum_of s k).cost (difference_of_costs k.total o.start) ≡ by_kind (λ kind. cost_at kind s xs)
  open_cost o is same =
      let whole = (none_open (Some o) is).0 in
      let rest = whole_difference k.total o.start stands.whole whole in
      cost_is (sum_of_costs (sum_of s k).cost (difference_of_costs k.total o.start)) (λ kind. cost_at kind s xs)
      (whole_sum (sum_of s k).cost (difference_of_costs k.total o.start) (stands.whole_sums s) rest)
      (λ kind.
      let below = (is_cost (Some o) is kind).0 in
      let tie = (is_cost (Some o) is kind).1 in
      let start = choose (o.word == s.word) same (get_or o.start kind 0) 0 in
      let total = choose (o.word == s.word) same (get_or k.total kind 0) 0 in
      let sum = number_of_sum (sum_of s k).cost (difference_of_costs k.total o.start) kind
      (stands.whole_sums s ∙ sym rest) in
      let less = number_of_difference k.total o.start kind (stands.whole ∙ sym whole) in
      omega (arith, below, tie, start, total, sum, less))

  pub open_unwoken : (o : Open) → open_of s.thread k ≡ Some o → (o.word == s.word) ≡ true
      → true ≡ nat_lt 0 (open_at s xs)
  open_unwoken o is same = ap (nat_lt 0) (sym ((none_open (Some o) is).1 s.word ∙ choose (o.word == s.word) same 1 0))

  -- the open wait that the row sees

  pub at_none_cost : only_at s.word (open_of s.thread k) ≡ None
      → (sum_of s k).cost ≡ by_kind (λ kind. cost_at kind s xs)
  at_none_cost = by (open_of s.thread k) refl
    where
      by : (o : Option Open) → open_of s.thread k ≡ o → only_at s.word o ≡ None
          → (sum_of s k).cost ≡ by_kind (λ kind. cost_at kind s xs)
      by None is none = none_cost is
      by (Some o) is none = held (o.word == s.word) refl none
        where
          held : (b : Bool) → (o.word == s.word) ≡ b → (if b then Some o else None) ≡ None
              → (sum_of s k).cost ≡ by_kind (λ kind. cost_at kind s xs)
          held true e some = absurd (not_none some)
            where
              not_none : Some o ≡ None → ⊥
              not_none f = cc
          held false e none_ = other_cost o is e

  pub at_none_unwoken : only_at s.word (open_of s.thread k) ≡ None → false ≡ nat_lt 0 (open_at s xs)
  at_none_unwoken = by (open_of s.thread k) refl
    where
      by : (o : Option Open) → open_of s.thread k ≡ o → only_at s.word o ≡ None → false ≡ nat_lt 0 (open_at s xs)
      by None is none = none_unwoken is
      by (Some o) is none = held (o.word == s.word) refl none
        where
          held : (b : Bool) → (o.word == s.word) ≡ b → (if b then Some o else None) ≡ None
              → false ≡ nat_lt 0 (open_at s xs)
          held true e some = absurd (not_none some)
            where
              not_none : Some o ≡ None → ⊥
              not_none f = cc
          held false e none_ = other_unwoken o is e

-- what an open wait at a word is
pub only_some : (word : ℕ) (o : Option Open) (held : Open) → only_at word o ≡ Some held
    → (o ≡ Some held) × ((held.word == word) ≡ true)
only_some word None held is = absurd (no is)
  where
    no : None ≡ Some held → ⊥
    no f = cc
only_some word (Some p) held is = by (p.word == word) refl is
  where
    by : (b : Bool) → (p.word == word) ≡ b → (if b then Some p else None) ≡ Some held
        → (Some p ≡ Some held) × ((held.word == word) ≡ true)
    by true e same = (same, ap (word_is p) (sym same) ∙ e)
      where
        word_is : Open → Option Open → Bool
        word_is q None = q.word == word
        word_is q (Some r) = r.word == word
    by false e none = absurd (no none)
      where
        no : None ≡ Some held → ⊥
        no f = cc

-- a row of its parts
pub row_is : (xs : List Step) (s : Spot) (waits : ℕ) (unwoken : Bool) (cost : List ℕ) (wakers : List Waker)
    → waits ≡ waits_at s xs → unwoken ≡ nat_lt 0 (open_at s xs) → cost ≡ by_kind (λ kind. cost_at kind s xs)
    → wakers ≡ wakers_at s xs
    → ◌≡◌ {A = WaitRow} (record {
      thread = s.thread;
      word = s.word;
      waits = waits;
      unwoken = unwoken;
      cost = cost;
      wakers = wakers;
    }) (row_at xs s)
row_is xs s waits unwoken cost wakers a b c d =
    λ i. record { thread = s.thread; word = s.word; waits = a i; unwoken = b i; cost = c i; wakers = d i }
