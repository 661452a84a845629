-- The costs of all rows together: a thread waits once at a time, so no more than its run costs for each thread.
use Rattle.std.proofs.Common.{◌≡◌, ℕ, zero, suc, ◌+◌, ◌*◌, ◌<◌, ◌≤◌, ◌^◌, ◌==◌, Bool, true, false, if◌then◌else◌}
use Rattle.std.proofs.Common.{List, [], ◌∷◌, ◌++◌, All, length, map, get_or, sum_by, Option, None, Some, refl, sym, ap}
use Rattle.std.proofs.Common.{nat_lt, subst, ◌∙◌, arith, inl, inr}
use Rattle.std.specs.List.{AllByRecursion}
use Rattle.std.specs.declared.cmp.Ordering.TheVariants.{Less}
use Rattle.std.proofs.lemmas.Bool.{ltb-true}
use Rattle.std.proofs.lemmas.Bool.Decides.{nat_tests}
use Rattle.std.proofs.lemmas.List.{get_or_past}
use Rattle.std.proofs.lemmas.List.FromFn.{length-map-range_with_len}
use Rattle.std.proofs.lemmas.List.Elements.{recursion_from_All}
use Rattle.std.proofs.lemmas.List.Sums.{sum_by-cons}
use Rattle.event_costs.specs.Costs.{event_kinds}
use Rattle.part_dump.specs.Steps.{Step, thread_of}
use Rattle.part_dump.specs.Watched.{is_woken, most_steps}
use Rattle.wait_report.specs.Keeping.{nothing}
use Rattle.wait_report.specs.Rows.{cost_at, is_at, row_at, same_spot, spot_of, spot_order, spots_of}
use Rattle.wait_report.specs.Rows.{wait_rows}
use Rattle.wait_report.specs.Standing.{HaveSums, MayAllFollow}
use Rattle.wait_report.specs.Waits.{Wait, begun_wait, cost_of, span, wait_of, waits_in}
use Rattle.wait_report.specs.declared.books.Spot.{Spot}
use Rattle.wait_report.specs.declared.rows.WaitRow.{WaitRow}
use Rattle.wait_report.specs.inner.Counts.{sum_none, sum_plus}
use Rattle.wait_report.specs.inner.Law.{nothing_stands, stands_after}
use Rattle.wait_report.specs.inner.Lookups.{same_number, spot_tells}
use Rattle.wait_report.specs.inner.Quiet.{AreQuiet, IsOfOthers, quiet_after}
use Rattle.wait_report.proofs.OrderLemmas.{spot_only, spot_total}
use Rattle.arc_costs.specs.Keys.{IsIn, by_kind}
use Rattle.wait_report.proofs.Others.{by_kind_at, Rises, not_below_itself, risen_rises}

abbrev if_so : Bool → ℕ → ℕ
if_so b n = if b then n else 0

-- ---- the waits of one thread follow each other

cost_cons : (kind : ℕ) (x : Step) (xs : List Step)
    → cost_of kind (x ∷ xs) ≡ get_or x.on_stack.cost kind 0 + cost_of kind xs
cost_cons kind x xs = sum_by-cons (λ (y : Step). get_or y.on_stack.cost kind 0) x xs

module _ (kind t : ℕ) where
  abbrev own_cost : Wait → ℕ
  own_cost w = if_so (w.thread == t) (cost_of kind w.span)

  -- what all waits of the thread cost
  abbrev own_costs : List Step → ℕ
  own_costs xs = sum_by own_cost (waits_in xs)

  -- no more than all steps do; and where the thread waits before them, its open wait may cost that too
  pub record IsFew (xs : List Step) : Type 0 where
    pub all : own_costs xs ≤ cost_of kind xs
    pub behind : IsOfOthers t (span t xs) → cost_of kind (span t xs) + own_costs xs ≤ cost_of kind xs

  other_begins : (word : Option ℕ) (x : Step) (xs : List Step) → (thread_of x == t) ≡ false
      → sum_by own_cost (begun_wait word (thread_of x) xs ++ waits_in xs) ≡ own_costs xs
  other_begins None x xs other = refl
  other_begins (Some word) x xs other =
      sum_by-cons own_cost (wait_of (thread_of x) xs word) (waits_in xs)
      ∙ ap (λ b. if_so b (cost_of kind (span (thread_of x) xs)) + own_costs xs) other
      ∙ zero_plus (own_costs xs)
    where
      zero_plus : (n : ℕ) → 0 + n ≡ n
      zero_plus n = omega arith

  begins_few : (word : Option ℕ) (x : Step) (xs : List Step)
      → AreQuiet (begun_wait word (thread_of x) xs ++ waits_in xs) → IsFew xs
      → sum_by own_cost (begun_wait word (thread_of x) xs ++ waits_in xs) ≤ cost_of kind xs
  begins_few None x xs quiet few = few.all
  begins_few (Some word) x xs quiet few = by (thread_of x == t) refl
    where
      w : Wait
      w = wait_of (thread_of x) xs word

      split : sum_by own_cost (w ∷ waits_in xs) ≡ own_cost w + own_costs xs
      split = sum_by-cons own_cost w (waits_in xs)

      by : (b : Bool) → (thread_of x == t) ≡ b → sum_by own_cost (w ∷ waits_in xs) ≤ cost_of kind xs
      by false other =
          let none : own_cost w ≡ 0 = ap (λ b. if_so b (cost_of kind w.span)) other in
          let all = few.all in
          omega (arith, split, none, all)
      by true mine =
          let same = same_number (thread_of x) t mine in
          let own : own_cost w ≡ cost_of kind (span t xs)
          = ap (λ b. if_so b (cost_of kind w.span)) mine ∙ ap (λ n. cost_of kind (span n xs)) same in
          let all = few.behind (subst (λ n. IsOfOthers n (span n xs)) same quiet.0) in
          omega (arith, split, own, all)

  waits_behind : (vs ws : List Wait) → AreQuiet (vs ++ ws) → AreQuiet ws
  waits_behind [] ws quiet = quiet
  waits_behind (v ∷ vs) ws quiet = waits_behind vs ws quiet.1

  pub few_waits : (xs : List Step) → AreQuiet (waits_in xs) → IsFew xs
  few_waits [] quiet = record { all = omega arith; behind = λ others. omega arith }
  few_waits (x ∷ xs) quiet =
      let few = few_waits xs (waits_behind (begun_wait x.wait (thread_of x) xs) (waits_in xs) quiet) in
      let more = cost_cons kind x xs in
      let own = begins_few x.wait x xs quiet few in
      record {
        all = omega (arith, more, own);
        behind = λ others. by few others (is_woken t x) refl;
      }
    where
      by : IsFew xs → IsOfOthers t (span t (x ∷ xs)) → (b : Bool) → is_woken t x ≡ b
          → cost_of kind (span t (x ∷ xs)) + own_costs (x ∷ xs) ≤ cost_of kind (x ∷ xs)
      by few others true woken =
          let more = cost_cons kind x xs in
          let other = other_begins x.wait x xs others.0 in
          let rest : (if is_woken t x then [] else span t xs) ≡ []
          = ap (λ b. if b then [] else span t xs) woken in
          let cut = cost_cons kind x (if is_woken t x then [] else span t xs) in
          let none = ap (cost_of kind) rest in
          let all = few.all in
          omega (arith, more, other, cut, none, all)
      by few others false asleep =
          let more = cost_cons kind x xs in
          let other = other_begins x.wait x xs others.0 in
          let rest : (if is_woken t x then [] else span t xs) ≡ span t xs
          = ap (λ b. if b then [] else span t xs) asleep in
          let cut = cost_cons kind x (if is_woken t x then [] else span t xs) in
          let on = ap (cost_of kind) rest in
          let all = few.behind (subst (IsOfOthers t) rest others.1) in
          omega (arith, more, other, cut, on, all)

-- ---- sums over threads

pub sum_below : ℕ → (ℕ → ℕ) → ℕ
sum_below zero f = 0
sum_below (suc n) f = f n + sum_below n f

below_plus : (n : ℕ) (f g : ℕ → ℕ) → sum_below n (λ t. f t + g t) ≡ sum_below n f + sum_below n g
unfolding sum_below
below_plus zero f g = refl
below_plus (suc n) f g = let rest = below_plus n f g in omega (arith, rest)

below_one : (n k m : ℕ) → k < n → m ≤ sum_below n (λ t. if_so (k == t) m)
unfolding sum_below
below_one zero k m less = absurd (omega (arith, less))
below_one (suc n) k m less = by (k == n) refl (λ below. below_one n k m below)
  where
    other : (k == n) ≡ false → k < n
    other e = grind (arith, nat_tests)

    by : (b : Bool) → (k == n) ≡ b → (k < n → m ≤ sum_below n (λ t. if_so (k == t) m))
        → m ≤ if_so (k == n) m + sum_below n (λ t. if_so (k == t) m)
    by true e more = let is : if_so (k == n) m ≡ m = ap (λ b. if_so b m) e in omega (arith, is)
    by false e more = let rest = more (other e) in omega (arith, rest)

below_most : (n c : ℕ) (f : ℕ → ℕ) → ((t : ℕ) → f t ≤ c) → sum_below n f ≤ n * c
unfolding sum_below
below_most zero c f most = omega arith
below_most (suc n) c f most =
    let rest = below_most n c f most in let one = most n in let more : suc n * c ≡ c + n * c = step n c in
    omega (arith, rest, one, more)
  where
    step : (a b : ℕ) → suc a * b ≡ b + a * b
    step a b = grind arith

-- all waits, by their threads
by_thread : (n : ℕ) (g : Wait → ℕ) (ws : List Wait) → AllByRecursion (λ w. w.thread < n) ws
    → sum_by g ws ≤ sum_below n (λ t. sum_by (λ w. if_so (w.thread == t) (g w)) ws)
by_thread n g [] small = omega arith
by_thread n g (w ∷ ws) small =
    let split = sum_by-cons g w ws in
    let rest = by_thread n g ws small.1 in
    let first = below_one n w.thread (g w) small.0 in
    let both : sum_below n (λ t. sum_by (λ v. if_so (v.thread == t) (g v)) (w ∷ ws))
    ≡ sum_below n (λ t. if_so (w.thread == t) (g w) + sum_by (λ v. if_so (v.thread == t) (g v)) ws)
    = λ i. sum_below n (λ t. sum_by-cons (λ v. if_so (v.thread == t) (g v)) w ws i) in
    let plus = below_plus n (λ t. if_so (w.thread == t) (g w)) (λ t. sum_by (λ v. if_so (v.thread == t) (g v)) ws) in
    omega (arith, split, rest, first, both, plus)

-- ---- sums over spots

-- no spot of these is that of the wait
none_is : (k : Spot) (m : ℕ) (ss : List Spot) → ((s : Spot) → IsIn ss s → same_spot s k ≡ false)
    → sum_by (λ s. if_so (same_spot s k) m) ss ≡ 0
none_is k m [] none = refl
none_is k m (s ∷ ss) none =
    let split = sum_by-cons (λ q. if_so (same_spot q k) m) s ss in
    let first : if_so (same_spot s k) m ≡ 0 = ap (λ b. if_so b m) (none s (inl refl)) in
    let rest = none_is k m ss (λ q there. none q (inr there)) in
    omega (arith, split, first, rest)

-- one at most is
one_is : (k : Spot) (m : ℕ) (ss : List Spot) → Rises spot_order spot_total spot_only ss
    → sum_by (λ s. if_so (same_spot s k) m) ss ≤ m
one_is k m [] rises = omega arith
one_is k m (s ∷ ss) rises = by (same_spot s k) refl (one_is k m ss rises.1)
  where
    split : sum_by (λ q. if_so (same_spot q k) m) (s ∷ ss)
        ≡ if_so (same_spot s k) m + sum_by (λ q. if_so (same_spot q k) m) ss
    split = sum_by-cons (λ q. if_so (same_spot q k) m) s ss

    by : (b : Bool) → same_spot s k ≡ b → sum_by (λ q. if_so (same_spot q k) m) ss ≤ m
        → sum_by (λ q. if_so (same_spot q k) m) (s ∷ ss) ≤ m
    by false e behind =
        let first : if_so (same_spot s k) m ≡ 0 = ap (λ b. if_so b m) e in
        omega (arith, split, first, behind)
    by true e behind =
        let first : if_so (same_spot s k) m ≡ m = ap (λ b. if_so b m) e in
        let rest = none_is k m ss (λ q there. apart q there (same_spot q k) refl) in
        omega (arith, split, first, rest)
      where
        apart : (q : Spot) → IsIn ss q → (b : Bool) → same_spot q k ≡ b → same_spot q k ≡ false
        apart q there false other = other
        apart q there true same =
            let one : q ≡ s = spot_tells.alike q k same ∙ sym (spot_tells.alike s k e) in
            absurd (not_below_itself spot_order spot_total spot_only s
            (subst (λ u. spot_order s u ≡ Less) one (rises.0 q there)))

-- all waits, by their spots
by_spot : (g : Wait → ℕ) (ss : List Spot) (ws : List Wait) → Rises spot_order spot_total spot_only ss
    → sum_by (λ s. sum_by (λ w. if_so (is_at s w) (g w)) ws) ss ≤ sum_by g ws
by_spot g ss [] rises = let none = sum_none ss in omega (arith, none)
by_spot g ss (w ∷ ws) rises =
    let split = sum_by-cons g w ws in
    let rest = by_spot g ss ws rises in
    let first = one_is (spot_of w) (g w) ss rises in
    let both : sum_by (λ s. sum_by (λ v. if_so (is_at s v) (g v)) (w ∷ ws)) ss
    ≡ sum_by (λ s. if_so (is_at s w) (g w) + sum_by (λ v. if_so (is_at s v) (g v)) ws) ss
    = λ i. sum_by (λ s. sum_by-cons (λ v. if_so (is_at s v) (g v)) w ws i) ss in
    let plus = sum_plus (λ s. if_so (is_at s w) (g w)) (λ s. sum_by (λ v. if_so (is_at s v) (g v)) ws) ss in
    omega (arith, split, rest, first, both, plus)

-- ---- the rows

by_kind_most : (f : ℕ → ℕ) (kind : ℕ) → get_or (by_kind f) kind 0 ≤ f kind
by_kind_most f kind = by (nat_lt kind event_kinds) refl
  where
    by : (b : Bool) → nat_lt kind event_kinds ≡ b → get_or (by_kind f) kind 0 ≤ f kind
    by true e =
        let is = by_kind_at f kind (ltb-true kind event_kinds e) in
        omega (arith, is)
    by false e =
        let beyond : event_kinds ≤ kind = grind (arith, nat_tests) in
        let many = length-map-range_with_len f 0 event_kinds in
        let none = get_or_past (by_kind f) kind 0 (omega (arith, beyond, many)) in
        omega (arith, none)

rows_most : (kind : ℕ) (xs : List Step) (ss : List Spot)
    → sum_by (λ (row : WaitRow). get_or row.cost kind 0) (map (row_at xs) ss) ≤ sum_by (λ s. cost_at kind s xs) ss
rows_most kind xs [] = omega arith
rows_most kind xs (s ∷ ss) =
    let rows = sum_by-cons (λ (row : WaitRow). get_or row.cost kind 0) (row_at xs s) (map (row_at xs) ss) in
    let spots = sum_by-cons (λ q. cost_at kind q xs) s ss in
    let one = by_kind_most (λ k. cost_at k s xs) kind in
    let rest = rows_most kind xs ss in
    omega (arith, rows, spots, one, rest)

-- the threads of waits are those of steps
small_begun : (n : ℕ) (word : Option ℕ) (thread : ℕ) (later : List Step) (ws : List Wait) → thread < n
    → AllByRecursion (λ w. w.thread < n) ws → AllByRecursion (λ w. w.thread < n) (begun_wait word thread later ++ ws)
small_begun n None thread later ws less small = small
small_begun n (Some word) thread later ws less small = (less, small)

small_waits : (n : ℕ) (xs : List Step) → AllByRecursion (λ x. thread_of x < n) xs
    → AllByRecursion (λ w. w.thread < n) (waits_in xs)
small_waits n [] small = tt
small_waits n (x ∷ xs) small =
    small_begun n x.wait (thread_of x) xs (waits_in xs) small.0 (small_waits n xs small.1)

-- for each thread the rows cost no more than the run
rows_few : (n kind : ℕ) (xs : List Step) → AreQuiet (waits_in xs) → AllByRecursion (λ x. thread_of x < n) xs
    → sum_by (λ (row : WaitRow). get_or row.cost kind 0) (wait_rows xs) ≤ n * cost_of kind xs
unfolding wait_rows
rows_few n kind xs quiet small =
    let g : Wait → ℕ = λ w. cost_of kind w.span in
    let rows = rows_most kind xs (spots_of xs) in
    let spots = by_spot g (spots_of xs) (waits_in xs)
    (risen_rises spot_order spot_total spot_only (map spot_of (waits_in xs))) in
    let threads = by_thread n g (waits_in xs) (small_waits n xs small) in
    let each = below_most n (cost_of kind xs) (λ t. own_costs kind t xs) (λ t. (few_waits kind t xs quiet).all) in
    omega (arith, rows, spots, threads, each)

small_steps : (xs : List Step) → AllByRecursion (λ x. thread_of x ≤ 65535) xs
    → AllByRecursion (λ x. thread_of x < 65536) xs
small_steps [] small = tt
small_steps (x ∷ xs) small = (let first = small.0 in omega (arith, first), small_steps xs small.1)

-- so the costs of all rows have 64 bits
pub sums_fit : (xs : List Step) → MayAllFollow [] xs → All (λ x. thread_of x ≤ 65535) xs → HaveSums xs
sums_fit xs follow small kind =
    let stands = stands_after nothing [] xs nothing_stands follow in
    let few = rows_few 65536 kind xs (quiet_after nothing [] xs nothing_stands follow tt)
    (small_steps xs (recursion_from_All (λ x. thread_of x ≤ 65535) xs small)) in
    let most = stands.few in
    let ones = stands.ones kind in
    by (cost_of kind xs) (length xs)
    (sum_by (λ (row : WaitRow). get_or row.cost kind 0) (wait_rows xs)) few ones most
  where
    by : (cost steps sum : ℕ) → sum ≤ 65536 * cost → cost ≤ steps → steps ≤ most_steps → sum < 2 ^ 64
    by cost steps sum few ones most = omega (arith, few, ones, most)
