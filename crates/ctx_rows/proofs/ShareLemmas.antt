-- One law of folding. Rows by any naming of events have, over the keys that pass a test, the sums of what the events
-- have at such keys; so where a plain key is read off a finer one, the finer rows summed up are the plain rows.
use Rattle.std.proofs.Common.{◌≡◌, ◌≢◌, ◌⊎◌, inl, inr, ℕ, ◌+◌, ◌*◌, ◌≤◌, Bool, true, false, List, [], ◌∷◌, Option, None, Some}
use Rattle.std.proofs.Common.{filter, flat_map, get_or, map, sum_by, refl, ap, sym, subst, ◌∙◌, arith, if◌then◌else◌}
use Rattle.std.specs.Cmp.{IsTotalOrder}
use Rattle.std.specs.FinMap.{IsAntisymmetric}
use Rattle.std.specs.Option.{option_map, option_map_or}
use Rattle.std.specs.declared.cmp.Ordering.{Ordering}
use Rattle.std.proofs.Math.Nat.{mul-add}
use Rattle.std.proofs.lemmas.List.{get_or_past, map-id}
use Rattle.std.proofs.lemmas.List.Sums.{sum_by-cons}
use Rattle.event_costs.specs.Costs.{IsWhole, event_kinds}
use Rattle.event_costs.specs.Keys.{ArcKey, Place}
use Rattle.event_costs.specs.Order as order
use Rattle.sym_map.specs.SymbolMap.{SymbolMap, place_of}
use Rattle.shadow_stack.specs.Changes.{change}
use Rattle.shadow_stack.specs.Stacks.{Activation, Stack}
use Rattle.shadow_stack.specs.Traces.{EventOnStack}
use Rattle.arc_costs.specs.Arcs.{arc_sum, call_sum}
use Rattle.arc_costs.specs.Contents.{Listed}
use Rattle.arc_costs.specs.Keys.{by_kind, risen}
use Rattle.arc_costs.specs.Lines.{line_sum}
use Rattle.arc_costs.specs.Totals.{is_some_cost}
use Rattle.arc_costs.proofs.KindLemmas.{by_kind_all}
use Rattle.arc_costs.proofs.RiseLemmas as rise
use Rattle.recorder.specs.Laws.{IsIn}
use Rattle.recorder.specs.Rows.{rows_of}
use Rattle.recorder.specs.Sums.{arc_calls, arc_cost, entered_by, is_arc, pushes, self_cost}
use Rattle.recorder.proofs.AllRowLemmas.{are_whole, rows_are}
use Rattle.recorder.proofs.RowLemmas as row
use Rattle.ctx_rows.proofs.Others.{count_is, in_flat, some_passes, zero_number}
use Rattle.ctx_rows.specs.Folding.{AreSumsOf}

-- ---- sums

pub sums_same : {X : Type 0} (f g : X → ℕ) (xs : List X) → ((x : X) → IsIn xs x → f x ≡ g x)
    → sum_by f xs ≡ sum_by g xs
sums_same f g [] same = refl
sums_same f g (x ∷ xs) same =
    omega (
      arith,
      sum_by-cons f x xs,
      sum_by-cons g x xs,
      same x (inl refl),
      sums_same f g xs (λ y there. same y (inr there)),
    )

sums_zero : {X : Type 0} (f : X → ℕ) (xs : List X) → ((x : X) → IsIn xs x → f x ≡ 0) → sum_by f xs ≡ 0
sums_zero f [] none = refl
sums_zero f (x ∷ xs) none =
    omega (arith, sum_by-cons f x xs, none x (inl refl), sums_zero f xs (λ y there. none y (inr there)))

sums_plus : {X : Type 0} (f g h : X → ℕ) (xs : List X) → ((x : X) → f x ≡ g x + h x)
    → sum_by f xs ≡ sum_by g xs + sum_by h xs
sums_plus f g h [] parts = omega arith
sums_plus f g h (x ∷ xs) parts =
    omega (arith, sum_by-cons f x xs, sum_by-cons g x xs, sum_by-cons h x xs, sums_plus f g h xs parts, parts x)

sums_times : {X : Type 0} (f g : X → ℕ) (n : ℕ) (xs : List X) → ((x : X) → f x ≡ n * g x)
    → sum_by f xs ≡ n * sum_by g xs
sums_times f g n [] parts = omega arith
sums_times f g n (x ∷ xs) parts =
    let spread = ap (λ m. n * m) (sum_by-cons g x xs) ∙ mul-add n (g x) (sum_by g xs) in
    omega (arith, sum_by-cons f x xs, sums_times f g n xs parts, parts x, spread)

pub sums_map : {X Y : Type 0} (f : Y → ℕ) (g : X → Y) (xs : List X) → sum_by f (map g xs) ≡ sum_by (λ x. f (g x)) xs
sums_map f g [] = refl
sums_map f g (x ∷ xs) =
    omega (arith, sum_by-cons f (g x) (map g xs), sum_by-cons (λ y. f (g y)) x xs, sums_map f g xs)

sums_filter : {X : Type 0} (f : X → ℕ) (some : X → Bool) (xs : List X) → ((x : X) → some x ≡ false → f x ≡ 0)
    → sum_by f (filter some xs) ≡ sum_by f xs
sums_filter f some [] none = refl
sums_filter f some (x ∷ xs) none = by (some x) refl (sums_filter f some xs none)
  where
    by : (b : Bool) → some x ≡ b → sum_by f (filter some xs) ≡ sum_by f xs
        → sum_by f (if b then x ∷ filter some xs else filter some xs) ≡ sum_by f (x ∷ xs)
    by true is rest = omega (arith, sum_by-cons f x (filter some xs), sum_by-cons f x xs, rest)
    by false is rest = omega (arith, sum_by-cons f x xs, none x is, rest)

if_zero : (b : Bool) → ◌≡◌ {A = ℕ} (if b then 0 else 0) 0
if_zero true = refl
if_zero false = refl

if_plus : (b : Bool) (m n k : ℕ) → m ≡ n + k → (if b then m else 0) ≡ (if b then n else 0) + (if b then k else 0)
if_plus true m n k is = is
if_plus false m n k is = omega arith

if_times : (b : Bool) (n m : ℕ) → (if b then n * m else 0) ≡ n * (if b then m else 0)
if_times true n m = refl
if_times false n m = omega arith

if_swap : (a b : Bool) (n : ℕ) → (if a then (if b then n else 0) else 0) ≡ (if b then (if a then n else 0) else 0)
if_swap true true n = refl
if_swap true false n = refl
if_swap false true n = refl
if_swap false false n = refl

-- ---- numbers that keys share

-- keys: when two are one, and in which order they come
pub record Keys (K : Type 0) : Type 0 where
  pub same : K → K → Bool
  pub order : K → K → Ordering
  pub total : IsTotalOrder order
  pub only : IsAntisymmetric order
  pub alike : (a b : K) → same a b ≡ true → a ≡ b
  pub itself : (a : K) → same a a ≡ true

module _ {K : Type 0} (keys : Keys K) (us : List K) where
  abbrev ks : List K
  ks = risen keys.order us

  -- A number for each test of keys is shared among these keys: the numbers at the single ones that pass a test make up
  -- the number of the test.
  abbrev pub IsShared : ((K → Bool) → ℕ) → Type 0
  IsShared f = (passes : K → Bool) → sum_by (λ k. if passes k then f (keys.same k) else 0) ks ≡ f passes

  swapped : (a b : K) → keys.same a b ≡ keys.same b a
  swapped a b = by (keys.same a b) (keys.same b a) refl refl
    where
      by : (c d : Bool) → keys.same a b ≡ c → keys.same b a ≡ d → c ≡ d
      by true true is also = refl
      by false false is also = refl
      by true false is also = sym (subst (λ k. keys.same k a ≡ true) (keys.alike a b is) (keys.itself a)) ∙ also
      by false true is also = sym is ∙ subst (λ k. keys.same k b ≡ true) (keys.alike b a also) (keys.itself b)

  -- what stands at one key, or at none
  pub one_shared : (n : ℕ) (o : Option K) → ((k : K) → o ≡ Some k → IsIn us k)
      → IsShared (λ test. if option_map_or test o false then n else 0)
  one_shared n None there passes = sums_zero (λ k. if passes k then 0 else 0) ks (λ k inside. if_zero (passes k))
  one_shared n (Some c) there passes =
      sums_same (λ k. if passes k then (if keys.same k c then n else 0) else 0)
      (λ k. if keys.same c k then (if passes k then n else 0) else 0) ks
      (λ k inside.
      if_swap (passes k) (keys.same k c) n
      ∙ ap (λ b. if b then (if passes k then n else 0) else 0) (swapped k c))
      ∙ row.sum_own (λ (k : K). k) keys.same keys.order keys.total keys.only keys.alike keys.itself
      (λ (k : K). if passes k then n else 0) ks
      (subst (rise.Rises keys.order keys.total keys.only) (sym (map-id ks))
      (rise.risen_rises keys.order keys.total keys.only us))
      c (rise.in_risen keys.order keys.total keys.only us c (there c refl))

  pub sum_shared : {X : Type 0} (f : X → (K → Bool) → ℕ) (xs : List X) → ((x : X) → IsIn xs x → IsShared (f x))
      → IsShared (λ test. sum_by (λ x. f x test) xs)
  sum_shared f [] each passes = sums_zero (λ k. if passes k then 0 else 0) ks (λ k inside. if_zero (passes k))
  sum_shared f (x ∷ xs) each passes =
      let both = sums_plus (λ k. if passes k then sum_by (λ y. f y (keys.same k)) (x ∷ xs) else 0)
      (λ k. if passes k then f x (keys.same k) else 0)
      (λ k. if passes k then sum_by (λ y. f y (keys.same k)) xs else 0) ks
      (λ k. if_plus (passes k) (sum_by (λ y. f y (keys.same k)) (x ∷ xs)) (f x (keys.same k))
      (sum_by (λ y. f y (keys.same k)) xs) (sum_by-cons (λ y. f y (keys.same k)) x xs)) in
      let here = each x (inl refl) passes in
      let rest = sum_shared f xs (λ y there. each y (inr there)) passes in
      let all = sum_by-cons (λ y. f y passes) x xs in
      omega (arith, both, here, rest, all)

  pub times_shared : (n : ℕ) (f : (K → Bool) → ℕ) → IsShared f → IsShared (λ test. n * f test)
  times_shared n f shared passes =
      sums_times (λ k. if passes k then n * f (keys.same k) else 0) (λ k. if passes k then f (keys.same k) else 0) n ks
      (λ k. if_times (passes k) n (f (keys.same k)))
      ∙ ap (λ m. n * m) (shared passes)

  -- a key with a number is among them
  pub shared_in : (f : (K → Bool) → ℕ) → IsShared f → (k : K) → f (keys.same k) ≢ 0 → IsIn us k
  shared_in f shared k some =
      let q = some_passes (keys.same k) (λ q. f (keys.same q)) ks (λ none. some (sym (shared (keys.same k)) ∙ none)) in
      rise.risen_in keys.order keys.total keys.only us k (subst (IsIn ks) (sym (keys.alike k q.0 q.2)) q.1)

  -- rows by these keys, each with a number that they share
  module _ {Row : Type 0} (key : Row → K) (at : K → Row) (some : Row → Bool) (back : (k : K) → key (at k) ≡ k) where
    pub rows_where : (number : Row → ℕ) (f : (K → Bool) → ℕ) → IsShared f
        → ((k : K) → number (at k) ≡ f (keys.same k)) → ((r : Row) → some r ≡ false → number r ≡ 0)
        → (passes : K → Bool)
        → sum_by (λ r. if passes (key r) then number r else 0) (filter some (map at ks)) ≡ f passes
    rows_where number f shared is none passes =
        let share : Row → ℕ = λ r. if passes (key r) then number r else 0 in
        sums_filter share some (map at ks)
        (λ r empty. ap (λ n. if passes (key r) then n else 0) (none r empty) ∙ if_zero (passes (key r)))
        ∙ sums_map share at ks
        ∙ sums_same (λ k. share (at k)) (λ k. if passes k then f (keys.same k) else 0) ks
        (λ k inside i. if passes (back k i) then is k i else 0)
        ∙ shared passes

    pub costs_where : (cost : Row → List ℕ) (f : ℕ → (K → Bool) → ℕ) → ((kind : ℕ) → IsShared (f kind))
        → ((k : K) → cost (at k) ≡ by_kind (λ kind. f kind (keys.same k)))
        → ((kind : ℕ) → event_kinds ≤ kind → (test : K → Bool) → f kind test ≡ 0)
        → ((r : Row) → some r ≡ false → is_some_cost (cost r) ≡ false) → (kind : ℕ) (passes : K → Bool)
        → sum_by (λ r. if passes (key r) then get_or (cost r) kind 0 else 0) (filter some (map at ks)) ≡ f kind passes
    costs_where cost f shared is past none kind passes =
        rows_where (λ r. get_or (cost r) kind 0) (f kind) (shared kind)
        (λ k.
        ap (λ (c : List ℕ). get_or c kind 0) (is k)
        ∙ by_kind_all (λ j. f j (keys.same k)) (λ j beyond. past j beyond (keys.same k)) kind)
        (λ r empty. zero_number (cost r) (none r empty) kind) passes

-- ---- namings

-- how many of these pass
abbrev pub passing : {K : Type 0} → (K → Bool) → List (Option K) → ℕ
passing test os = sum_by (λ o. if option_map_or test o false then 1 else 0) os

-- where an event counts, the arcs of the frames under it, and that of the frame that it pushes
pub record Naming (K A : Type 0) : Type 0 where
  pub spot : EventOnStack → K
  pub froms : EventOnStack → List (Option A)
  pub pushed : EventOnStack → Option A

module _ {K A : Type 0} (n : Naming K A) where
  abbrev pub line_total : ℕ → (K → Bool) → List EventOnStack → ℕ
  line_total kind test xs = sum_by (λ x. if test (n.spot x) then get_or x.cost kind 0 else 0) xs

  abbrev pub arc_total : ℕ → (A → Bool) → List EventOnStack → ℕ
  arc_total kind test xs = sum_by (λ x. get_or x.cost kind 0 * passing test (n.froms x)) xs

  abbrev pub call_total : (A → Bool) → List EventOnStack → ℕ
  call_total test xs = sum_by (λ x. if option_map_or test (n.pushed x) false then 1 else 0) xs

-- An event by a fine naming, and one by a coarse naming, whose keys are read off those of the other.
module _ {K A L B : Type 0} (fine : Naming K A) (coarse : Naming L B) (spot_of : K → L) (arc_of : A → B) where
  pub record Folds (y x : EventOnStack) : Type 0 where
    pub cost : y.cost ≡ x.cost
    pub spot : spot_of (fine.spot y) ≡ coarse.spot x
    pub froms : map (option_map arc_of) (fine.froms y) ≡ coarse.froms x
    pub pushed : option_map arc_of (fine.pushed y) ≡ coarse.pushed x

  abbrev pub AllFold : List EventOnStack → List EventOnStack → Type 0
  AllFold [] [] = Unit {0}
  AllFold [] (x ∷ xs) = ⊥
  AllFold (y ∷ ys) [] = ⊥
  AllFold (y ∷ ys) (x ∷ xs) = Folds y x × AllFold ys xs

  sums_fold : (f g : EventOnStack → ℕ) → ((y x : EventOnStack) → Folds y x → f y ≡ g x) → (ys xs : List EventOnStack)
      → AllFold ys xs → sum_by f ys ≡ sum_by g xs
  sums_fold f g same [] [] all = refl
  sums_fold f g same [] (x ∷ xs) all = absurd all
  sums_fold f g same (y ∷ ys) [] all = absurd all
  sums_fold f g same (y ∷ ys) (x ∷ xs) all =
      let left = sum_by-cons f y ys in
      let right = sum_by-cons g x xs in
      let here = same y x all.0 in
      let rest = sums_fold f g same ys xs all.1 in
      omega (arith, left, right, here, rest)

  test_read : (test : B → Bool) (o : Option A)
      → option_map_or (λ a. test (arc_of a)) o false ≡ option_map_or test (option_map arc_of o) false
  test_read test None = refl
  test_read test (Some a) = refl

  pub lines_fold : (kind : ℕ) (test : L → Bool) (ys xs : List EventOnStack) → AllFold ys xs
      → line_total fine kind (λ k. test (spot_of k)) ys ≡ line_total coarse kind test xs
  lines_fold kind test ys xs all =
      sums_fold (λ y. if test (spot_of (fine.spot y)) then get_or y.cost kind 0 else 0)
      (λ x. if test (coarse.spot x) then get_or x.cost kind 0 else 0)
      (λ y x at i. if test (at.spot i) then get_or (at.cost i) kind 0 else 0) ys xs all

  pub arcs_fold : (kind : ℕ) (test : B → Bool) (ys xs : List EventOnStack) → AllFold ys xs
      → arc_total fine kind (λ a. test (arc_of a)) ys ≡ arc_total coarse kind test xs
  arcs_fold kind test ys xs all =
      sums_fold (λ y. get_or y.cost kind 0 * passing (λ a. test (arc_of a)) (fine.froms y))
      (λ x. get_or x.cost kind 0 * passing test (coarse.froms x))
      (λ y x at.
      ap (λ m. get_or y.cost kind 0 * m)
      (sums_same (λ o. if option_map_or (λ a. test (arc_of a)) o false then 1 else 0)
      (λ o. if option_map_or test (option_map arc_of o) false then 1 else 0) (fine.froms y)
      (λ o inside. ap (λ b. if b then 1 else 0) (test_read test o))
      ∙ sym (sums_map (λ o. if option_map_or test o false then 1 else 0) (option_map arc_of) (fine.froms y)))
      ∙ (λ i. get_or (at.cost i) kind 0 * passing test (at.froms i))) ys xs all

  pub calls_fold : (test : B → Bool) (ys xs : List EventOnStack) → AllFold ys xs
      → call_total fine (λ a. test (arc_of a)) ys ≡ call_total coarse test xs
  calls_fold test ys xs all =
      sums_fold (λ y. if option_map_or (λ a. test (arc_of a)) (fine.pushed y) false then 1 else 0)
      (λ x. if option_map_or test (coarse.pushed x) false then 1 else 0)
      (λ y x at.
      ap (λ b. if b then 1 else 0) (test_read test (fine.pushed y))
      ∙ ap (λ o. if option_map_or test o false then 1 else 0) at.pushed) ys xs all

pub rows_shared : {Row K : Type 0} (keys : Keys K) (key : Row → K) (number : Row → ℕ) (rs : List Row)
    → IsShared keys (map key rs) (λ test. sum_by (λ r. if test (key r) then number r else 0) rs)
rows_shared {K = K} keys key number rs =
    sum_shared keys (map key rs) (λ r test. if test (key r) then number r else 0) rs
    (λ r there.
    one_shared keys (map key rs) (number r) (Some (key r))
    (λ k same. subst (IsIn (map key rs)) (one_of same) (rise.in-map key rs r there)))
  where
    one_of : {a b : K} → ◌≡◌ {A = Option K} (Some a) (Some b) → a ≡ b
    one_of same = cc

-- ---- rows by a naming

module _ {K A : Type 0} (n : Naming K A) (xs : List EventOnStack) where
  pub lines_shared : (keys : Keys K) (kind : ℕ) → IsShared keys (map n.spot xs) (λ test. line_total n kind test xs)
  lines_shared keys kind = rows_shared keys n.spot (λ x. get_or x.cost kind 0) xs

  module _ (keys : Keys A) (arcs_at : EventOnStack → List A)
      (inside : (x : EventOnStack) (k : A) → IsIn (n.froms x) (Some k) ⊎ (n.pushed x ≡ Some k) → IsIn (arcs_at x) k) where
    abbrev arcs : List A
    arcs = flat_map arcs_at xs

    pub arcs_shared : (kind : ℕ) → IsShared keys arcs (λ test. arc_total n kind test xs)
    arcs_shared kind =
        sum_shared keys arcs (λ x test. get_or x.cost kind 0 * passing test (n.froms x)) xs
        (λ x there.
        times_shared keys arcs (get_or x.cost kind 0) (λ test. passing test (n.froms x))
        (sum_shared keys arcs (λ o test. if option_map_or test o false then 1 else 0) (n.froms x)
        (λ o under.
        one_shared keys arcs 1 o
        (λ k same. in_flat arcs_at xs x k there (inside x k (inl (subst (IsIn (n.froms x)) same under)))))))

    pub calls_shared : IsShared keys arcs (λ test. call_total n test xs)
    calls_shared =
        sum_shared keys arcs (λ x test. if option_map_or test (n.pushed x) false then 1 else 0) xs
        (λ x there.
        one_shared keys arcs 1 (n.pushed x) (λ k same. in_flat arcs_at xs x k there (inside x k (inr same))))

  module _ (whole : (x : EventOnStack) → IsIn xs x → IsWhole x.cost) where
    no_kind : (kind : ℕ) → event_kinds ≤ kind → (x : EventOnStack) → IsIn xs x → get_or x.cost kind 0 ≡ 0
    no_kind kind past x there = let long = whole x there in get_or_past x.cost kind 0 (omega (arith, past, long))

    pub lines_where : {Row : Type 0} (keys : Keys K) (key : Row → K) (cost : Row → List ℕ) (at : K → Row)
        (some : Row → Bool) → ((k : K) → key (at k) ≡ k)
        → ((k : K) → cost (at k) ≡ by_kind (λ kind. line_total n kind (keys.same k) xs))
        → ((r : Row) → some r ≡ false → is_some_cost (cost r) ≡ false) → (kind : ℕ) (passes : K → Bool)
        → sum_by (λ r. if passes (key r) then get_or (cost r) kind 0 else 0)
        (filter some (map at (risen keys.order (map n.spot xs)))) ≡ line_total n kind passes xs
    lines_where keys key cost at some back is none =
        costs_where keys (map n.spot xs) key at some back cost (λ kind test. line_total n kind test xs)
        (lines_shared keys) is
        (λ kind past test.
        sums_zero (λ x. if test (n.spot x) then get_or x.cost kind 0 else 0) xs
        (λ x there. ap (λ m. if test (n.spot x) then m else 0) (no_kind kind past x there) ∙ if_zero (test (n.spot x))))
        none

    module _ {Row : Type 0} (keys : Keys A) (arcs_at : EventOnStack → List A)
        (inside : (x : EventOnStack) (k : A) → IsIn (n.froms x) (Some k) ⊎ (n.pushed x ≡ Some k) → IsIn (arcs_at x) k)
        (key : Row → A) (calls : Row → ℕ) (cost : Row → List ℕ) (at : A → Row) (some : Row → Bool)
        (back : (k : A) → key (at k) ≡ k)
        (none : (r : Row) → some r ≡ false → (calls r ≡ 0) × (is_some_cost (cost r) ≡ false)) where
      abbrev rows : List Row
      rows = filter some (map at (risen keys.order (flat_map arcs_at xs)))

      pub arcs_where : ((k : A) → cost (at k) ≡ by_kind (λ kind. arc_total n kind (keys.same k) xs)) → (kind : ℕ)
          (passes : A → Bool)
          → sum_by (λ r. if passes (key r) then get_or (cost r) kind 0 else 0) rows ≡ arc_total n kind passes xs
      arcs_where is =
          costs_where keys (flat_map arcs_at xs) key at some back cost (λ kind test. arc_total n kind test xs)
          (arcs_shared keys arcs_at inside) is
          (λ kind past test.
          sums_zero (λ x. get_or x.cost kind 0 * passing test (n.froms x)) xs
          (λ x there. ap (λ m. m * passing test (n.froms x)) (no_kind kind past x there) ∙ omega arith))
          (λ r empty. (none r empty).1)

      pub calls_where : ((k : A) → calls (at k) ≡ call_total n (keys.same k) xs) → (passes : A → Bool)
          → sum_by (λ r. if passes (key r) then calls r else 0) rows ≡ call_total n passes xs
      calls_where is =
          rows_where keys (flat_map arcs_at xs) key at some back calls (λ test. call_total n test xs)
          (calls_shared keys arcs_at inside) is (λ r empty. (none r empty).0)

-- ---- the plain naming, by places

abbrev pub froms_on : Stack → List (Option ArcKey)
froms_on s = map (λ (a : Activation). a.arc) s

abbrev pub from_of : Option Activation → Option ArcKey
from_of None = None
from_of (Some a) = a.arc

abbrev pub by_place : SymbolMap → Naming Place ArcKey
by_place syms = record {
  spot = λ x. place_of syms x.event.done.pc;
  froms = λ x. froms_on x.stack;
  pushed = λ x. from_of (change syms x.event x.stack).pushed;
}

module _ (syms : SymbolMap) where
  pub plain_arcs : (kind : ℕ) (k : ArcKey) (xs : List EventOnStack)
      → arc_total (by_place syms) kind (order.same_arc k) xs ≡ arc_cost kind k xs
  plain_arcs kind k xs =
      sums_same (λ x. get_or x.cost kind 0 * passing (order.same_arc k) (froms_on x.stack))
      (λ x. get_or x.cost kind 0 * entered_by k x.stack) xs
      (λ x there.
      ap (λ m. get_or x.cost kind 0 * m)
      (sums_map (λ (o : Option ArcKey). if is_arc k o then 1 else 0) (λ (a : Activation). a.arc) x.stack
      ∙ sym (count_is (λ (a : Activation). is_arc k a.arc) x.stack)))

  pub plain_calls : (k : ArcKey) (xs : List EventOnStack)
      → call_total (by_place syms) (order.same_arc k) xs ≡ arc_calls syms k xs
  plain_calls k xs =
      sums_same (λ x. if is_arc k (from_of (change syms x.event x.stack).pushed) then 1 else 0)
      (λ x. pushes k (change syms x.event x.stack).pushed) xs (λ x there. by (change syms x.event x.stack).pushed)
    where
      by : (p : Option Activation) → (if is_arc k (from_of p) then 1 else 0) ≡ pushes k p
      by None = refl
      by (Some a) = refl

-- rows have the sums of these events, each place and arc any number of times
pub record HaveSums (syms : SymbolMap) (xs : List EventOnStack) (all : Listed) : Type 0 where
  pub lines : (kind : ℕ) (place : Place) → line_sum kind place all.lines ≡ self_cost syms kind place xs
  pub arcs : (kind : ℕ) (arc : ArcKey) → arc_sum kind arc all.arcs ≡ arc_cost kind arc xs
  pub calls : (arc : ArcKey) → call_sum arc all.arcs ≡ arc_calls syms arc xs

pub summed_are : (syms : SymbolMap) (xs : List EventOnStack) (all : Listed) → HaveSums syms xs all → (rows : Listed)
    → AreSumsOf all rows → rows ≡ rows_of syms xs
summed_are syms xs all have rows sums =
    rows_are syms xs rows
    (record {
      lines = λ kind place. sums.lines kind place ∙ have.lines kind place;
      arcs = λ kind arc. sums.arcs.costs kind arc ∙ have.arcs kind arc;
      calls = λ arc. sums.arcs.calls arc ∙ have.calls arc;
      lines_rise = sums.lines_rise;
      arcs_rise = sums.arcs_rise;
      some_lines = sums.some_lines;
      some_arcs = sums.some_arcs;
    })
    (are_whole rows sums.whole_lines sums.whole_arcs)
