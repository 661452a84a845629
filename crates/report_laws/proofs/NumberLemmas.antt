-- Events by numbers: that of the function where an event counts, and those of the functions beneath it on its stack.
-- Why the inclusive cost of a group counts each event once.
use Rattle.std.proofs.Common.{◌≡◌, ℕ, zero, suc, ◌+◌, ◌*◌, ◌==◌, ◌<◌, Bool, true, false, not, ◌&&◌, ◌||◌, List, [], ◌∷◌}
use Rattle.std.proofs.Common.{get_or, refl, sym, ap, subst, ◌∙◌, arith, if◌then◌else◌, sum_by, Contains, inl, inr}
use Rattle.std.specs.List.{list_any}
use Rattle.std.proofs.lemmas.Bool.{and_from, and_parts, eq-eqb, eqb-true}
use Rattle.call_graph.specs.Reach.{IsGroup, Steps, one}
use Rattle.call_graph.specs.declared.arc.CallArc.{CallArc}
use Rattle.report_laws.proofs.Others.{leads_after, leads_from_same, same_back, same_from_leads}
use Rattle.cg_read.specs.Profiles.{Contents}
use Rattle.cg_read.specs.declared.rows.CallRow.{CallRow}
use Rattle.cycles.specs.Costs.{arc_of, call_arcs, inclusive_cost, self_cost}
use Rattle.report_laws.proofs.GroupLemmas.{Contains-map}
use Rattle.report_laws.proofs.Others.{each_from, le-sum, sum-some, Below, IsClosed, number_of, sum_by-each}
use Rattle.report_laws.proofs.Others.{sum_by-plus}

-- one of them passes
abbrev pub any_in : (ℕ → Bool) → ℕ → List ℕ → Bool
any_in test top beneath = list_any test (top ∷ beneath)

-- how many pass with the one beneath
abbrev pub steps_in : (ℕ → ℕ → Bool) → ℕ → List ℕ → ℕ
steps_in test top [] = 0
steps_in test top (b ∷ beneath) = number_of (test b top) + steps_in test b beneath

abbrev pub leaving : (ℕ → Bool) → ℕ → ℕ → Bool
leaving member f g = member f && not (member g)

-- each was stepped to from the one beneath
abbrev IsWay : (ℕ → ℕ → Type 0) → ℕ → List ℕ → Type 0
IsWay Step top [] = Unit {0}
IsWay Step top (b ∷ beneath) = Step b top × IsWay Step b beneath

module _ (Step : ℕ → ℕ → Type 0) where
  below : (member : ℕ → Bool) (top : ℕ) (beneath : List ℕ) → IsWay Step top beneath
      → any_in member top beneath ≡ true → Below Step member top
  below member top [] way is = by (member top) refl is
    where
      by : (b : Bool) → member top ≡ b → (b || false) ≡ true → Below Step member top
      by true passes is = record { func = top; passes = passes; leads = inl refl }
      by false fails is = absurd (cc)
  below member top (b ∷ beneath) way is = by (member top) refl is (below member b beneath way.1)
    where
      by : (c : Bool) → member top ≡ c → (c || any_in member b beneath) ≡ true
          → (any_in member b beneath ≡ true → Below Step member b) → Below Step member top
      by true passes is later = record { func = top; passes = passes; leads = inl refl }
      by false fails is later =
          let under : Below Step member b = later is in
          record { func = under.func; passes = under.passes; leads = leads_after under.leads (inr (one way.0)) }

  -- Where a member stands, either the top is one or exactly one was stepped to from a member and is none, never both.
  one_leaves : (member : ℕ → Bool) (top : ℕ) (beneath : List ℕ) → IsClosed Step member → IsWay Step top beneath
      → number_of (member top) + steps_in (leaving member) top beneath ≡ number_of (any_in member top beneath)
  one_leaves member top [] closed way = by (member top)
    where
      by : (m : Bool) → number_of m + 0 ≡ number_of (m || false)
      by true = refl
      by false = refl
  one_leaves member top (b ∷ beneath) closed way =
      by (member top) (member b) (any_in member b beneath) between (one_leaves member b beneath closed way.1)
    where
      between : member top ≡ true → any_in member b beneath ≡ true → member b ≡ true
      between at_top under =
          let f = below member b beneath way.1 under in
          closed f.func b top f.passes at_top f.leads (one way.0)

      by : (m n t : Bool) → (m ≡ true → t ≡ true → n ≡ true)
          → number_of n + steps_in (leaving member) b beneath ≡ number_of t
          → number_of m + (number_of (n && not m) + steps_in (leaving member) b beneath) ≡ number_of (m || t)
      by true true true there rest = omega (arith, rest)
      by true true false there rest = absurd (omega (arith, rest))
      by true false true there rest = let no : false ≡ true = there refl refl in absurd (cc)
      by true false false there rest = omega (arith, rest)
      by false true t there rest = omega (arith, rest)
      by false false t there rest = omega (arith, rest)

  way_of : (top : ℕ) (beneath : List ℕ)
      → ((f g : ℕ) → 0 < steps_in (λ k l. k == f && l == g) top beneath → Step f g) → IsWay Step top beneath
  way_of top [] step = tt
  way_of top (b ∷ beneath) step =
      let here : number_of (b == b && top == top) ≡ 1
      = ap number_of (and_from (b == b) (top == top) (eq-eqb b b refl) (eq-eqb top top refl)) in (
        step b top (omega (arith, here)),
        way_of b beneath (λ f g more. step f g (omega (arith, more))),
      )

positive : (n m : ℕ) → 0 < n → 0 < m → 0 < n * m
positive zero m some more = absurd (omega (arith, some))
positive (suc n) zero some more = absurd (omega (arith, more))
positive (suc n) (suc m) some more = let all : suc n * suc m ≡ suc m + n * suc m = grind arith in omega (arith, all)

passes : (b : Bool) (n : ℕ) → 0 < (if b then n else 0) → b ≡ true
passes true n more = refl
passes false n more = absurd (omega (arith, more))

-- One event's share: its cost counts once where a member stands, and one that costs nothing counts nowhere.
share : (cost leaving : ℕ) (m s : Bool) → number_of m + leaving ≡ number_of s
    → (if m then cost else 0) + cost * leaving ≡ (if s then cost else 0)
share cost leaving true true sum =
    let none : leaving ≡ 0 = omega (arith, sum) in
    let product : cost * leaving ≡ cost * 0 = ap (λ n. cost * n) none in omega (arith, product)
share cost leaving true false sum = absurd (omega (arith, sum))
share cost leaving false true sum =
    let single : leaving ≡ 1 = omega (arith, sum) in
    let product : cost * leaving ≡ cost * 1 = ap (λ n. cost * n) single in omega (arith, product)
share cost leaving false false sum =
    let none : leaving ≡ 0 = omega (arith, sum) in
    let product : cost * leaving ≡ cost * 0 = ap (λ n. cost * n) none in omega (arith, product)

nothing : (cost leaving : ℕ) (m s : Bool) → cost ≡ 0
    → (if m then cost else 0) + cost * leaving ≡ (if s then cost else 0)
nothing cost leaving m s none = by m s (ap (λ n. n * leaving) none)
  where
    by : (m s : Bool) → cost * leaving ≡ 0 * leaving
        → (if m then cost else 0) + cost * leaving ≡ (if s then cost else 0)
    by true true product = omega (arith, none, product)
    by true false product = omega (arith, none, product)
    by false true product = omega (arith, none, product)
    by false false product = omega (arith, none, product)

-- A profile has the sums of some events, of a kind: at each function, and under the calls of each by each.
module _ {X : Type 0} (top : X → ℕ) (beneath : X → List ℕ) (cost : X → ℕ) (xs : List X) (p : Contents) (kind : ℕ)
    (selfs : (test : ℕ → Bool)
    → self_cost test p.self_rows kind ≡ sum_by (λ x. if test (top x) then cost x else 0) xs)
    (calls : (test : ℕ → ℕ → Bool)
    → sum_by (λ (row : CallRow). if test row.caller row.callee then get_or row.cost kind 0 else 0) p.call_rows
    ≡ sum_by (λ x. cost x * steps_in test (top x) (beneath x)) xs) where
  -- what stands on the stack of an event that costs something was called by the one beneath
  step_of : (x : X) → Contains xs x → 0 < cost x → (f g : ℕ)
      → 0 < steps_in (λ k l. k == f && l == g) (top x) (beneath x) → Steps (call_arcs p) f g
  step_of x in' some f g more =
      let test : ℕ → ℕ → Bool = λ k l. k == f && l == g in
      let product = positive (cost x) (steps_in test (top x) (beneath x)) some more in
      let part = le-sum (λ y. cost y * steps_in test (top y) (beneath y)) xs x in' in
      let found =
      sum-some (λ (row : CallRow). if test row.caller row.callee then get_or row.cost kind 0 else 0) p.call_rows
      (omega (arith, product, part, calls test)) in
      let same = and_parts (found.item.caller == f) (found.item.callee == g)
      (passes (test found.item.caller found.item.callee) (get_or found.item.cost kind 0) found.has) in
      let caller = eqb-true found.item.caller f same.0 in
      let callee = eqb-true found.item.callee g same.1 in
      subst (λ (arc : CallArc). Contains (call_arcs p) arc) {x = arc_of found.item} (λ i. record { caller = caller i; callee = callee i })
      (Contains-map arc_of p.call_rows found.item found.among)

  module _ (member : ℕ → Bool) (group : IsGroup (Steps (call_arcs p)) member) where
    closed : IsClosed (Steps (call_arcs p)) member
    closed f g h at_f at_h leads reach =
        let back = leads_after (inr reach) (leads_from_same (same_back ((group f h at_f).0 at_h))) in
        (group f g at_f).1 (same_from_leads leads back)

    event_once : (x : X) → Contains xs x
        → (if member (top x) then cost x else 0) + cost x * steps_in (leaving member) (top x) (beneath x)
        ≡ (if any_in member (top x) (beneath x) then cost x else 0)
    event_once x in' = by (cost x) refl
      where
        by : (n : ℕ) → cost x ≡ n
            → (if member (top x) then cost x else 0) + cost x * steps_in (leaving member) (top x) (beneath x)
            ≡ (if any_in member (top x) (beneath x) then cost x else 0)
        by zero is =
            nothing (cost x) (steps_in (leaving member) (top x) (beneath x)) (member (top x))
            (any_in member (top x) (beneath x)) is
        by (suc n) is =
            share (cost x) (steps_in (leaving member) (top x) (beneath x)) (member (top x))
            (any_in member (top x) (beneath x))
            (one_leaves (Steps (call_arcs p)) member (top x) (beneath x) closed
            (way_of (Steps (call_arcs p)) (top x) (beneath x) (step_of x in' (omega (arith, is)))))

    pub group_counts : inclusive_cost member p kind
        ≡ sum_by (λ x. if any_in member (top x) (beneath x) then cost x else 0) xs
    group_counts =
        (λ i. selfs member i + calls (leaving member) i)
        ∙ sym (sum_by-plus (λ x. if member (top x) then cost x else 0)
        (λ x. cost x * steps_in (leaving member) (top x) (beneath x)) xs)
        ∙ sum_by-each
        (λ x. (if member (top x) then cost x else 0) + cost x * steps_in (leaving member) (top x) (beneath x))
        (λ x. if any_in member (top x) (beneath x) then cost x else 0) xs
        (each_from
        (λ x. (if member (top x) then cost x else 0) + cost x * steps_in (leaving member) (top x) (beneath x)
        ≡ (if any_in member (top x) (beneath x) then cost x else 0)) xs event_once)
