-- The arc rows that a recorder answers are those of the events.
use Rattle.std.proofs.Common.{◌≡◌, ◌≢◌, ℕ, ◌+◌, ◌*◌, ◌==◌, ◌||◌, ◌&&◌, not, Bool, true, false, List, [], ◌∷◌, length}
use Rattle.std.proofs.Common.{map, filter, flat_map, sum_by, get_or, refl, ap, sym, subst, ◌∙◌, arith, ◌⊎◌, inl, inr}
use Rattle.std.proofs.Common.{if◌then◌else◌, cond, Option, None, Some, count_by}
use Rattle.std.specs.Option.{option_to_list}
use Rattle.std.specs.Ordering.{nat_cmp}
use Rattle.std.specs.FinMap.{IsAntisymmetric, nat_cmp-IsAntisymmetric}
use Rattle.std.specs.Cmp.{IsTotalOrder}
use Rattle.std.proofs.lemmas.Bool.{eq-eqb, and_parts}
use Rattle.std.proofs.lemmas.Bool.Decides.{eqb_tells}
use Rattle.std.proofs.lemmas.Cmp.{nat_cmp_total, on_total, then_total}
use Rattle.std.proofs.lemmas.List.Recursion.{is_count_by}
use Rattle.std.proofs.lemmas.List.Sums.{sum_by-cons}
use Rattle.event_costs.specs.Costs.{event_kinds}
use Rattle.event_costs.specs.Keys.{ArcKey}
use Rattle.arc_costs.specs.Arcs.{is_some_arc}
use Rattle.arc_costs.specs.Arcs as arc
use Rattle.arc_costs.specs.Contents.{Listed}
use Rattle.event_costs.specs.Order.{arc_order, same_arc}
use Rattle.arc_costs.specs.Totals.{is_some_cost}
use Rattle.arc_costs.specs.Rows.{ArcRow}
use Rattle.arc_costs.specs.Keys.{by_kind}
use Rattle.recorder.proofs.Others.{cost_is}
use Rattle.arc_costs.proofs.RiseLemmas as rise
use Rattle.sym_map.specs.SymbolMap.{SymbolMap}
use Rattle.shadow_stack.specs.Changes.{change}
use Rattle.shadow_stack.specs.Stacks.{Activation, Stack}
use Rattle.shadow_stack.specs.Traces.{EventOnStack}
use Rattle.recorder.specs.Laws.{IsIn}
use Rattle.recorder.specs.Standing.{AreRowsOf}
use Rattle.recorder.specs.Sums.{arc_calls, arc_cost, entered_by, is_arc, pushes}
use Rattle.recorder.specs.Rows.{arc_at, arcs, arcs_at, arcs_of}
use Rattle.recorder.proofs.LineLemmas.{kind_within, same_number, some_kind, some_passes, then_equal, true_false}
use Rattle.recorder.proofs.RowLemmas as row
use Rattle.recorder.proofs.ListLemmas.{in_filter, in_flat, in_left, in_right, some_number}

-- ---- sums and counts

count_more : {A : Type 0} (p : A → Bool) (x : A) (xs : List A)
    → sum_by (λ y. if p y then 1 else 0) (x ∷ xs)
    ≡ cond (p x) (1 + sum_by (λ y. if p y then 1 else 0) xs) (sum_by (λ y. if p y then 1 else 0) xs)
count_more {A = A} p x xs =
    sum_by-cons (λ y. if p y then 1 else 0) x xs ∙ by (p x) (sum_by (λ y. if p y then 1 else 0) xs)
  where
    by : (b : Bool) (n : ℕ) → (if b then 1 else 0) + n ≡ cond b (1 + n) n
    by true n = refl
    by false n = omega arith

-- a count, as a sum of ones
pub count_is : {A : Type 0} (p : A → Bool) (xs : List A) → count_by p xs ≡ sum_by (λ y. if p y then 1 else 0) xs
count_is {A = A} p xs = sym (is_count_by (sum_by (λ y. if p y then 1 else 0)) p refl (count_more p) xs)

some_counted : {A : Type 0} (p : A → Bool) (xs : List A) → count_by p xs ≢ 0 → (x : A) × IsIn xs x × (p x ≡ true)
some_counted {A = A} p xs some = some_passes p (λ _. 1) xs (λ none. some (count_is p xs ∙ none))

no_product : (m n : ℕ) → m * n ≢ 0 → n ≢ 0
no_product m n some none = some (let e = ap (λ k. m * k) none in omega (arith, e))

-- ---- arcs

pub arc_total : IsTotalOrder arc_order
arc_total =
    then_total (on_total (λ (a : ArcKey). a.caller.0) nat_cmp_total)
    (then_total (on_total (λ (a : ArcKey). a.file.0) nat_cmp_total)
    (then_total (on_total (λ (a : ArcKey). a.line) nat_cmp_total)
    (on_total (λ (a : ArcKey). a.callee.0) nat_cmp_total)))

make_arc : ℕ → ℕ → ℕ → ℕ → ArcKey
make_arc caller file line callee = record {
  caller = record { 0 = caller };
  file = record { 0 = file };
  line = line;
  callee = record { 0 = callee };
}

pub arc_only : IsAntisymmetric arc_order
unfolding make_arc
arc_only a b e =
    let one = then_equal (nat_cmp a.caller.0 b.caller.0) _ e in
    let two = then_equal (nat_cmp a.file.0 b.file.0) _ one.1 in
    let three = then_equal (nat_cmp a.line b.line) (nat_cmp a.callee.0 b.callee.0) two.1 in
    (λ i. make_arc (nat_cmp-IsAntisymmetric a.caller.0 b.caller.0 one.0 i)
    (nat_cmp-IsAntisymmetric a.file.0 b.file.0 two.0 i) (nat_cmp-IsAntisymmetric a.line b.line three.0 i)
    (nat_cmp-IsAntisymmetric a.callee.0 b.callee.0 three.1 i))

pub arc_alike : (a b : ArcKey) → same_arc a b ≡ true → a ≡ b
unfolding make_arc
arc_alike a b e =
    let one = and_parts (a.caller.0 == b.caller.0) _ e in
    let two = and_parts (a.file.0 == b.file.0) _ one.1 in
    let three = and_parts (a.line == b.line) (a.callee.0 == b.callee.0) two.1 in
    (λ i. make_arc (same_number a.caller.0 b.caller.0 one.0 i) (same_number a.file.0 b.file.0 two.0 i)
    (same_number a.line b.line three.0 i) (same_number a.callee.0 b.callee.0 three.1 i))

pub arc_itself : (a : ArcKey) → same_arc a a ≡ true
arc_itself a =
    (λ i. eq-eqb a.caller.0 a.caller.0 refl i
    && (eq-eqb a.file.0 a.file.0 refl i && (eq-eqb a.line a.line refl i && eq-eqb a.callee.0 a.callee.0 refl i)))

-- ---- the arcs of events

of_frame : (k : ArcKey) (o : Option ArcKey) → is_arc k o ≡ true → IsIn (option_to_list o) k
of_frame k None is = absurd (true_false (sym is))
of_frame k (Some a) is = inl (sym (arc_alike k a is))

of_pushed : (k : ArcKey) (o : Option Activation) → pushes k o ≢ 0 → IsIn (arcs_of (option_to_list o)) k
of_pushed k None some = absurd (some refl)
of_pushed k (Some a) some = in_left (option_to_list a.arc) [] k (of_frame k a.arc (by (is_arc k a.arc) some))
  where
    by : (b : Bool) → ◌≢◌ {A = ℕ} (if b then 1 else 0) 0 → b ≡ true
    by true some_ = refl
    by false some_ = absurd (some_ refl)

of_stack : (k : ArcKey) (s : Stack) → entered_by k s ≢ 0 → IsIn (arcs_of s) k
of_stack k s some =
    let a = some_counted (λ (f : Activation). is_arc k f.arc) s some in
    in_flat (λ (f : Activation). option_to_list f.arc) s a.0 k a.1 (of_frame k a.0.arc a.2)

-- calls, or a cost
pub either : (calls : ℕ) (cost : List ℕ) → (not (calls == 0) || is_some_cost cost) ≡ true
    → (calls ≢ 0) ⊎ (is_some_cost cost ≡ true)
either calls cost some = by (eqb_tells calls 0)
  where
    by : ((calls == 0 ≡ true) × (calls ≡ 0)) ⊎ ((calls == 0 ≡ false) × (calls ≢ 0))
        → (calls ≢ 0) ⊎ (is_some_cost cost ≡ true)
    by (inl none) = inr (sym (ap (λ b. not b || is_some_cost cost) none.0) ∙ some)
    by (inr there) = inl there.1

-- an arc with calls or a cost is one of the events' arcs
module _ (syms : SymbolMap) (xs : List EventOnStack) where
  pub called : (k : ArcKey) → arc_calls syms k xs ≢ 0 → IsIn (arcs syms xs) k
  called k some =
      let event = some_number (λ x. pushes k (change syms x.event x.stack).pushed) xs some in
      let x = event.0 in
      rise.in_risen arc_order arc_total arc_only (flat_map (arcs_at syms) xs) k
      (in_flat (arcs_at syms) xs x k event.1
      (in_right (arcs_of x.stack) (arcs_of (option_to_list (change syms x.event x.stack).pushed)) k
      (of_pushed k (change syms x.event x.stack).pushed event.2)))

  pub costly : (kind : ℕ) (k : ArcKey) → arc_cost kind k xs ≢ 0 → IsIn (arcs syms xs) k
  costly kind k some =
      let event = some_number (λ x. get_or x.cost kind 0 * entered_by k x.stack) xs some in
      let x = event.0 in
      rise.in_risen arc_order arc_total arc_only (flat_map (arcs_at syms) xs) k
      (in_flat (arcs_at syms) xs x k event.1
      (in_left (arcs_of x.stack) (arcs_of (option_to_list (change syms x.event x.stack).pushed)) k
      (of_stack k x.stack (no_product (get_or x.cost kind 0) (entered_by k x.stack) event.2))))

module _ (syms : SymbolMap) (xs : List EventOnStack) (listed : Listed) (are : AreRowsOf syms xs listed)
    (whole : (r : ArcRow) → IsIn listed.arcs r → length r.cost ≡ event_kinds) where
  abbrev key : ArcRow → ArcKey
  key r = arc.arc_of r

  rises : rise.Rises arc_order arc_total arc_only (map key listed.arcs)
  rises = rise.rises_from arc_order arc_total arc_only (map key listed.arcs) are.arcs_rise

  sum_is : (kind : ℕ) (r : ArcRow) → IsIn listed.arcs r → get_or r.cost kind 0 ≡ arc_cost kind r.arc xs
  sum_is kind r there =
      sym (row.sum_own key same_arc arc_order arc_total arc_only arc_alike arc_itself
      (λ q. get_or q.cost kind 0) listed.arcs rises r there)
      ∙ are.arcs kind r.arc

  calls_are : (r : ArcRow) → IsIn listed.arcs r → r.calls ≡ arc_calls syms r.arc xs
  calls_are r there =
      sym (row.sum_own key same_arc arc_order arc_total arc_only arc_alike arc_itself (λ q. q.calls) listed.arcs
      rises r there)
      ∙ are.calls r.arc

  each : (r : ArcRow) → IsIn listed.arcs r → r ≡ arc_at syms xs (key r)
  each r there = λ i. record {
    arc = r.arc;
    calls = calls_are r there i;
    cost = cost_is r.cost (λ kind. arc_cost kind r.arc xs) (whole r there) (λ kind. sum_is kind r there) i;
  }

  some_in : (r : ArcRow) → IsIn listed.arcs r → is_some_arc r ≡ true
  some_in r there =
      (in_filter is_some_arc listed.arcs r (subst (λ rs. IsIn rs r) (sym are.some_arcs) there)).1

  within : (r : ArcRow) → IsIn listed.arcs r → IsIn (arcs syms xs) (key r)
  within r there = elim (either r.calls r.cost (some_in r there)) as (λ _. IsIn (arcs syms xs) (key r)) [
    | inl calls ↦ called syms xs r.arc (λ none. calls (calls_are r there ∙ none))
    | inr cost ↦
        (let kind = some_kind r.cost cost in
        costly syms xs kind.0 r.arc (λ none. kind.1 (sum_is kind.0 r there ∙ none)))
  ]

  back : (k : ArcKey) → IsIn (arcs syms xs) k → is_some_arc (arc_at syms xs k) ≡ true → IsIn (map key listed.arcs) k
  back k there some = elim (row.there_or_none key same_arc arc_order arc_total arc_only arc_alike arc_itself k
      listed.arcs) as (λ _. IsIn (map key listed.arcs) k) [
        | inl is ↦ is
        | inr none ↦ elim (either (arc_calls syms k xs) (by_kind (λ j. arc_cost j k xs)) some) as
            (λ _. IsIn (map key listed.arcs) k) [
              | inl calls ↦
                  absurd (calls (sym (are.calls k)
                  ∙ row.sum_none key same_arc arc_order arc_total arc_only arc_alike arc_itself (λ q. q.calls) k
                  listed.arcs none))
              | inr cost ↦
                  (let kind = some_kind (by_kind (λ j. arc_cost j k xs)) cost in
                  absurd (kind_within (λ j. arc_cost j k xs) kind.0 kind.1
                  (sym (are.arcs kind.0 k)
                  ∙ row.sum_none key same_arc arc_order arc_total arc_only arc_alike arc_itself
                  (λ q. get_or q.cost kind.0 0) k listed.arcs none)))
            ]
      ]

  -- the arc rows
  pub arcs_are : listed.arcs ≡ filter is_some_arc (map (arc_at syms xs) (arcs syms xs))
  arcs_are =
      row.rows_are key same_arc arc_order arc_total arc_only arc_alike arc_itself (arc_at syms xs) is_some_arc
      listed.arcs (arcs syms xs) rises
      (rise.risen_rises arc_order arc_total arc_only (flat_map (arcs_at syms) xs)) each some_in within back
