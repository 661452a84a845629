-- The line rows that a recorder answers are those of the events.
use Rattle.std.proofs.Common.{◌≡◌, ◌≢◌, ℕ, suc, ◌≤◌, ◌==◌, ◌||◌, ◌&&◌, not, nat_lt, Bool, true, false, List, [], ◌∷◌}
use Rattle.std.proofs.Common.{length, map, filter, sum_by, get_or, refl, ap, sym, subst, ◌∙◌, arith, ◌⊎◌, inl, inr}
use Rattle.std.proofs.Common.{if◌then◌else◌}
use Rattle.std.specs.Ordering.{nat_cmp, ordering_then}
use Rattle.std.specs.FinMap.{IsAntisymmetric, nat_cmp-IsAntisymmetric}
use Rattle.std.specs.Cmp.{IsTotalOrder}
use Rattle.std.specs.declared.cmp.Ordering.{Ordering}
use Rattle.std.specs.declared.cmp.Ordering.TheVariants.{Less, Equal, Greater}
use Rattle.std.proofs.lemmas.Bool.{eq-eqb, and_parts}
use Rattle.std.proofs.lemmas.Bool.Decides.{eqb_tells, nat_tests}
use Rattle.std.proofs.lemmas.Cmp.{nat_cmp_total, on_total, then_total}
use Rattle.std.proofs.lemmas.List.{get_or_past}
use Rattle.std.proofs.lemmas.List.FromFn.{length-map-range_with_len}
use Rattle.std.proofs.lemmas.List.Sums.{sum_by-cons}
use Rattle.event_costs.specs.Costs.{event_kinds}
use Rattle.event_costs.specs.Keys.{Place}
use Rattle.arc_costs.specs.Contents.{Listed}
use Rattle.arc_costs.specs.Lines.{is_some_line}
use Rattle.arc_costs.specs.Lines as lines
use Rattle.event_costs.specs.Order.{place_order, same_place}
use Rattle.arc_costs.specs.Totals.{is_some_cost}
use Rattle.arc_costs.specs.Rows.{LineRow}
use Rattle.arc_costs.specs.Keys.{by_kind}
use Rattle.recorder.proofs.Others.{by_kind_at, cost_is}
use Rattle.arc_costs.proofs.RiseLemmas as rise
use Rattle.sym_map.specs.SymbolMap.{SymbolMap, place_of}
use Rattle.shadow_stack.specs.Traces.{EventOnStack}
use Rattle.recorder.specs.Laws.{IsIn}
use Rattle.recorder.specs.Standing.{AreRowsOf}
use Rattle.recorder.specs.Sums.{self_cost}
use Rattle.recorder.specs.Rows.{line_at, places}
use Rattle.recorder.proofs.RowLemmas as row
use Rattle.recorder.proofs.ListLemmas.{in_filter}

-- ---- costs as lists

pub true_false : true ≡ false → ⊥
true_false e = cc

-- a cost that isn't all 0 has a number that isn't
pub some_kind : (cost : List ℕ) → is_some_cost cost ≡ true → (kind : ℕ) × (get_or cost kind 0 ≢ 0)
some_kind [] some = absurd (true_false (sym some))
some_kind (n ∷ ns) some = by (eqb_tells n 0) some (λ rest. some_kind ns rest)
  where
    by : ((n == 0 ≡ true) × (n ≡ 0)) ⊎ ((n == 0 ≡ false) × (n ≢ 0)) → (not (n == 0) || is_some_cost ns) ≡ true
        → (is_some_cost ns ≡ true → (kind : ℕ) × (get_or ns kind 0 ≢ 0))
        → (kind : ℕ) × (get_or (n ∷ ns) kind 0 ≢ 0)
    by (inl none) any rest =
        let r = rest (sym (ap (λ b. not b || is_some_cost ns) none.0) ∙ any) in (suc r.0, r.1)
    by (inr there) any rest = (0, there.1)

pub kind_within : (f : ℕ → ℕ) (kind : ℕ) → get_or (by_kind f) kind 0 ≢ 0 → f kind ≢ 0
kind_within f kind some none = by (nat_lt kind event_kinds) refl
  where
    by : (b : Bool) → nat_lt kind event_kinds ≡ b → ⊥
    by true is = some (by_kind_at f kind (grind (arith, nat_tests)) ∙ none)
    by false is =
        let many = length-map-range_with_len f 0 event_kinds in
        let past : event_kinds ≤ kind = grind (arith, nat_tests) in
        some (get_or_past (by_kind f) kind 0 (omega (arith, many, past)))

-- ---- sums

-- a sum that isn't 0 has an element that passes the test
pub some_passes : {A : Type 0} (test : A → Bool) (number : A → ℕ) (xs : List A)
    → sum_by (λ x. if test x then number x else 0) xs ≢ 0 → (x : A) × IsIn xs x × (test x ≡ true)
some_passes {A = A} test number [] some = absurd (some refl)
some_passes {A = A} test number (x ∷ xs) some = by (test x) refl (λ rest. some_passes test number xs rest)
  where
    by : (b : Bool) → test x ≡ b
        → (sum_by (λ y. if test y then number y else 0) xs ≢ 0 → (y : A) × IsIn xs y × (test y ≡ true))
        → (y : A) × IsIn (x ∷ xs) y × (test y ≡ true)
    by true is rest = (x, inl refl, is)
    by false is rest =
        let all = sum_by-cons (λ y. if test y then number y else 0) x xs in
        let here = ap (λ b. if b then number x else 0) is in
        let r = rest (λ none. some (omega (arith, all, here, none))) in (r.0, inr r.1, r.2)

-- ---- places

pub then_equal : (x y : Ordering) → ordering_then x y ≡ Equal → (x ≡ Equal) × (y ≡ Equal)
then_equal Less y e = absurd (cc)
then_equal Equal y e = (refl, e)
then_equal Greater y e = absurd (cc)

pub place_total : IsTotalOrder place_order
place_total =
    then_total (on_total (λ (p : Place). p.func.0) nat_cmp_total)
    (then_total (on_total (λ (p : Place). p.file.0) nat_cmp_total)
    (on_total (λ (p : Place). p.line) nat_cmp_total))

make_place : ℕ → ℕ → ℕ → Place
make_place func file line = record { func = record { 0 = func }; file = record { 0 = file }; line = line }

pub place_only : IsAntisymmetric place_order
unfolding make_place
place_only a b e =
    let one = then_equal (nat_cmp a.func.0 b.func.0) _ e in
    let two = then_equal (nat_cmp a.file.0 b.file.0) (nat_cmp a.line b.line) one.1 in
    (λ i. make_place (nat_cmp-IsAntisymmetric a.func.0 b.func.0 one.0 i)
    (nat_cmp-IsAntisymmetric a.file.0 b.file.0 two.0 i) (nat_cmp-IsAntisymmetric a.line b.line two.1 i))

pub same_number : (m n : ℕ) → (m == n) ≡ true → m ≡ n
same_number m n e = grind (arith, nat_tests)

pub place_alike : (a b : Place) → same_place a b ≡ true → a ≡ b
unfolding make_place
place_alike a b e =
    let one = and_parts (a.func.0 == b.func.0) _ e in
    let two = and_parts (a.file.0 == b.file.0) (a.line == b.line) one.1 in
    (λ i. make_place (same_number a.func.0 b.func.0 one.0 i) (same_number a.file.0 b.file.0 two.0 i)
    (same_number a.line b.line two.1 i))

pub place_itself : (a : Place) → same_place a a ≡ true
place_itself a =
    (λ i. eq-eqb a.func.0 a.func.0 refl i && (eq-eqb a.file.0 a.file.0 refl i && eq-eqb a.line a.line refl i))

module _ (syms : SymbolMap) (xs : List EventOnStack) (listed : Listed) (are : AreRowsOf syms xs listed)
    (whole : (r : LineRow) → IsIn listed.lines r → length r.cost ≡ event_kinds) where
  abbrev key : LineRow → Place
  key r = lines.place_of r

  rises : rise.Rises place_order place_total place_only (map key listed.lines)
  rises = rise.rises_from place_order place_total place_only (map key listed.lines) are.lines_rise

  sum_is : (kind : ℕ) (r : LineRow) → IsIn listed.lines r → get_or r.cost kind 0 ≡ self_cost syms kind r.place xs
  sum_is kind r there =
      sym (row.sum_own key same_place place_order place_total place_only place_alike place_itself
      (λ q. get_or q.cost kind 0) listed.lines rises r there)
      ∙ are.lines kind r.place

  each : (r : LineRow) → IsIn listed.lines r → r ≡ line_at syms xs (key r)
  each r there = λ i. record {
    place = r.place;
    cost = cost_is r.cost (λ kind. self_cost syms kind r.place xs) (whole r there) (λ kind. sum_is kind r there) i;
  }

  some_in : (r : LineRow) → IsIn listed.lines r → is_some_line r ≡ true
  some_in r there =
      (in_filter is_some_line listed.lines r
      (subst (λ rs. IsIn rs r) (sym are.some_lines) there)).1

  within : (r : LineRow) → IsIn listed.lines r → IsIn (places syms xs) (key r)
  within r there =
      let kind = some_kind r.cost (some_in r there) in
      let event =
      some_passes (λ x. same_place r.place (place_of syms x.event.done.pc)) (λ x. get_or x.cost kind.0 0) xs
      (λ none. kind.1 (sum_is kind.0 r there ∙ none)) in
      rise.in_risen place_order place_total place_only (map (λ x. place_of syms x.event.done.pc) xs) r.place
      (subst (IsIn (map (λ x. place_of syms x.event.done.pc) xs))
      (sym (place_alike r.place (place_of syms event.0.event.done.pc) event.2))
      (rise.in-map (λ (x : EventOnStack). place_of syms x.event.done.pc) xs event.0 event.1))

  back : (k : Place) → IsIn (places syms xs) k → is_some_line (line_at syms xs k) ≡ true
      → IsIn (map key listed.lines) k
  back k there some =
      let kind = some_kind (by_kind (λ j. self_cost syms j k xs)) some in
      elim (row.there_or_none key same_place place_order place_total place_only place_alike place_itself k
      listed.lines) as (λ _. IsIn (map key listed.lines) k) [
        | inl is ↦ is
        | inr none ↦
            absurd (kind_within (λ j. self_cost syms j k xs) kind.0 kind.1
            (sym (are.lines kind.0 k)
            ∙ row.sum_none key same_place place_order place_total place_only place_alike place_itself
            (λ q. get_or q.cost kind.0 0) k listed.lines none))
      ]

  -- the line rows
  pub lines_are : listed.lines ≡ filter is_some_line (map (line_at syms xs) (places syms xs))
  lines_are =
      row.rows_are key same_place place_order place_total place_only place_alike place_itself (line_at syms xs)
      is_some_line listed.lines (places syms xs) rises
      (rise.risen_rises place_order place_total place_only (map (λ x. place_of syms x.event.done.pc) xs)) each
      some_in within back
