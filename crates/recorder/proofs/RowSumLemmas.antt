-- The rows of events have the sums of these events.
use Rattle.std.proofs.Common.{◌≡◌, ◌≢◌, ℕ, zero, suc, ◌*◌, ◌≤◌, ◌==◌, ◌||◌, not, Bool, true, false, List, [], ◌∷◌}
use Rattle.std.proofs.Common.{length, map, filter, sum_by, get_or, refl, ap, sym, subst, ◌∙◌, arith, ◌⊎◌, inl, inr}
use Rattle.std.proofs.Common.{if◌then◌else◌, All, flat_map}
use Rattle.std.specs.FinMap.{IsAntisymmetric}
use Rattle.std.specs.Cmp.{IsTotalOrder}
use Rattle.std.specs.declared.cmp.Ordering.{Ordering}
use Rattle.std.proofs.lemmas.Bool.Decides.{eqb_tells}
use Rattle.std.proofs.lemmas.List.{get_or_past}
use Rattle.std.proofs.lemmas.List.Elements.{All-from_recursion, recursion_from_All}
use Rattle.std.proofs.lemmas.List.FromFn.{length-map-range_with_len}
use Rattle.std.proofs.lemmas.List.Sums.{sum_by-cons}
use Rattle.event_costs.specs.Costs.{IsWhole, event_kinds}
use Rattle.event_costs.specs.Keys.{ArcKey, Place}
use Rattle.arc_costs.specs.Arcs.{is_some_arc}
use Rattle.arc_costs.specs.Arcs as arc
use Rattle.arc_costs.specs.Lines.{is_some_line}
use Rattle.arc_costs.specs.Lines as lines
use Rattle.event_costs.specs.Order.{arc_order, place_order, same_arc, same_place}
use Rattle.arc_costs.specs.Rows as rows
use Rattle.arc_costs.specs.Totals.{is_some_cost}
use Rattle.arc_costs.specs.Rows.{ArcRow, LineRow}
use Rattle.arc_costs.specs.Keys.{by_kind}
use Rattle.recorder.proofs.Others.{by_kind_all}
use Rattle.arc_costs.proofs.RiseLemmas as rise
use Rattle.sym_map.specs.SymbolMap.{SymbolMap, place_of}
use Rattle.shadow_stack.specs.Traces.{EventOnStack}
use Rattle.recorder.specs.Laws.{IsIn}
use Rattle.recorder.specs.Standing.{AreRowsOf}
use Rattle.recorder.specs.Sums.{arc_calls, arc_cost, entered_by, self_cost}
use Rattle.recorder.specs.Rows.{arc_at, arcs, arcs_at, line_at, places, rows_of}
use Rattle.recorder.proofs.ArcRowLemmas.{arc_alike, arc_itself, arc_only, arc_total, called, costly}
use Rattle.recorder.proofs.ListLemmas.{all_of, filter-filter_same, of_all, in_filter, to_filter, from_map}
use Rattle.recorder.proofs.LineLemmas.{place_alike, place_itself, place_only, place_total, some_passes, true_false}
use Rattle.recorder.proofs.RowLemmas as row

-- ---- lists

sum_zero : {A : Type 0} (f : A → ℕ) (xs : List A) → ((x : A) → IsIn xs x → f x ≡ 0) → sum_by f xs ≡ 0
sum_zero f [] none = refl
sum_zero f (x ∷ xs) none =
    let all = sum_by-cons f x xs in
    let here = none x (inl refl) in
    let rest = sum_zero f xs (λ y there. none y (inr there)) in
    omega (arith, all, here, rest)

-- a number that isn't 0 shows in its cost
shows : (cost : List ℕ) (kind : ℕ) → get_or cost kind 0 ≢ 0 → is_some_cost cost ≡ true
shows [] kind some = absurd (some refl)
shows (n ∷ ns) zero some = by (eqb_tells n 0)
  where
    by : ((n == 0 ≡ true) × (n ≡ 0)) ⊎ ((n == 0 ≡ false) × (n ≢ 0)) → (not (n == 0) || is_some_cost ns) ≡ true
    by (inl none) = absurd (some none.1)
    by (inr there) = ap (λ b. not b || is_some_cost ns) there.0
shows (n ∷ ns) (suc kind) some = by (n == 0) (shows ns kind some)
  where
    by : (b : Bool) → is_some_cost ns ≡ true → (not b || is_some_cost ns) ≡ true
    by true rest = rest
    by false rest = refl

-- ---- rows by rising keys

module _ {Row K : Type 0} (key : Row → K) (same : K → K → Bool) (R : K → K → Ordering) (order : IsTotalOrder R)
    (only : IsAntisymmetric R) (alike : (a b : K) → same a b ≡ true → a ≡ b) (itself : (a : K) → same a a ≡ true)
    (at : K → Row) (some : Row → Bool) (back : (k : K) → key (at k) ≡ k) where
  abbrev Rises : List K → Type 0
  Rises ks = rise.Rises R order only ks

  keys_at : (ks : List K) → map key (map at ks) ≡ ks
  keys_at [] = refl
  keys_at (k ∷ ks) = λ i. back k i ∷ keys_at ks i

  kept_keys : (ks : List K) → map key (filter some (map at ks)) ≡ filter (λ k. some (at k)) ks
  kept_keys ks =
      ap (map key) (sym (row.map_filter key same R order only alike itself at some ks))
      ∙ keys_at (filter (λ k. some (at k)) ks)

  pub kept_rise : (ks : List K) → Rises ks → Rises (map key (filter some (map at ks)))
  kept_rise ks rises =
      subst Rises (sym (kept_keys ks)) (row.filtered key same R order only alike itself at some ks rises)

  abbrev kept : List K → List Row
  kept ks = filter some (map at ks)

  -- the sum at a key, where the key is among those of the rows unless the sum is 0
  pub sum_at_key : (number : Row → ℕ) (ks : List K) → Rises ks → (k : K) (total : ℕ) → number (at k) ≡ total
      → (total ≢ 0 → IsIn ks k) → (number (at k) ≢ 0 → some (at k) ≡ true)
      → rows.sum_at key same number k (kept ks) ≡ total
  sum_at_key number ks rises k total is within show =
      elim (row.there_or_none key same R order only alike itself k (kept ks)) as
      (λ _. rows.sum_at key same number k (kept ks) ≡ total) [
        | inl there ↦ of_row (from_map key (kept ks) k there)
        | inr none ↦
            row.sum_none key same R order only alike itself number k (kept ks) none
            ∙ sym (no_total none (eqb_tells total 0))
      ]
    where
      of_row : (r : Row) × IsIn (kept ks) r × (key r ≡ k) → rows.sum_at key same number k (kept ks) ≡ total
      of_row r =
          let from = from_map at ks r.0 (in_filter some (map at ks) r.0 r.1).0 in
          let here : at k ≡ r.0 = ap at (sym r.2 ∙ ap key (sym from.2) ∙ back from.0) ∙ from.2 in
          subst (λ q. rows.sum_at key same number q (kept ks) ≡ number r.0) r.2
          (row.sum_own key same R order only alike itself number (kept ks) (kept_rise ks rises) r.0 r.1)
          ∙ ap number (sym here) ∙ is

      no_total : ((r : Row) → IsIn (kept ks) r → same k (key r) ≡ false)
          → ((total == 0 ≡ true) × (total ≡ 0)) ⊎ ((total == 0 ≡ false) × (total ≢ 0)) → total ≡ 0
      no_total none (inl e) = e.1
      no_total none (inr other) =
          let there = to_filter some (map at ks) (at k) (rise.in-map at ks k (within other.1))
          (show (λ e. other.1 (sym is ∙ e))) in
          absurd (true_false (sym (ap (same k) (back k) ∙ itself k) ∙ none (at k) there))

-- ---- the rows of events

-- each cost has a number for each kind of event
abbrev pub AreWholeCosts : List EventOnStack → Type 0
AreWholeCosts xs = (x : EventOnStack) → IsIn xs x → length x.cost ≡ event_kinds

module _ (syms : SymbolMap) (xs : List EventOnStack) (whole : AreWholeCosts xs) where
  past_kinds : (kind : ℕ) → event_kinds ≤ kind → (x : EventOnStack) → IsIn xs x → get_or x.cost kind 0 ≡ 0
  past_kinds kind past x there =
      let long = whole x there in get_or_past x.cost kind 0 (omega (arith, past, long))

  -- ---- lines

  no_self : (place : Place) (kind : ℕ) → event_kinds ≤ kind → self_cost syms kind place xs ≡ 0
  no_self place kind past =
      sum_zero (λ x. if same_place place (place_of syms x.event.done.pc) then get_or x.cost kind 0 else 0) xs
      (λ x there. by (same_place place (place_of syms x.event.done.pc)) (past_kinds kind past x there))
    where
      by : {n : ℕ} (b : Bool) → n ≡ 0 → (if b then n else 0) ≡ 0
      by true e = e
      by false e = refl

  in_places : (kind : ℕ) (place : Place) → self_cost syms kind place xs ≢ 0 → IsIn (places syms xs) place
  in_places kind place some =
      let event =
      some_passes (λ x. same_place place (place_of syms x.event.done.pc)) (λ x. get_or x.cost kind 0) xs some in
      rise.in_risen place_order place_total place_only (map (λ x. place_of syms x.event.done.pc) xs) place
      (subst (IsIn (map (λ x. place_of syms x.event.done.pc) xs))
      (sym (place_alike place (place_of syms event.0.event.done.pc) event.2))
      (rise.in-map (λ (x : EventOnStack). place_of syms x.event.done.pc) xs event.0 event.1))

  places_rise : rise.Rises place_order place_total place_only (places syms xs)
  places_rise = rise.risen_rises place_order place_total place_only (map (λ x. place_of syms x.event.done.pc) xs)

  abbrev some_lines : List LineRow
  some_lines = filter is_some_line (map (line_at syms xs) (places syms xs))

  line_sums : (kind : ℕ) (place : Place) → lines.line_sum kind place some_lines ≡ self_cost syms kind place xs
  line_sums kind place =
      sum_at_key lines.place_of same_place place_order place_total place_only place_alike place_itself
      (line_at syms xs) is_some_line (λ k. refl) (λ r. get_or r.cost kind 0) (places syms xs) places_rise place
      (self_cost syms kind place xs)
      (by_kind_all (λ j. self_cost syms j place xs) (no_self place) kind)
      (in_places kind place)
      (shows (by_kind (λ j. self_cost syms j place xs)) kind)

  -- ---- arcs

  no_arc : (key : ArcKey) (kind : ℕ) → event_kinds ≤ kind → arc_cost kind key xs ≡ 0
  no_arc key kind past =
      sum_zero (λ x. get_or x.cost kind 0 * entered_by key x.stack) xs
      (λ x there. (let none = ap (λ n. n * entered_by key x.stack) (past_kinds kind past x there) in
      omega (arith, none)))

  arcs_rise : rise.Rises arc_order arc_total arc_only (arcs syms xs)
  arcs_rise = rise.risen_rises arc_order arc_total arc_only (flat_map (arcs_at syms) xs)

  abbrev some_arcs : List ArcRow
  some_arcs = filter is_some_arc (map (arc_at syms xs) (arcs syms xs))

  with_cost : (calls : ℕ) (cost : List ℕ) → is_some_cost cost ≡ true → (not (calls == 0) || is_some_cost cost) ≡ true
  with_cost calls cost some = by (calls == 0)
    where
      by : (b : Bool) → (not b || is_some_cost cost) ≡ true
      by true = some
      by false = refl

  with_calls : (calls : ℕ) (cost : List ℕ) → calls ≢ 0 → (not (calls == 0) || is_some_cost cost) ≡ true
  with_calls calls cost some = by (eqb_tells calls 0)
    where
      by : ((calls == 0 ≡ true) × (calls ≡ 0)) ⊎ ((calls == 0 ≡ false) × (calls ≢ 0))
          → (not (calls == 0) || is_some_cost cost) ≡ true
      by (inl none) = absurd (some none.1)
      by (inr there) = ap (λ b. not b || is_some_cost cost) there.0

  arc_sums : (kind : ℕ) (key : ArcKey) → arc.arc_sum kind key some_arcs ≡ arc_cost kind key xs
  arc_sums kind key =
      sum_at_key arc.arc_of same_arc arc_order arc_total arc_only arc_alike arc_itself (arc_at syms xs) is_some_arc
      (λ k. refl) (λ r. get_or r.cost kind 0) (arcs syms xs) arcs_rise key (arc_cost kind key xs)
      (by_kind_all (λ j. arc_cost j key xs) (no_arc key) kind)
      (costly syms xs kind key)
      (λ some. with_cost (arc_calls syms key xs) (by_kind (λ j. arc_cost j key xs))
      (shows (by_kind (λ j. arc_cost j key xs)) kind some))

  call_sums : (key : ArcKey) → arc.call_sum key some_arcs ≡ arc_calls syms key xs
  call_sums key =
      sum_at_key arc.arc_of same_arc arc_order arc_total arc_only arc_alike arc_itself (arc_at syms xs) is_some_arc
      (λ k. refl) (λ r. r.calls) (arcs syms xs) arcs_rise key (arc_calls syms key xs) refl
      (called syms xs key)
      (with_calls (arc_calls syms key xs) (by_kind (λ j. arc_cost j key xs)))

  pub rows_sum_up : AreRowsOf syms xs (rows_of syms xs)
  unfolding rows_of
  rows_sum_up = record {
    lines = line_sums;
    arcs = arc_sums;
    calls = call_sums;
    lines_rise =
        rise.sorted_from place_order place_total place_only (map lines.place_of some_lines)
        (kept_rise lines.place_of same_place place_order place_total place_only place_alike place_itself
        (line_at syms xs) is_some_line (λ k. refl) (places syms xs) places_rise);
    arcs_rise =
        rise.sorted_from arc_order arc_total arc_only (map arc.arc_of some_arcs)
        (kept_rise arc.arc_of same_arc arc_order arc_total arc_only arc_alike arc_itself (arc_at syms xs) is_some_arc
        (λ k. refl) (arcs syms xs) arcs_rise);
    some_lines = filter-filter_same is_some_line (map (line_at syms xs) (places syms xs));
    some_arcs = filter-filter_same is_some_arc (map (arc_at syms xs) (arcs syms xs));
  }

-- where each cost is whole
pub all_sum_up : (syms : SymbolMap) (xs : List EventOnStack) → All (λ x. IsWhole x.cost) xs
    → AreRowsOf syms xs (rows_of syms xs)
all_sum_up syms xs whole =
    rows_sum_up syms xs
    (of_all (λ (x : EventOnStack). length x.cost ≡ event_kinds) xs
    (recursion_from_All (λ (x : EventOnStack). length x.cost ≡ event_kinds) xs whole))

-- each row has a number for each kind of event
whole_cost : (f : ℕ → ℕ) → length (by_kind f) ≡ event_kinds
whole_cost f = length-map-range_with_len f 0 event_kinds

pub whole_lines : (syms : SymbolMap) (xs : List EventOnStack) → All (λ row. IsWhole row.cost) (rows_of syms xs).lines
unfolding rows_of
whole_lines syms xs =
    let rows = filter is_some_line (map (line_at syms xs) (places syms xs)) in
    All-from_recursion (λ (r : LineRow). IsWhole r.cost) rows
    (all_of (λ (r : LineRow). IsWhole r.cost) rows
    (λ r there. (let found = from_map (line_at syms xs) (places syms xs) r
    (in_filter is_some_line (map (line_at syms xs) (places syms xs)) r there).0 in
    subst (λ (q : LineRow). IsWhole q.cost) found.2 (whole_cost (λ kind. self_cost syms kind found.0 xs)))))

pub whole_arcs : (syms : SymbolMap) (xs : List EventOnStack) → All (λ row. IsWhole row.cost) (rows_of syms xs).arcs
unfolding rows_of
whole_arcs syms xs =
    let rows = filter is_some_arc (map (arc_at syms xs) (arcs syms xs)) in
    All-from_recursion (λ (r : ArcRow). IsWhole r.cost) rows
    (all_of (λ (r : ArcRow). IsWhole r.cost) rows
    (λ r there. (let found = from_map (arc_at syms xs) (arcs syms xs) r
    (in_filter is_some_arc (map (arc_at syms xs) (arcs syms xs)) r there).0 in
    subst (λ (q : ArcRow). IsWhole q.cost) found.2 (whole_cost (λ kind. arc_cost kind found.0 xs)))))
