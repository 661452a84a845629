-- What the totals of arcs are as arc rows.
use Rattle.std.proofs.Common.{◌≡◌, ◌+◌, ◌<◌, ◌^◌, ◌==◌, ℕ, zero, suc, Bool, true, false, not, ◌||◌, List, [], ◌∷◌}
use Rattle.std.proofs.Common.{◌++◌, map, filter, get_or, refl, sym, ap, ◌∙◌, arith, true≢false, IsPermutation}
use Rattle.std.specs.Cmp.{IsEquivalence}
use Rattle.std.specs.List.{AllByRecursion}
use Rattle.std.specs.Map.{keys_of}
use Rattle.std.proofs.lemmas.Cmp.{and_equiv, nat_eq_equiv, on_equiv}
use Rattle.std.proofs.lemmas.List.Sorted.{sum_by-IsPermutation}
use Rattle.event_costs.specs.Costs.{event_kinds, IsWhole, no_cost, sum_of_costs}
use Rattle.event_costs.specs.Keys.{ArcKey}
use Rattle.arc_costs.specs.Arcs.{ArcsStandFor, add_arc, add_arcs, arc_of, arc_sum, call_sum, cleared_arcs, cost_of_arc}
use Rattle.arc_costs.specs.Arcs.{has_arc, is_some_arc, plus_arc}
use Rattle.arc_costs.specs.Amounts.{amount_at, has_key, key_of}
use Rattle.arc_costs.specs.Contents.{arc_row}
use Rattle.event_costs.specs.Order.{same_arc}
use Rattle.arc_costs.specs.Totals.{Fits, add_total, clear_totals, is_some_cost, nothing, sum_of_totals}
use Rattle.arc_costs.specs.inner.Shape.{AllWhole}
use Rattle.arc_costs.specs.inner.Sums.{IsWholeTotal}
use Rattle.arc_costs.specs.Rows.{ArcRow}
use Rattle.arc_costs.specs.declared.total.Total.{Total}
use Rattle.arc_costs.proofs.FitLemmas.{fits_from_numbers, held_within}
use Rattle.arc_costs.specs.Rows.{sum_at}
use Rattle.arc_costs.proofs.RowLemmas.{Adds, has_row-add_row, has_row-add_rows, has_row-keys, has_row-map, map-add_row}
use Rattle.arc_costs.proofs.RowLemmas.{number_of_sum, share, sum_at-add_row, sum_at-append, sum_at-filter, sum_at-map}
use Rattle.arc_costs.proofs.RowLemmas.{sum_at_none, sum_at_one, zero_number, zero_replicate}

pub same_arc_laws : IsEquivalence same_arc
same_arc_laws =
    and_equiv (on_equiv (λ (a : ArcKey). a.caller.0) nat_eq_equiv)
    (and_equiv (on_equiv (λ (a : ArcKey). a.file.0) nat_eq_equiv)
    (and_equiv (on_equiv (λ (a : ArcKey). a.line) nat_eq_equiv) (on_equiv (λ (a : ArcKey). a.callee.0) nat_eq_equiv)))

pub has_arc_row : (arc : ArcKey) (es : List (ArcKey × Total)) → has_arc arc (map arc_row es) ≡ has_key same_arc arc es
has_arc_row arc es = has_row-map arc_row key_of arc_of same_arc (λ e. refl) arc es

-- what can be added at an arc, from the sums of its rows
pub arc_takes_cost : (es : List (ArcKey × Total)) (arc : ArcKey) (cost : List ℕ)
    → ((event : ℕ) → arc_sum event arc (map arc_row es) + get_or cost event 0 < 2 ^ 64)
    → Fits (sum_of_costs (amount_at same_arc nothing es arc).cost cost)
arc_takes_cost es arc cost fits =
    fits_from_numbers (amount_at same_arc nothing es arc).cost cost
    (λ event.
    let sum : arc_sum event arc (map arc_row es) ≡ sum_at key_of same_arc (λ e. get_or e.1.cost event 0) arc es
    = sum_at-map arc_row key_of arc_of same_arc (λ e. refl)
    (λ e. get_or e.1.cost event 0) (λ row. get_or row.cost event 0) (λ e. refl) arc es in
    let zero = zero_replicate event_kinds event in
    let within = held_within same_arc nothing (λ (t : Total). get_or t.cost event 0) zero arc es in
    omega (arith, sum, within, fits event))

pub arc_takes_calls : (es : List (ArcKey × Total)) (arc : ArcKey) (calls : ℕ)
    → call_sum arc (map arc_row es) + calls < 2 ^ 64
    → (amount_at same_arc nothing es arc).calls + calls < 2 ^ 64
arc_takes_calls es arc calls fits =
    let sum : call_sum arc (map arc_row es) ≡ sum_at key_of same_arc (λ e. e.1.calls) arc es
    = sum_at-map arc_row key_of arc_of same_arc (λ e. refl) (λ e. e.1.calls) (λ row. row.calls) (λ e. refl) arc es in
    let within = held_within same_arc nothing (λ (t : Total). t.calls) refl arc es in
    omega (arith, sum, within, fits)

pub arc_adds : (es : List (ArcKey × Total)) (arc : ArcKey) (t : Total)
    → map arc_row (add_total same_arc es arc t) ≡ add_arc (map arc_row es) (arc_row (arc, t))
arc_adds es arc t =
    map-add_row arc_row key_of arc_of same_arc (λ e. refl) (λ e new. (e.0, sum_of_totals e.1 new.1)) plus_arc
    (λ e new. refl) es (arc, t)

each_adds : (es : List (ArcKey × Total)) (event : ℕ) (new : ArcRow) → AllWhole IsWholeTotal es → IsWhole new.cost
    → AllByRecursion (Adds arc_of same_arc same_arc_laws plus_arc (λ row. get_or row.cost event 0) new) (map arc_row es)
each_adds [] event new all one = tt
each_adds (e ∷ es) event new all one =
    ((refl, number_of_sum e.1.cost new.cost event (all.0 ∙ sym one)), each_adds es event new all.1 one)

each_counts : (es : List (ArcKey × Total)) (new : ArcRow)
    → AllByRecursion (Adds arc_of same_arc same_arc_laws plus_arc (λ row. row.calls) new) (map arc_row es)
each_counts [] new = tt
each_counts (e ∷ es) new = ((refl, refl), each_counts es new)

-- an addition adds its cost and its calls at its arc
pub arc_added : (es : List (ArcKey × Total)) (arc : ArcKey) (t : Total) → AllWhole IsWholeTotal es → IsWhole t.cost
    → (event : ℕ) (other : ArcKey)
    → arc_sum event other (map arc_row (add_total same_arc es arc t))
    ≡ arc_sum event other (map arc_row es) + arc_sum event other (arc_row (arc, t) ∷ [])
arc_added es arc t all one event other =
    let number : ArcRow → ℕ = λ row. get_or row.cost event 0 in
    let new = arc_row (arc, t) in
    let sum = sum_at-add_row arc_of same_arc same_arc_laws plus_arc number new other (map arc_row es)
    (each_adds es event new all one) in
    let alone = sum_at_one arc_of same_arc number other new in
    ap (arc_sum event other) (arc_adds es arc t) ∙ omega (arith, sum, alone)

pub arc_counted : (es : List (ArcKey × Total)) (arc : ArcKey) (t : Total) (other : ArcKey)
    → call_sum other (map arc_row (add_total same_arc es arc t))
    ≡ call_sum other (map arc_row es) + call_sum other (arc_row (arc, t) ∷ [])
arc_counted es arc t other =
    let number : ArcRow → ℕ = λ row. row.calls in
    let new = arc_row (arc, t) in
    let sum = sum_at-add_row arc_of same_arc same_arc_laws plus_arc number new other (map arc_row es)
    (each_counts es new) in
    let alone = sum_at_one arc_of same_arc number other new in
    ap (call_sum other) (arc_adds es arc t) ∙ omega (arith, sum, alone)

pub arcs_stand : (arcs now additions news : List ArcRow)
    → ((arc : ArcKey) → call_sum arc now ≡ call_sum arc arcs + call_sum arc news)
    → ((event : ℕ) (arc : ArcKey) → arc_sum event arc now ≡ arc_sum event arc arcs + arc_sum event arc news)
    → ArcsStandFor arcs additions → ArcsStandFor now (additions ++ news)
arcs_stand arcs now additions news calls costs stands = record {
  calls = λ arc.
      let all = sum_at-append arc_of same_arc (λ row. row.calls) arc additions news in
      omega (arith, all, calls arc, stands.calls arc);
  costs = λ event arc.
      let all = sum_at-append arc_of same_arc (λ row. get_or row.cost event 0) arc additions news in
      omega (arith, all, costs event arc, stands.costs event arc);
}

-- an addition in the table is one in what it stands for
pub one_more_arc : (es : List (ArcKey × Total)) (arc : ArcKey) (t : Total) → AllWhole IsWholeTotal es → IsWhole t.cost
    → (additions : List ArcRow)
    → ArcsStandFor (map arc_row es) additions
    → ArcsStandFor (map arc_row (add_total same_arc es arc t)) (additions ++ arc_row (arc, t) ∷ [])
one_more_arc es arc t all one additions stands =
    arcs_stand (map arc_row es) (map arc_row (add_total same_arc es arc t)) additions (arc_row (arc, t) ∷ [])
    (arc_counted es arc t) (arc_added es arc t all one) stands

pub arcs-cleared : (es : List (ArcKey × Total)) → map arc_row (clear_totals es) ≡ cleared_arcs (map arc_row es)
arcs-cleared [] = refl
arcs-cleared (e ∷ es) = ap (λ rows. cost_of_arc e.0 no_cost ∷ rows) (arcs-cleared es)

each_zero : (event : ℕ) (rows : List ArcRow) → AllByRecursion (λ row. get_or row.cost event 0 ≡ 0) (cleared_arcs rows)
each_zero event [] = tt
each_zero event (row ∷ rows) = (zero_replicate event_kinds event, each_zero event rows)

each_uncalled : (rows : List ArcRow) → AllByRecursion (λ row. row.calls ≡ 0) (cleared_arcs rows)
each_uncalled [] = tt
each_uncalled (row ∷ rows) = (refl, each_uncalled rows)

pub none_stand : (rows : List ArcRow) → ArcsStandFor (cleared_arcs rows) []
none_stand rows = record {
  calls = λ arc. sum_at_none arc_of same_arc (λ row. row.calls) arc (cleared_arcs rows) (each_uncalled rows);
  costs = λ event arc. sum_at_none arc_of same_arc (λ row. get_or row.cost event 0) arc (cleared_arcs rows)
      (each_zero event rows);
}

pub arc_keys : (es : List (ArcKey × Total)) → map arc_of (map arc_row es) ≡ keys_of es
arc_keys [] = refl
arc_keys (e ∷ es) = ap (λ ks. e.0 ∷ ks) (arc_keys es)

no_calls : (calls : ℕ) (cost : List ℕ) → not (calls == 0) || is_some_cost cost ≡ false → calls ≡ 0
no_calls zero cost none = refl
no_calls (suc calls) cost none = let positive : (suc calls == 0) ≡ false = grind arith in
    absurd (true≢false (sym (ap (λ b. not b || is_some_cost cost) positive) ∙ none))

no_numbers : (b : Bool) (cost : List ℕ) → b || is_some_cost cost ≡ false → is_some_cost cost ≡ false
no_numbers true cost none = absurd (true≢false none)
no_numbers false cost none = none

-- the rows that are left stand for the same
pub sorted_stand : (arcs sorted additions : List ArcRow) → IsPermutation (filter is_some_arc arcs) sorted
    → ArcsStandFor arcs additions → ArcsStandFor sorted additions
sorted_stand arcs sorted additions order stands = record {
  calls = λ arc.
      sum_by-IsPermutation (share arc_of same_arc (λ row. row.calls) arc) (filter is_some_arc arcs) sorted order
      ∙ sum_at-filter arc_of same_arc is_some_arc (λ row. row.calls)
      (λ row none. no_calls row.calls row.cost none) arc arcs
      ∙ stands.calls arc;
  costs = λ event arc.
      sum_by-IsPermutation (share arc_of same_arc (λ row. get_or row.cost event 0) arc)
      (filter is_some_arc arcs) sorted order
      ∙ sum_at-filter arc_of same_arc is_some_arc (λ row. get_or row.cost event 0)
      (λ row none. zero_number row.cost (no_numbers (not (row.calls == 0)) row.cost none) event) arc arcs
      ∙ stands.costs event arc;
}

-- which arcs are there
pub arc_keys_more : (arcs : List ArcRow) (new : ArcRow) (other : ArcKey)
    → has_arc other (add_arc arcs new) ≡ same_arc other new.arc || has_arc other arcs
arc_keys_more arcs new other = has_row-add_row arc_of same_arc same_arc_laws plus_arc (λ row one. refl) other arcs new

pub arcs_keys : (arcs news : List ArcRow) (other : ArcKey)
    → has_arc other (add_arcs arcs news) ≡ has_arc other arcs || has_arc other news
arcs_keys arcs news other = has_row-add_rows arc_of same_arc same_arc_laws plus_arc (λ row one. refl) other arcs news

pub cleared_keys : (arcs : List ArcRow) (other : ArcKey) → has_arc other (cleared_arcs arcs) ≡ has_arc other arcs
cleared_keys arcs other = has_row-keys arc_of same_arc (λ row. cost_of_arc row.arc no_cost) (λ row. refl) other arcs
