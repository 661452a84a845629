-- What the parts of a report stand on.
use Rattle.std.proofs.Common.{◌≡◌, ℕ, suc, ◌+◌, ◌<◌, Bool, true, false, cond, List, [], ◌∷◌, ◌++◌, length, get_or, map}
use Rattle.std.proofs.Common.{Vec, All, ap, sym, subst, ◌∙◌, arith, zero-add}
use Rattle.std.specs.Prelude.{not}
use Rattle.std.specs.List.{filter, position_or_len, range_with_len}
use Rattle.std.specs.List.Sorted.{IsPermutation}
use Rattle.std.specs.Ordering.{is_lt, nat_cmp, ordering_then}
use Rattle.std.specs.declared.alloc.Global.{Global}
use Rattle.std.proofs.lemmas.List.{get_or_default, length-map}
use Rattle.std.proofs.lemmas.List.Elements.{All-filter}
use Rattle.std.proofs.lemmas.List.FromFn.{get_or-map-range_with_len}
use Rattle.call_graph.specs.Groups.{Grouping}
use Rattle.cg_read.specs.Profiles.{Contents}
use Rattle.cg_read.specs.Totals.{total}
use Rattle.report_rows.specs.Orders.{IsArranged, cost_at, group_order, in_group, is_shown, least, members, numbers}
use Rattle.report_rows.specs.Ranks.{ArePlaces, AreShown, first_place, is_enough, least_at, rank_order}
use Rattle.report_rows.specs.Tables.{AreLists, lists}
use Rattle.report_rows.specs.declared.options.ReportOptions.{ReportOptions}
use Rattle.report_rows.proofs.ListLemmas.{four_pieces}
use Rattle.report_rows.proofs.OrderLemmas.{all_below}

pub members_below : (n count : ℕ) (groups : Grouping) (order : List ℕ) (rows : List (Vec ℕ Global))
    → IsPermutation (numbers n) order → AreLists count (members groups order) rows
    → All (λ fs. All (λ f. f < n) fs) (lists rows)
members_below n count groups order rows same stands k d lt =
    let size = length-map rows (λ (r : Vec ℕ Global). r.items) in
    let at : get_or (lists rows) k d ≡ members groups order k =
    sym (get_or_default (lists rows) k [] d lt) ∙ stands.exact k (omega (arith, lt, size, stands.size)) in
    subst (All (λ f. f < n)) (sym at) (All-filter (in_group groups k) (λ f. f < n) order (all_below n order same))

pub shown_below : (costs : List (List ℕ)) (options : ReportOptions) (total : ℕ) (ms : List (List ℕ))
    (places shown : List ℕ) → AreShown costs options total ms places shown → All (λ c. c < length costs) shown
shown_below costs options total ms places shown is =
    subst (All (λ c. c < length costs)) (sym is.exact)
    (All-filter (is_enough costs options total) (λ c. c < length costs) is.ranked
    (all_below (length costs) is.ranked is.arranged.same))

-- The order of groups

first_cases : (b : Bool) (places : List ℕ) (k f : ℕ) (passing : List ℕ) (n : ℕ) → get_or places f 0 ≡ k
    → first_place places passing ≡ (k + 1) + n
    → first_place places (cond b (f ∷ passing) passing) ≡ k + cond (not b) (1 + n) 0
first_cases true places k f passing n here later = omega (arith, here)
first_cases false places k f passing n here later = omega (arith, later)

first_from : (p : ℕ → Bool) (places : List ℕ) (k : ℕ) (fs : List ℕ) → length places ≡ k + length fs
    → ((i : ℕ) → i < length fs → get_or places (get_or fs i 0) 0 ≡ k + i)
    → first_place places (filter p fs) ≡ k + position_or_len p fs
first_from p places k [] size at = size
first_from p places k (f ∷ fs) size at =
    let here : get_or places f 0 ≡ k = at 0 (omega arith) ∙ omega arith in
    first_cases (p f) places k f (filter p fs) (position_or_len p fs) here
    (first_from p places (k + 1) fs (omega (arith, size))
    (λ i lt. let step : k + suc i ≡ (k + 1) + i = omega arith in at (suc i) (omega (arith, lt)) ∙ step))

-- the place of the first function that passes
first_passing : (p : ℕ → Bool) (order places : List ℕ) → ArePlaces order places
    → first_place places (filter p order) ≡ position_or_len p order
first_passing p order places stands =
    first_from p places 0 order (omega (arith, stands.size)) (λ i lt. omega (arith, stands.exact i lt))
    ∙ zero-add (position_or_len p order)

module _ (groups : Grouping) (costs : List (List ℕ)) (order places : List ℕ) (rows : List (Vec ℕ Global)) (count : ℕ)
    (places_stand : ArePlaces order places) (rows_stand : AreLists count (members groups order) rows) where
  least_is : (c : ℕ) → c < count → least_at (lists rows) places c ≡ least groups order c
  least_is c lt = ap (first_place places) (rows_stand.exact c lt)
      ∙ first_passing (in_group groups c) order places places_stand

  order_is : (sort c d : ℕ) → c < count → d < count
      → group_order groups order costs sort c d ≡ rank_order costs sort (lists rows) places c d
  order_is sort c d small below =
      let by_cost = nat_cmp (cost_at costs sort d) (cost_at costs sort c) in
      ap (λ n. ordering_then by_cost (nat_cmp n (least groups order d))) (sym (least_is c small))
      ∙ ap (λ n. ordering_then by_cost (nat_cmp (least_at (lists rows) places c) n)) (sym (least_is d below))

  pub falling_there : (options : ReportOptions) (total : ℕ) (shown : List ℕ) → length costs ≡ count
      → (is : AreShown costs options total (lists rows) places shown)
      → IsArranged (group_order groups order costs options.sort) (numbers count) is.ranked
  falling_there options total shown same is = record {
    same = subst (λ n. IsPermutation (numbers n) is.ranked) same is.arranged.same;
    sorted = λ k d from lt.
        let below = all_below (length costs) is.ranked is.arranged.same in
        let after : get_or is.ranked (k + 1) d < count = omega (arith, below (k + 1) d lt, same) in
        let before : get_or is.ranked k d < count = omega (arith, below k d (omega (arith, lt)), same) in
        ap is_lt (order_is options.sort (get_or is.ranked (k + 1) d) (get_or is.ranked k d) after before)
        ∙ is.arranged.sorted k d from lt;
  }

-- the total of an event, where it was read
pub total_read : (p : Contents) (totals : List ℕ) (sort t : ℕ) → sort < length p.events
    → totals ≡ map (total p) (range_with_len 0 (length p.events)) → t ≡ get_or totals sort t → t ≡ total p sort
total_read p totals sort t lt is read =
    read ∙ ap (λ ts. get_or ts sort t) is
    ∙ get_or-map-range_with_len (total p) 0 (length p.events) sort sort t lt (zero-add sort)

pub shown_there : (p : Contents) (costs : List (List ℕ)) (options : ReportOptions) (t : ℕ) (ms : List (List ℕ))
    (places shown : List ℕ) → t ≡ total p options.sort → (is : AreShown costs options t ms places shown)
    → shown ≡ filter (is_shown p costs options) is.ranked
shown_there p costs options t ms places shown same is =
    is.exact ∙ ap (λ n. filter (is_enough costs options n) is.ranked) same

pub four_parts : (t0 t1 t2 t3 t4 a b c d : List ℕ) → t0 ≡ [] → t1 ≡ t0 ++ a → t2 ≡ t1 ++ b → t3 ≡ t2 ++ c
    → t4 ≡ t3 ++ d → t4 ≡ a ++ b ++ c ++ d
four_parts t0 t1 t2 t3 t4 a b c d start e1 e2 e3 e4 =
    four_pieces t0 t1 t2 t3 t4 a b c d e1 e2 e3 e4 ∙ ap (λ t. t ++ (a ++ b ++ c ++ d)) start
