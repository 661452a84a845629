-- What the costs of places are as line rows.
use Rattle.std.proofs.Common.{◌≡◌, ◌+◌, ◌<◌, ◌^◌, ℕ, cond, not, ◌||◌, List, [], ◌∷◌, ◌++◌, map}
use Rattle.std.proofs.Common.{length, nat_lt, position, Some, None, suc}
use Rattle.std.proofs.Common.{filter, get_or, refl, sym, ap, ◌∙◌, arith, IsPermutation}
use Rattle.std.specs.Cmp.{IsEquivalence}
use Rattle.std.specs.List.{AllByRecursion, position_or_len}
use Rattle.std.specs.Map.{keys_of}
use Rattle.std.proofs.lemmas.Cmp.{and_equiv, nat_eq_equiv, on_equiv}
use Rattle.std.proofs.lemmas.List.Sorted.{sum_by-IsPermutation}
use Rattle.event_costs.specs.Costs.{event_kinds, IsWhole, no_cost, sum_of_costs}
use Rattle.event_costs.specs.Keys.{Place}
use Rattle.arc_costs.specs.Amounts.{add_amount, amount_at, clear_amounts, has_key, key_of}
use Rattle.arc_costs.specs.Contents.{cost_row}
use Rattle.arc_costs.specs.inner.Shape.{AllWhole}
use Rattle.arc_costs.specs.inner.Sums.{CanAddCost}
use Rattle.arc_costs.specs.Lines.{LinesStandFor, add_line, add_lines, cleared_lines, has_line, is_some_line, line}
use Rattle.arc_costs.specs.Lines.{line_index, line_sum, place_of, plus_line}
use Rattle.event_costs.specs.Order.{same_place}
use Rattle.arc_costs.specs.Rows.{LineRow}
use Rattle.arc_costs.proofs.FitLemmas.{fits_from_numbers, held_within}
use Rattle.arc_costs.specs.Rows.{sum_at}
use Rattle.arc_costs.proofs.RowLemmas.{Adds, has_row-add_row, has_row-add_rows, has_row-keys, has_row-map, map-add_row}
use Rattle.arc_costs.proofs.RowLemmas.{number_of_sum, share, sum_at-add_row, sum_at-append, sum_at-filter, sum_at-map}
use Rattle.arc_costs.proofs.RowLemmas.{sum_at_none, sum_at_one, zero_number, zero_replicate}

pub same_place_laws : IsEquivalence same_place
same_place_laws =
    and_equiv (on_equiv (λ (p : Place). p.func.0) nat_eq_equiv)
    (and_equiv (on_equiv (λ (p : Place). p.file.0) nat_eq_equiv) (on_equiv (λ (p : Place). p.line) nat_eq_equiv))

pub has_line_row : (place : Place) (es : List (Place × List ℕ))
    → has_line place (map cost_row es) ≡ has_key same_place place es
has_line_row place es = has_row-map cost_row key_of place_of same_place (λ e. refl) place es

line_sum_row : (event : ℕ) (place : Place) (es : List (Place × List ℕ))
    → line_sum event place (map cost_row es) ≡ sum_at key_of same_place (λ e. get_or e.1 event 0) place es
line_sum_row event place es =
    sum_at-map cost_row key_of place_of same_place (λ e. refl)
    (λ e. get_or e.1 event 0) (λ row. get_or row.cost event 0) (λ e. refl) place es

pub line_takes : (es : List (Place × List ℕ)) (place : Place) (cost : List ℕ)
    → ((event : ℕ) → line_sum event place (map cost_row es) + get_or cost event 0 < 2 ^ 64)
    → CanAddCost (amount_at same_place no_cost es place) cost
line_takes es place cost fits held =
    fits_from_numbers (amount_at same_place no_cost es place) cost
    (λ event.
    let sum = line_sum_row event place es in
    let zero = zero_replicate event_kinds event in
    let within = held_within same_place no_cost (λ c. get_or c event 0) zero place es in
    omega (arith, sum, within, fits event))

pub line_adds : (es : List (Place × List ℕ)) (place : Place) (cost : List ℕ)
    → map cost_row (add_amount same_place sum_of_costs es place cost) ≡ add_line (map cost_row es) (line place cost)
line_adds es place cost =
    map-add_row cost_row key_of place_of same_place (λ e. refl)
    (λ e new. (e.0, sum_of_costs e.1 new.1)) plus_line (λ e new. refl) es (place, cost)

each_adds : (es : List (Place × List ℕ)) (event : ℕ) (new : LineRow) → AllWhole IsWhole es → IsWhole new.cost
    → AllByRecursion (Adds place_of same_place same_place_laws plus_line (λ row. get_or row.cost event 0) new)
    (map cost_row es)
each_adds [] event new all one = tt
each_adds (e ∷ es) event new all one =
    ((refl, number_of_sum e.1 new.cost event (all.0 ∙ sym one)), each_adds es event new all.1 one)

-- an addition adds its cost at its place
pub line_added : (es : List (Place × List ℕ)) (place : Place) (cost : List ℕ) → AllWhole IsWhole es → IsWhole cost
    → (event : ℕ) (other : Place)
    → line_sum event other (map cost_row (add_amount same_place sum_of_costs es place cost))
    ≡ line_sum event other (map cost_row es) + line_sum event other (line place cost ∷ [])
line_added es place cost all one event other =
    let number : LineRow → ℕ = λ row. get_or row.cost event 0 in
    let new = line place cost in
    let sum = sum_at-add_row place_of same_place same_place_laws plus_line number new other (map cost_row es)
    (each_adds es event new all one) in
    let alone = sum_at_one place_of same_place number other new in
    ap (line_sum event other) (line_adds es place cost) ∙ omega (arith, sum, alone)

pub lines_stand : (lines now additions news : List LineRow)
    → ((event : ℕ) (place : Place) → line_sum event place now ≡ line_sum event place lines + line_sum event place news)
    → LinesStandFor lines additions → LinesStandFor now (additions ++ news)
lines_stand lines now additions news sums stands event place =
    let all = sum_at-append place_of same_place (λ row. get_or row.cost event 0) place additions news in
    omega (arith, all, sums event place, stands event place)

pub lines-cleared : (es : List (Place × List ℕ)) → map cost_row (clear_amounts no_cost es) ≡ cleared_lines (map cost_row es)
lines-cleared [] = refl
lines-cleared (e ∷ es) = ap (λ rows. line e.0 no_cost ∷ rows) (lines-cleared es)

each_zero : (event : ℕ) (rows : List LineRow) → AllByRecursion (λ row. get_or row.cost event 0 ≡ 0) (cleared_lines rows)
each_zero event [] = tt
each_zero event (row ∷ rows) = (zero_replicate event_kinds event, each_zero event rows)

pub none_stand : (rows : List LineRow) → LinesStandFor (cleared_lines rows) []
none_stand rows event place =
    sum_at_none place_of same_place (λ row. get_or row.cost event 0) place (cleared_lines rows) (each_zero event rows)

pub line_places : (es : List (Place × List ℕ)) → map place_of (map cost_row es) ≡ keys_of es
line_places [] = refl
line_places (e ∷ es) = ap (λ ks. e.0 ∷ ks) (line_places es)

-- the rows that are left stand for the same
pub sorted_stand : (lines sorted additions : List LineRow) → IsPermutation (filter is_some_line lines) sorted
    → LinesStandFor lines additions → LinesStandFor sorted additions
sorted_stand lines sorted additions order stands event place =
    sum_by-IsPermutation (share place_of same_place (λ row. get_or row.cost event 0) place)
    (filter is_some_line lines) sorted order
    ∙ sum_at-filter place_of same_place is_some_line (λ row. get_or row.cost event 0)
    (λ row none. zero_number row.cost none event) place lines
    ∙ stands event place

-- which places are there
pub line_keys : (lines : List LineRow) (new : LineRow) (other : Place)
    → has_line other (add_line lines new) ≡ same_place other new.place || has_line other lines
line_keys lines new other =
    has_row-add_row place_of same_place same_place_laws plus_line (λ row one. refl) other lines new

pub lines_keys : (lines news : List LineRow) (other : Place)
    → has_line other (add_lines lines news) ≡ has_line other lines || has_line other news
lines_keys lines news other =
    has_row-add_rows place_of same_place same_place_laws plus_line (λ row one. refl) other lines news

pub cleared_keys : (lines : List LineRow) (other : Place) → has_line other (cleared_lines lines) ≡ has_line other lines
cleared_keys lines other = has_row-keys place_of same_place (λ row. line row.place no_cost) (λ row. refl) other lines

-- where a row stands
place_front : (place : Place) (es : List (Place × List ℕ))
    → position_or_len (λ (r : LineRow). same_place place r.place) (map cost_row es)
    ≡ position_or_len (same_place place) (keys_of es)
place_front place [] = refl
place_front place (e ∷ es) = ap (λ n. cond (not (same_place place e.0)) (1 + n) 0) (place_front place es)

same_length : (es : List (Place × List ℕ)) → length (map cost_row es) ≡ length (keys_of es)
same_length [] = refl
same_length (e ∷ es) = ap suc (same_length es)

pub line_index_is : (place : Place) (es : List (Place × List ℕ))
    → line_index place (map cost_row es) ≡ position (same_place place) (keys_of es)
line_index_is place es =
    λ i. cond (nat_lt (place_front place es i) (same_length es i)) (Some (place_front place es i)) None
