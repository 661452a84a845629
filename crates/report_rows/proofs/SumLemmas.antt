-- Sums over entries, and over those before one.
use Rattle.std.proofs.Common.{◌≡◌, ℕ, ◌+◌, ◌<◌, ◌≤◌, List, length, get_or, take, ap, sym, ◌∙◌, arith}
use Rattle.std.proofs.lemmas.List.{length-map, get_or-map}
use Rattle.std.proofs.lemmas.List.Sums.{sum_by_more_le}
use Rattle.std.proofs.lemmas.List.FromFn.{length-map-range_with_len, get_or-map-range_with_len}
use Rattle.std.proofs.lemmas.Grind.{same_number_lists}
use Rattle.report_rows.specs.Entries.{EntryValue, AreWithin, calls_of, cost_of, costs_of, entry_value, entry_values}
use Rattle.report_rows.specs.declared.entries.Entry.{Entry}
use Rattle.report_rows.proofs.ListLemmas.{sum_of_map}

pub calls_more_le : (es : List Entry) (i : ℕ) (e : Entry) → i < length es → e ≡ get_or es i e
    → calls_of (entry_values (take i es)) + e.calls ≤ calls_of (entry_values es)
calls_more_le es i e lt is =
    let f : Entry → ℕ = λ x. x.calls in
    let g : EntryValue → ℕ = λ k. k.calls in
    omega (arith, sum_of_map g entry_value (take i es), sum_of_map g entry_value es, sum_by_more_le f es i e lt, ap f is)

pub cost_more_le : (es : List Entry) (i : ℕ) (e : Entry) (k : ℕ) → i < length es → e ≡ get_or es i e
    → cost_of (entry_values (take i es)) k + get_or e.cost.now k 0 ≤ cost_of (entry_values es) k
cost_more_le es i e k lt is =
    let f : Entry → ℕ = λ x. get_or x.cost.now k 0 in
    let g : EntryValue → ℕ = λ x. get_or x.cost k 0 in
    omega (arith, sum_of_map g entry_value (take i es), sum_of_map g entry_value es, sum_by_more_le f es i e lt, ap f is)

pub width_at : (events : ℕ) (es : List Entry) (i : ℕ) (e : Entry) → AreWithin events (entry_values es) → i < length es
    → e ≡ get_or es i e → length e.cost.now ≡ events
width_at events es i e within lt is =
    let at = get_or-map entry_value es i e (entry_value e) lt in
    ap (λ x. length x.cost.now) is ∙ ap (λ x. length x.cost) (sym at)
    ∙ within.width i (entry_value e) (omega (arith, lt, length-map es entry_value))

-- numbers that are the sums at each event are the list of them
pub costs_from_places : (events : ℕ) (ks : List EntryValue) (xs : List ℕ) → length xs ≡ events
    → ((k : ℕ) → k < events → get_or xs k 0 ≡ cost_of ks k) → xs ≡ costs_of events ks
costs_from_places events ks xs size at =
    same_number_lists xs (costs_of events ks) (size ∙ sym (length-map-range_with_len (cost_of ks) 0 events))
    (λ k lt. at k (omega (arith, lt, size))
    ∙ sym (get_or-map-range_with_len (cost_of ks) 0 events k k 0 (omega (arith, lt, size)) (omega arith)))
