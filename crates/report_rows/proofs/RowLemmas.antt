-- Sums over the self rows of a list.
use Rattle.std.proofs.Common.{◌≡◌, ℕ, ◌+◌, ◌≤◌, ◌==◌, Bool, true, false, cond, List, [], ◌∷◌, length, get_or, map}
use Rattle.std.proofs.Common.{All, refl, ap, sym, subst, ◌∙◌, arith, sum_by, Vec}
use Rattle.std.specs.List.{filter}
use Rattle.std.specs.declared.alloc.Global.{Global}
use Rattle.std.proofs.lemmas.List.{get_or-map}
use Rattle.std.proofs.lemmas.List.Elements.{All-filter, All-map}
use Rattle.std.proofs.lemmas.List.Sums.{sum_by-cons}
use Rattle.cg_read.specs.Profiles.{Contents, IsProfile}
use Rattle.cg_read.specs.Totals.{total}
use Rattle.cg_read.specs.declared.rows.SelfRow.{SelfRow}
use Rattle.cycles.specs.Limits.{AreAllWithin, of_total}
use Rattle.report_rows.specs.Lists.{each_event}
use Rattle.report_rows.specs.Orders.{numbers}
use Rattle.report_rows.specs.Entries.{HaveValues, AreWithin, EntryValue, cost_of, costs_of, list_of, of_list, entry_values}
use Rattle.report_rows.specs.Entries.{self_entry}
use Rattle.report_rows.specs.declared.entries.By.{By}
use Rattle.report_rows.specs.declared.entries.Entry.{Entry}
use Rattle.report_rows.proofs.ListLemmas.{map_agree, sum_of_filter, sum_of_map}

pub no_sum : {X : Type 0} (xs : List X) → sum_by (λ x. 0) xs ≡ 0
no_sum [] = refl
no_sum (x ∷ xs) = sum_by-cons (λ y. 0) x xs ∙ zero_more (sum_by (λ y. 0) xs) (no_sum xs)
  where
    zero_more : (n : ℕ) → n ≡ 0 → 0 + n ≡ 0
    zero_more n e = omega arith

cond_le : (b : Bool) (x : ℕ) → cond b x 0 ≤ x
cond_le true x = omega arith
cond_le false x = omega arith

pub sum_part : {X : Type 0} (p : X → Bool) (f : X → ℕ) (xs : List X) → sum_by (λ x. cond (p x) (f x) 0) xs ≤ sum_by f xs
sum_part p f [] = omega arith
sum_part p f (x ∷ xs) =
    let g = cond_le (p x) (f x) in
    let rest = sum_part p f xs in
    omega (arith, g, rest, sum_by-cons (λ y. cond (p y) (f y) 0) x xs, sum_by-cons f x xs)

module _ (p : Contents) (profile : IsProfile p) (within : AreAllWithin p) (by : By) where
  abbrev entry : SelfRow → EntryValue
  entry = self_entry by

  abbrev all : List EntryValue
  all = map entry p.self_rows

  wide : All (λ k. length k.cost ≡ length p.events) all
  wide = All-map (λ k. length k.cost ≡ length p.events) entry p.self_rows
      (λ i d lt. (profile.self_rows_fit i d lt).cost)

  -- all rows together
  pub total_there : (event : ℕ) → cost_of all event ≡ total p event
  total_there event = sum_of_map (λ k. get_or k.cost event 0) entry p.self_rows

  pub totals_there : costs_of (length p.events) all ≡ each_event p (total p)
  totals_there = map_agree (cost_of all) (total p) (numbers (length p.events))
      (λ k d lt. total_there (get_or (numbers (length p.events)) k d))

  pub all_within : AreWithin (length p.events) all
  all_within = record {
    width = wide;
    cost = λ event lt. omega (arith, total_there event, within event _ (of_total event lt));
    calls = omega (arith, sum_of_map (λ k. k.calls) entry p.self_rows, no_sum p.self_rows);
  }

  -- the rows of a list
  pub cost_there : (n event : ℕ) → cost_of (filter (of_list n) all) event
      ≡ sum_by (λ row. cond (list_of by row == n) (get_or row.cost event 0) 0) p.self_rows
  cost_there n event =
      sum_of_filter (λ k. get_or k.cost event 0) (of_list n) all
      ∙ sum_of_map (λ k. cond (of_list n k) (get_or k.cost event 0) 0) entry p.self_rows

  pub list_within : (n : ℕ) → AreWithin (length p.events) (filter (of_list n) all)
  list_within n = record {
    width = All-filter (of_list n) (λ k. length k.cost ≡ length p.events) all wide;
    cost = λ event lt. omega (
      arith,
      cost_there n event,
      sum_part (λ row. list_of by row == n) (λ row. get_or row.cost event 0) p.self_rows,
      within event _ (of_total event lt),
    );
    calls = omega (
      arith,
      sum_of_filter (λ k. k.calls) (of_list n) all,
      sum_part (of_list n) (λ k. k.calls) all,
      sum_of_map (λ k. k.calls) entry p.self_rows,
      no_sum p.self_rows,
    );
  }

  -- lists that are all within
  pub lists_within : (count : ℕ) (rows : List (Vec Entry Global)) → HaveValues count (λ n. filter (of_list n) all) rows
      → All (λ entries. AreWithin (length p.events) (entry_values entries.items)) rows
  lists_within count rows stands i d lt =
      let at : entry_values (get_or rows i d).items ≡ filter (of_list i) all =
      ap entry_values (sym (get_or-map (λ (r : Vec Entry Global). r.items) rows i d [] lt))
      ∙ stands.exact i (omega (arith, lt, stands.size)) in
      subst (AreWithin (length p.events)) (sym at) (list_within i)
