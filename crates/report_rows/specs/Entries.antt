-- Entries: rows with the list that they belong to and their place in it.
use Rattle.std.specs.Prelude.{◌≡◌, ℕ, ◌^◌, ◌<◌, ◌==◌, Bool, List, [], ◌∷◌, length, map, filter, sum_by, slice_index}
use Rattle.std.specs.Prelude.{Option, None, Some, option_map, All, Vec, ⊤}
use Rattle.std.specs.declared.alloc.Global.{Global}
use Rattle.std.specs.BTreeMap as tree
use Rattle.std.specs.Ordering.{nat_cmp}
use Rattle.cg_read.specs.declared.rows.CallRow.{CallRow}
use Rattle.cg_read.specs.declared.rows.SelfRow.{SelfRow}
use Rattle.cycles.specs.Costs.{group_at}
use Rattle.report_rows.specs.Orders.{numbers}
use Rattle.report_rows.specs.Tables.{list_at}
use Rattle.report_rows.specs.declared.entries.By.{By}
use Rattle.report_rows.specs.declared.entries.By.TheVariants as by
use Rattle.report_rows.specs.declared.entries.End.{End}
use Rattle.report_rows.specs.declared.entries.End.TheVariants.{Caller, Callee}
use Rattle.report_rows.specs.declared.entries.Entry.{Entry}

-- what an entry says
pub record EntryValue : Type 0 where
  pub list : ℕ
  pub at : ℕ
  pub calls : ℕ
  pub cost : List ℕ

abbrev pub entry_value : Entry → EntryValue
entry_value e = record { list = e.list; at = e.at; calls = e.calls; cost = e.cost.now }

abbrev pub entry_values : List Entry → List EntryValue
entry_values entries = map entry_value entries

-- the list that a self row belongs to
abbrev pub list_of : By → SelfRow → ℕ
list_of by.All row = 0
list_of by.Function row = row.func
list_of (by.Group groups) row = group_at groups.now row.func
list_of by.File row = row.file

-- the group of the row's function is known, where it is asked for
abbrev pub has_list : By → SelfRow → Type 0
has_list by.All row = ⊤
has_list by.Function row = ⊤
has_list (by.Group groups) row = row.func < length groups.now.number
has_list by.File row = ⊤

abbrev pub self_entry : By → SelfRow → EntryValue
self_entry by row = record { list = list_of by row; at = row.line; calls = 0; cost = row.cost }

-- the function that lists a call row, and the other one
abbrev pub near_end : End → CallRow → ℕ
near_end Caller row = row.caller
near_end Callee row = row.callee

abbrev pub far_end : End → CallRow → ℕ
far_end Caller row = row.callee
far_end Callee row = row.caller

abbrev pub call_entry : List ℕ → End → CallRow → EntryValue
call_entry places end row = record {
  list = near_end end row;
  at = slice_index places (far_end end row);
  calls = row.calls;
  cost = row.cost;
}

abbrev pub of_list : ℕ → EntryValue → Bool
of_list n k = k.list == n

abbrev pub is_at : ℕ → EntryValue → Bool
is_at n k = k.at == n

-- Sums

abbrev pub calls_of : List EntryValue → ℕ
calls_of ks = sum_by (λ k. k.calls) ks

abbrev pub cost_of : List EntryValue → ℕ → ℕ
cost_of ks event = sum_by (λ k. slice_index k.cost event) ks

abbrev pub costs_of : ℕ → List EntryValue → List ℕ
costs_of events ks = map (cost_of ks) (numbers events)

-- each has a cost for each event, and no sum passes 2^64 - 1
pub record AreWithin (events : ℕ) (ks : List EntryValue) : Type 0 where
  pub width : All (λ k. length k.cost ≡ events) ks
  pub cost : (event : ℕ) → event < events → cost_of ks event < 2 ^ 64
  pub calls : calls_of ks < 2 ^ 64

-- Places

abbrev pub if_any : List EntryValue → Option (List EntryValue)
if_any [] = None
if_any (k ∷ ks) = Some (k ∷ ks)

-- a map from places to entries
abbrev pub Places : Type 0
Places = tree.BTreeMap ℕ (Vec Entry Global)

abbrev pub values_at : Places → ℕ → Option (List EntryValue)
values_at places n = option_map (λ entries. entry_values entries.items) (tree.get nat_cmp places n)

-- each place has its entries, where there are any
pub record AreAtPlaces (ks : List EntryValue) (places : Places) : Type 0 where
  pub exact : (n : ℕ) → values_at places n ≡ if_any (filter (is_at n) ks)
  pub ordered : tree.IsOrdered nat_cmp places

-- Lists

-- so many lists of entries, and each says what stands for its number
pub record HaveValues (count : ℕ) (expected : ℕ → List EntryValue) (rows : List (Vec Entry Global)) : Type 0 where
  pub size : length rows ≡ count
  pub exact : (n : ℕ) → n < count → entry_values (list_at rows n) ≡ expected n
