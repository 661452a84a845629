-- Sums over the rows that were counted so far.
use Rattle.std.specs.Prelude.{◌≡◌, ◌≢◌, ℕ, ◌+◌, ◌^◌, ◌<◌, ◌≤◌, List, [], length, map, slice_index, slice_index_or, Vec}
use Rattle.std.specs.declared.alloc.Global.{Global}
use Rattle.call_graph.specs.Groups.{Grouping, is_member}
use Rattle.call_graph.specs.declared.arc.CallArc.{CallArc}
use Rattle.cg_read.specs.Profiles.{Contents}
use Rattle.cg_read.specs.Totals.{column_sum}
use Rattle.cg_read.specs.declared.rows.CallRow.{CallRow}
use Rattle.cg_read.specs.declared.rows.SelfRow.{SelfRow}
use Rattle.cycles.specs.Costs.{leaving_cost, self_cost}
use Rattle.cycles.specs.Limits.{IsOver, pair_calls, pair_cost}
use Rattle.cycles.specs.inner.Pairs.{arc_at}
use Rattle.cycles.specs.declared.sums.Sums.{Sums}

-- the lists in vectors, and one of them
abbrev pub lists : List (Vec ℕ Global) → List (List ℕ)
lists rows = map (λ row. row.items) rows

abbrev pub list_at : List (Vec ℕ Global) → ℕ → List ℕ
list_at rows n = slice_index_or (lists rows) n []

-- A cost was added at the places below the limit, and at those below the new limit the sums are whole. Where the limit
-- fell, the sum there passes 2^64 - 1.
pub record IsAdded (old cost : List ℕ) (limit : ℕ) (new : List ℕ) (new_limit : ℕ) : Type 0 where
  pub size : length new ≡ length old
  pub less : new_limit ≤ limit
  pub exact : (k : ℕ) → k < new_limit → k < length old
      → (slice_index new k ≡ slice_index old k + slice_index cost k) × (slice_index old k + slice_index cost k < 2 ^ 64)
  pub too_large : new_limit < limit
      → (new_limit < length old) × (2 ^ 64 ≤ slice_index old new_limit + slice_index cost new_limit)

-- the same at a place of a table
pub record IsAddedAt (old : List (Vec ℕ Global)) (place : ℕ) (cost : List ℕ) (limit : ℕ) (new : List (Vec ℕ Global))
    (new_limit : ℕ) : Type 0 where
  pub size : length new ≡ length old
  pub here : IsAdded (list_at old place) cost limit (list_at new place) new_limit
  pub others : (q : ℕ) → q ≢ place → list_at new q ≡ list_at old q

-- below the limit each cell is the sum at its place, which is within 2^64 - 1
abbrev pub IsExact : ℕ → (ℕ → ℕ) → List ℕ → Type 0
IsExact limit sum cells = (k : ℕ) → k < limit → k < length cells → (slice_index cells k ≡ sum k) × (sum k < 2 ^ 64)

-- each list of a table has a sum for each event
abbrev pub HasWidth : ℕ → List (Vec ℕ Global) → Type 0
HasWidth events table = (n : ℕ) → n < length table → length (list_at table n) ≡ events

-- What the methods change

pub record AddsToTotals (old : Sums) (cost : List ℕ) (new : Sums) : Type 0 where
  pub totals : IsAdded old.totals.items cost old.limit new.totals.items new.limit
  pub groups : new.groups.items ≡ old.groups.items
  pub pairs : new.pairs.items ≡ old.pairs.items
  pub calls : new.calls.items ≡ old.calls.items

pub record AddsToGroup (old : Sums) (group : ℕ) (cost : List ℕ) (new : Sums) : Type 0 where
  pub totals : new.totals.items ≡ old.totals.items
  pub groups : IsAddedAt old.groups.items group cost old.limit new.groups.items new.limit
  pub pairs : new.pairs.items ≡ old.pairs.items
  pub calls : new.calls.items ≡ old.calls.items

pub record AddsToPair (old : Sums) (pair : ℕ) (cost : List ℕ) (new : Sums) : Type 0 where
  pub totals : new.totals.items ≡ old.totals.items
  pub groups : new.groups.items ≡ old.groups.items
  pub pairs : IsAddedAt old.pairs.items pair cost old.limit new.pairs.items new.limit
  pub calls : new.calls.items ≡ old.calls.items

-- calls were added, where the limit is past all events
pub record AddsCalls (old : Sums) (pair calls : ℕ) (new : Sums) : Type 0 where
  pub totals : new.totals.items ≡ old.totals.items
  pub groups : new.groups.items ≡ old.groups.items
  pub pairs : new.pairs.items ≡ old.pairs.items
  pub size : length new.calls.items ≡ length old.calls.items
  pub others : (q : ℕ) → q ≢ pair → slice_index new.calls.items q ≡ slice_index old.calls.items q
  pub less : new.limit ≤ old.limit
  pub exact : length old.totals.items < new.limit
      → (slice_index new.calls.items pair ≡ slice_index old.calls.items pair + calls)
      × (slice_index old.calls.items pair + calls < 2 ^ 64)
  pub too_large : new.limit < old.limit
      → (new.limit ≡ length old.totals.items) × (2 ^ 64 ≤ slice_index old.calls.items pair + calls)

-- What holds of the sums

-- the shape of the sums for so many events, groups and pairs
pub record HasShape (events groups_of pairs_of : ℕ) (sums : Sums) : Type 0 where
  pub totals : length sums.totals.items ≡ events
  pub group_count : length sums.groups.items ≡ groups_of
  pub groups : HasWidth events sums.groups.items
  pub pair_count : length sums.pairs.items ≡ pairs_of
  pub pairs : HasWidth events sums.pairs.items
  pub calls : length sums.calls.items ≡ pairs_of

-- the shape that they have for a profile with these groups, whatever its pairs
abbrev pub HasShapeFor : Contents → Grouping → Sums → Type 0
HasShapeFor p groups sums = HasShape (length p.events) (length groups.cyclic) (length sums.pairs.items) sums

-- The sums are these at each position below the limit. Where the limit isn't past all positions, a sum of the profile
-- passes 2^64 - 1 there.
pub record Holds (p : Contents) (group_count pair_count : ℕ) (total : ℕ → ℕ) (group pair : ℕ → ℕ → ℕ) (call : ℕ → ℕ)
    (sums : Sums) : Type 0 where
  pub shape : HasShape (length p.events) group_count pair_count sums
  pub last : sums.limit ≤ length p.events + 1
  pub too_large : sums.limit ≤ length p.events → IsOver p sums.limit
  pub totals : IsExact sums.limit total sums.totals.items
  pub groups : (g : ℕ) → g < group_count → IsExact sums.limit (group g) (list_at sums.groups.items g)
  pub pairs : (n : ℕ) → n < pair_count → IsExact sums.limit (pair n) (list_at sums.pairs.items n)
  pub calls : (n : ℕ) → n < pair_count → length p.events < sums.limit
      → (slice_index sums.calls.items n ≡ call n) × (call n < 2 ^ 64)

abbrev pub group_sum : Grouping → List SelfRow → List CallRow → ℕ → ℕ → ℕ
group_sum groups selfs calls g event =
    self_cost (is_member groups g) selfs event + leaving_cost (is_member groups g) calls event

abbrev pub pair_sum : List CallArc → List CallRow → ℕ → ℕ → ℕ
pair_sum arcs calls n event = pair_cost (arc_at arcs n).caller (arc_at arcs n).callee calls event

abbrev pub call_sum : List CallArc → List CallRow → ℕ → ℕ
call_sum arcs calls n = pair_calls (arc_at arcs n).caller (arc_at arcs n).callee calls

-- the sums are those over these rows
abbrev pub Counts : Contents → Grouping → List CallArc → List SelfRow → List CallRow → Sums → Type 0
Counts p groups arcs selfs calls sums =
    Holds p (length groups.cyclic) (length arcs) (column_sum selfs) (group_sum groups selfs calls) (pair_sum arcs calls)
    (call_sum arcs calls) sums
