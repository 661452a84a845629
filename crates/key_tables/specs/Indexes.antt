-- The keys of a list that an index finds.
use Rattle.std.specs.Prelude.{◌≡◌, ◌≤◌, ℕ, length, take, List, Some, slice_get}
use Rattle.std.specs.BTreeMap.{BTreeMap, get}
use Rattle.std.specs.declared.cmp.Ordering.{Ordering}
use Rattle.key_tables.specs.declared.index.Index.{Index}

-- each key is found by its number, and nothing else is found
pub record AreFound {K : Type 0} (cmp : K → K → Ordering) (keys : List K) (numbers : BTreeMap K ℕ) : Type 0 where
  pub found : (n : ℕ) (key : K) → slice_get keys n ≡ Some key → get cmp numbers key ≡ Some n
  pub there : (n : ℕ) (key : K) → get cmp numbers key ≡ Some n → slice_get keys n ≡ Some key

-- an index finds the first keys of a list, as many as it knows
pub record Knows {K : Type 0} (cmp : K → K → Ordering) (keys : List K) (index : Index K) : Type 0 where
  pub within : index.count ≤ length keys
  pub found : AreFound cmp (take index.count keys) index.places
