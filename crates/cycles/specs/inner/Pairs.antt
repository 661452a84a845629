-- Call rows by their pairs of caller and callee.
use Rattle.std.specs.Prelude.{◌≡◌, ℕ, ◌<◌, List, length, slice_index, slice_index_or, Some}
use Rattle.std.specs.BTreeMap.{BTreeMap, get}
use Rattle.std.specs.Ordering.{nat_cmp, ordering_then}
use Rattle.std.specs.declared.cmp.Ordering.{Ordering}
use Rattle.call_graph.specs.declared.arc.CallArc.{CallArc}
use Rattle.cg_read.specs.declared.rows.CallRow.{CallRow}
use Rattle.cycles.specs.Costs.{arc_of}

abbrev pub arc_at : List CallArc → ℕ → CallArc
arc_at arcs n = slice_index_or arcs n (record { caller = 0; callee = 0 })

-- each row has the number of its pair, and no two pairs are the same
pub record IsPairs (rows : List CallRow) (arcs : List CallArc) (numbers : List ℕ) : Type 0 where
  pub count : length numbers ≡ length rows
  pub within : (i : ℕ) → i < length rows → slice_index numbers i < length arcs
  pub each : (i : ℕ) (d : CallRow) → i < length rows
      → arc_at arcs (slice_index numbers i) ≡ arc_of (slice_index_or rows i d)
  pub apart : (m n : ℕ) → m < length arcs → n < length arcs → arc_at arcs m ≡ arc_at arcs n → m ≡ n

-- the caller and the callee, and the order of such pairs
abbrev pub ends : CallArc → ℕ × ℕ
ends arc = (arc.caller, arc.callee)

abbrev pub ends_order : ℕ × ℕ → ℕ × ℕ → Ordering
ends_order x y = ordering_then (nat_cmp x.0 y.0) (nat_cmp x.1 y.1)

-- each arc is found by its ends, and nothing else is found
pub record AreFound (arcs : List CallArc) (places : BTreeMap (ℕ × ℕ) ℕ) : Type 0 where
  pub there : (n : ℕ) (arc : CallArc) → get ends_order places (ends arc) ≡ Some n
      → (n < length arcs) × (arc_at arcs n ≡ arc)
  pub found : (n : ℕ) → n < length arcs → get ends_order places (ends (arc_at arcs n)) ≡ Some n

-- what was there stays in its place
abbrev pub Keeps : List CallArc → List CallArc → Type 0
Keeps old new = (n : ℕ) → n < length old → (n < length new) × (arc_at new n ≡ arc_at old n)
