-- Arcs as a list of callees for each caller.
use Rattle.std.specs.Prelude.{◌≡◌, ◌↔◌, ℕ, ◌<◌, List, [], length, map, slice_index_or, Contains, Vec}
use Rattle.std.specs.declared.alloc.Global.{Global}
use Rattle.call_graph.specs.Reach.{Steps}
use Rattle.call_graph.specs.declared.arc.CallArc.{CallArc}

-- the lists in vectors
abbrev pub lists : List (Vec ℕ Global) → List (List ℕ)
lists rows = map (λ row. row.items) rows

-- g is among the callees of f
abbrev pub Calls : List (List ℕ) → ℕ → ℕ → Type 0
Calls rows f g = Contains (slice_index_or rows f []) g

-- each callee is a caller's number
abbrev pub StayWithin : List (List ℕ) → Type 0
StayWithin rows = (f g : ℕ) → Calls rows f g → g < length rows

-- the rows say what the arcs say
pub record IsRows (n : ℕ) (arcs : List CallArc) (rows : List (List ℕ)) : Type 0 where
  pub size : length rows ≡ n
  pub exact : (f g : ℕ) → Calls rows f g ↔ Steps arcs f g
