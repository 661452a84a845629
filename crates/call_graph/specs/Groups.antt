-- The groups of functions, by number.
use Rattle.std.specs.Prelude.{◌≡◌, ◌≢◌, ◌⊎◌, ◌↔◌, ℕ, ◌<◌, ◌==◌, nat_lt, Bool, ◌&&◌, true, false, List, length}
use Rattle.std.specs.Prelude.{slice_index, slice_index_or}
use Rattle.call_graph.specs.Reach.{Steps, SameGroup}
use Rattle.call_graph.specs.declared.arc.CallArc.{CallArc}

-- the group of each function, and of each group whether it is a cycle
pub record Grouping : Type 0 where
  pub number : List ℕ
  pub cyclic : List Bool

abbrev pub grouping : List ℕ → List Bool → Grouping
grouping number cyclic = record { number = number; cyclic = cyclic }

-- an arc's functions are among the first n
pub record IsWithin (n : ℕ) (arc : CallArc) : Type 0 where
  pub caller : arc.caller < n
  pub callee : arc.callee < n

-- Each of n functions has the number of its group, and each number below count is that of a group.
pub record IsNumbering (n : ℕ) (Step : ℕ → ℕ → Type 0) (number : List ℕ) (count : ℕ) : Type 0 where
  pub size : length number ≡ n
  pub same : (f g : ℕ) → f < n → g < n → (slice_index number f ≡ slice_index number g) ↔ SameGroup Step f g
  pub below : (f : ℕ) → f < n → slice_index number f < count
  pub used : (c : ℕ) → c < count → (f : ℕ) × (f < n) × (slice_index number f ≡ c)

-- f is of group c
abbrev pub IsMember : List ℕ → ℕ → ℕ → Type 0
IsMember number c f = (f < length number) × (slice_index number f ≡ c)

-- the test of a group's functions
abbrev pub is_member : Grouping → ℕ → ℕ → Bool
is_member groups group func = nat_lt func (length groups.number) && slice_index groups.number func == group

-- a cycle is a group of two functions or more, or of one that calls itself
abbrev pub IsCycle : (ℕ → ℕ → Type 0) → List ℕ → ℕ → Type 0
IsCycle Step number c =
    ((f : ℕ) × (g : ℕ) × (f ≢ g) × IsMember number c f × IsMember number c g)
    ⊎ ((f : ℕ) × IsMember number c f × Step f f)

-- the test of each group below the length says whether it is a cycle
pub record TellCycles (Step : ℕ → ℕ → Type 0) (number : List ℕ) (cyclic : List Bool) : Type 0 where
  pub exact : (c : ℕ) → c < length cyclic → (slice_index_or cyclic c false ≡ true) ↔ IsCycle Step number c

-- the groups of n functions over these arcs, in any order, and which of them are cycles
pub record IsGrouping (n : ℕ) (arcs : List CallArc) (groups : Grouping) : Type 0 where
  pub numbered : IsNumbering n (Steps arcs) groups.number (length groups.cyclic)
  pub cycles : TellCycles (Steps arcs) groups.number groups.cyclic
