-- Where a pass over the functions stands, and what holds at each moment.
use Rattle.std.specs.Prelude.{◌≡◌, ◌≢◌, ◌⊎◌, ◌↔◌, ℕ, ◌<◌, ◌≤◌, ◌+◌, ◌-◌, ◌==◌, if◌then◌else◌, All, List, [], ◌∷◌, ◌++◌}
use Rattle.std.specs.Prelude.{length, map, take, drop, replicate, slice_index, slice_index_or, slice_set, Option, Some}
use Rattle.std.specs.Prelude.{None}
use Rattle.call_graph.specs.Reach.{Reach, SameGroup}
use Rattle.call_graph.specs.Groups.{IsNumbering}
use Rattle.call_graph.specs.inner.Rows.{Calls, StayWithin}
use Rattle.call_graph.specs.declared.visit_state.Mark.{Mark}
use Rattle.call_graph.specs.declared.visit_state.VisitState.{VisitState}
use Rattle.call_graph.specs.declared.visit_state.VisitState.TheVariants.{New, Open, Closed}
use Rattle.call_graph.specs.declared.pass.Pass.{Pass}

-- A function's rank only grows: 0 where it wasn't met, then its place on the path and one, then more than any place.
abbrev pub rank_of : ℕ → VisitState → ℕ
rank_of n New = 0
rank_of n (Open place) = place + 1
rank_of n (Closed group) = n + 1 + group

abbrev pub ranks : List VisitState → List ℕ
ranks states = map (rank_of (length states)) states

abbrev pub mark : ℕ → ℕ → Mark
mark start height = record { start = start; height = height }

abbrev pub start : List Mark → ℕ → ℕ
start marks k = (slice_index_or marks k (mark 0 0)).start

abbrev pub height : List Mark → ℕ → ℕ
height marks k = (slice_index_or marks k (mark 0 0)).height

-- an open function's place is below n
abbrev pub IsFair : ℕ → VisitState → Type 0
IsFair n New = Unit {0}
IsFair n (Open place) = place < n
IsFair n (Closed group) = Unit {0}

abbrev pub KeepsFair : List VisitState → List VisitState → Type 0
KeepsFair old new = (n : ℕ) → All (IsFair n) old → All (IsFair n) new

-- What the functions do

-- a function was put on the path, and its callees on the list of work
pub record IsEntered (old : Pass) (callees : List ℕ) (function : ℕ) (new : Pass) : Type 0 where
  pub states : new.states.items ≡ slice_set old.states.items function (Open (length old.path.items))
  pub path : new.path.items ≡ old.path.items ++ function ∷ []
  pub marks : new.marks.items ≡ old.marks.items ++ mark (length old.path.items) (length old.work.items) ∷ []
  pub work : new.work.items ≡ old.work.items ++ callees
  pub count : new.count ≡ old.count

-- the marks that start at the rank or above are dropped from the end, as far as they go
pub record IsCut (old : List Mark) (rank : ℕ) (new : List Mark) : Type 0 where
  pub few : length new ≤ length old
  pub front : new ≡ take (length new) old
  pub dropped : (k : ℕ) → length new ≤ k → k < length old → rank ≤ start old k
  pub last : 0 < length new → start old (length new - 1) < rank

-- the weights of the functions that weren't met, together
abbrev pub unmet_weight : List ℕ → List ℕ → ℕ
unmet_weight [] rank = 0
unmet_weight (w ∷ ws) [] = 0
unmet_weight (w ∷ ws) (r ∷ rank) = (if r == 0 then w else 0) + unmet_weight ws rank

-- these functions, which were met before, have this rank now, and the others theirs
pub record IsRanked (old : List ℕ) (functions : List ℕ) (rank : ℕ) (new : List ℕ) : Type 0 where
  pub size : length new ≡ length old
  pub have_rank : (p : ℕ) → p < length functions → slice_index new (slice_index functions p) ≡ rank
  pub others : (g : ℕ) → ((p : ℕ) → p < length functions → slice_index functions p ≢ g)
      → slice_index new g ≡ slice_index old g
  pub weights : (ws : List ℕ) → unmet_weight ws new ≡ unmet_weight ws old

-- the functions of the path from the start on are the group with the next number
pub record IsShut (old : Pass) (start : ℕ) (new : Pass) : Type 0 where
  pub ranked : IsRanked (ranks old.states.items) (drop start old.path.items) (length old.states.items + 1 + old.count)
      (ranks new.states.items)
  pub fair : KeepsFair old.states.items new.states.items
  pub path : new.path.items ≡ take start old.path.items
  pub marks : new.marks.items ≡ take (length old.marks.items - 1) old.marks.items
  pub work : new.work.items ≡ old.work.items
  pub count : new.count ≡ old.count + 1

-- What holds at each moment

-- a mark starts here
abbrev pub IsStart : List Mark → ℕ → Type 0
IsStart marks q = (k : ℕ) × (k < length marks) × (start marks k ≡ q)

-- g waits in the list of work, at this height or above
abbrev pub Waits : List ℕ → ℕ → ℕ → Type 0
Waits work height g = (j : ℕ) × (height ≤ j) × (j < length work) × (slice_index work j ≡ g)

-- g is the function that was taken from the list of work and wasn't looked at yet
abbrev pub IsTaken : Option ℕ → ℕ → Type 0
IsTaken None g = ⊥
IsTaken (Some f) g = g ≡ f

abbrev pub Leads : (ℕ → ℕ → Type 0) → ℕ → ℕ → Type 0
Leads Step f g = (f ≡ g) ⊎ Reach Step f g

-- What the functions from the mark's start on call stands at a place of the path after the start, or in a group, or
-- still waits; and all that waits from the mark's height on is reached from the start.
pub record IsMark (Step : ℕ → ℕ → Type 0) (taken : Option ℕ) (rank path work : List ℕ) (start height : ℕ) : Type 0 where
  pub start_in : start < length path
  pub height_in : height ≤ length work
  pub gone : (p g : ℕ) → start ≤ p → p < length path → Step (slice_index path p) g
      → (start < slice_index rank g) ⊎ (Waits work height g ⊎ IsTaken taken g)
  pub waits : (j : ℕ) → height ≤ j → j < length work → Reach Step (slice_index path start) (slice_index work j)

pub record IsPass (n : ℕ) (Step : ℕ → ℕ → Type 0) (taken : Option ℕ) (rank path work : List ℕ) (marks : List Mark)
    (count : ℕ) : Type 0 where
  pub size : length rank ≡ n
  pub room : count + length path + unmet_weight (replicate n 1) rank ≤ n
  -- ranks and path say the same
  pub placed : (p : ℕ) → p < length path → slice_index rank (slice_index path p) ≡ p + 1
  pub found : (g : ℕ) → 0 < slice_index rank g → slice_index rank g ≤ n
      → (slice_index rank g ≤ length path) × (slice_index path (slice_index rank g - 1) ≡ g)
  -- the path leads on, and back up to the next start of a mark
  pub forth : (p q : ℕ) → p ≤ q → q < length path → Leads Step (slice_index path p) (slice_index path q)
  pub back : (q : ℕ) → q < length path
      → IsStart marks q ⊎ ((0 < q) × Leads Step (slice_index path q) (slice_index path (q - 1)))
  pub marked : (k : ℕ) → k < length marks → IsMark Step taken rank path work (start marks k) (height marks k)
  pub rising : (j k : ℕ) → j < k → k < length marks
      → (start marks j < start marks k) × (height marks j ≤ height marks k)
  -- the groups that are finished
  pub closed : (f g : ℕ) → n < slice_index rank f → Step f g → n < slice_index rank g
  pub same : (f g : ℕ) → n < slice_index rank f → n < slice_index rank g
      → (slice_index rank f ≡ slice_index rank g) ↔ SameGroup Step f g
  pub below : (f : ℕ) → slice_index rank f ≤ n + count
  pub used : (c : ℕ) → c < count → (f : ℕ) × (slice_index rank f ≡ n + 1 + c)

-- the pass stands so, with a function taken from the list of work or none
pub record Stands (rows : List (List ℕ)) (taken : Option ℕ) (pass : Pass) : Type 0 where
  pub holds : IsPass (length rows) (Calls rows) taken (ranks pass.states.items) pass.path.items pass.work.items
      pass.marks.items pass.count
  pub fair : All (IsFair (length rows)) pass.states.items

-- what was met stays met
abbrev pub Keeps : Pass → Pass → Type 0
Keeps old new = (g : ℕ) → 0 < slice_index (ranks old.states.items) g → 0 < slice_index (ranks new.states.items) g

-- what is left to do
abbrev pub remaining : List (List ℕ) → Pass → ℕ
remaining rows pass =
    unmet_weight (map (λ row. length row + 1) rows) (ranks pass.states.items) + length pass.work.items + length pass.marks.items

-- a function was taken from the list of work, and can be looked at
pub record CanLook (rows : List (List ℕ)) (pass : Pass) (function : ℕ) : Type 0 where
  pub stands : Stands rows (Some function) pass
  pub stay : StayWithin rows
  pub within : function < length rows
  pub leads : (q : ℕ) → q < length pass.path.items → Leads (Calls rows) (slice_index pass.path.items q) function

-- a step can be taken with this mark: it is the last
pub record CanStep (rows : List (List ℕ)) (pass : Pass) (last : Mark) : Type 0 where
  pub stands : Stands rows None pass
  pub stay : StayWithin rows
  pub some : 0 < length pass.marks.items
  pub is_last : slice_index_or pass.marks.items (length pass.marks.items - 1) (mark 0 0) ≡ last

-- after a step or more: the pass stands, and what was met stays so
pub record IsLater (rows : List (List ℕ)) (old new : Pass) : Type 0 where
  pub stands : Stands rows None new
  pub met : Keeps old new

-- the function's group is finished
abbrev pub IsClosed : VisitState → Type 0
IsClosed New = ⊥
IsClosed (Open place) = ⊥
IsClosed (Closed group) = Unit {0}

abbrev pub group_in : VisitState → ℕ
group_in New = 0
group_in (Open place) = 0
group_in (Closed group) = group

-- every function is in its group
pub record IsFinished (rows : List (List ℕ)) (pass : Pass) : Type 0 where
  pub closed : All IsClosed pass.states.items
  pub numbered : IsNumbering (length rows) (Calls rows) (map group_in pass.states.items) pass.count
