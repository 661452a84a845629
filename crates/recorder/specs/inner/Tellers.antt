-- What a teller can be told, and what a telling does to it.
use Rattle.std.specs.Prelude.{◌≡◌, ℕ, ◌+◌, ◌<◌, ◌≤◌, ◌^◌, Bool, true, false, ◌||◌, ◌&&◌, List, [], ◌∷◌, Some, ⊤}
use Rattle.std.specs.List.{AllByRecursion}
use Rattle.event_costs.specs.Arcs.{Telling, Pushed, Closed}
use Rattle.event_costs.specs.Keys.{ArcKey}
use Rattle.event_costs.specs.declared.numbers.FuncId.{FuncId}
use Rattle.event_costs.specs.declared.outcome.Noted.{Noted}
use Rattle.arc_costs.specs.Arcs.{add_arcs, arc_sum, call_sum, has_arc}
use Rattle.arc_costs.specs.Contents.{Contents}
use Rattle.arc_costs.specs.Rows.{ArcRow}
use Rattle.event_costs.specs.declared.event.Event.{Event}
use Rattle.shadow_stack.specs.declared.frame.Frame.{Frame}
use Rattle.event_costs.specs.FuncSet.{is_among}
use Rattle.recorder.specs.Notes.{rows_of_tellings}
use Rattle.recorder.specs.declared.teller.Teller.{Teller}

-- how many arcs are pushed
abbrev pub count_pushes : List Telling → ℕ
count_pushes [] = 0
count_pushes (Pushed arc ∷ ts) = count_pushes ts + 1
count_pushes (Closed arc cost ∷ ts) = count_pushes ts

-- an arc that is closed is a key
abbrev pub IsKeyed : List ArcRow → Telling → Type 0
IsKeyed arcs (Pushed arc) = ⊤
IsKeyed arcs (Closed arc cost) = has_arc arc arcs ≡ true

-- The tables take these tellings: there is room for the arcs that are pushed, those that are closed are keys, and no
-- sum passes 64 bits.
pub record CanTell (rows : Contents) (ts : List Telling) : Type 0 where
  pub room : count_pushes ts ≤ rows.arc_room
  pub keyed : AllByRecursion (IsKeyed rows.arcs) ts
  pub costs : (kind : ℕ) (arc : ArcKey) → arc_sum kind arc rows.arcs + arc_sum kind arc (rows_of_tellings ts) < 2 ^ 64
  pub calls : (arc : ArcKey) → call_sum arc rows.arcs + call_sum arc (rows_of_tellings ts) < 2 ^ 64

-- The tables after these tellings.
pub record RowsAfterTellings (old : Contents) (ts : List Telling) (new : Contents) : Type 0 where
  pub arcs : new.arcs ≡ add_arcs old.arcs (rows_of_tellings ts)
  pub lines : new.lines ≡ old.lines
  pub costs : (kind : ℕ) (arc : ArcKey) → arc_sum kind arc new.arcs
      ≡ arc_sum kind arc old.arcs + arc_sum kind arc (rows_of_tellings ts)
  pub calls : (arc : ArcKey) → call_sum arc new.arcs ≡ call_sum arc old.arcs + call_sum arc (rows_of_tellings ts)
  pub keys : (arc : ArcKey) → has_arc arc new.arcs ≡ has_arc arc old.arcs || has_arc arc (rows_of_tellings ts)
  pub line_room : new.line_room ≡ old.line_room
  pub arc_room : old.arc_room ≤ new.arc_room + count_pushes ts

-- what is noted after a telling
abbrev pub noted_more : List FuncId → Noted → Telling → Noted
noted_more watched n (Pushed arc) = record n { pushed = Some arc.callee }
noted_more watched n (Closed arc cost) = record n { left = n.left || is_among watched arc.callee }

pub record Tells (old : Teller) (t : Telling) (new : Teller) : Type 0 where
  pub loan : new.rows.ghost_name ≡ old.rows.ghost_name
  pub rows : RowsAfterTellings old.rows.now (t ∷ []) new.rows.now
  pub watched : new.watched.now ≡ old.watched.now
  pub noted : new.noted ≡ noted_more old.watched.now old.noted t

-- the lowest frame's function is among these
abbrev pub is_among_last : List FuncId → List Frame → Bool
is_among_last funcs [] = false
is_among_last funcs (f ∷ []) = is_among funcs f.func
is_among_last funcs (f ∷ (g ∷ fs)) = is_among_last funcs (g ∷ fs)

-- the thread ends, and the function of its root is watched
abbrev pub root_leaves : List FuncId → Event → List Frame → Bool
root_leaves watched e frames = e.ends && is_among_last watched frames
