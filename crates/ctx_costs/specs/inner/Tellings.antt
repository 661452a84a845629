-- What is told to the sinks that count by numbers.
use Rattle.std.specs.Prelude.{◌≡◌, ℕ, ◌+◌, ◌<◌, ◌^◌, List, [], ◌∷◌, ◌++◌, is_ok, reverse, true}
use Rattle.event_costs.specs.Arcs.{Telling}
use Rattle.event_costs.specs.Keys.{ArcKey}
use Rattle.event_costs.specs.declared.numbers.FuncId.{FuncId}
use Rattle.arc_costs.specs.Arcs.{ArcsStandFor, arc_sum}
use Rattle.arc_costs.specs.Contents.{Contents}
use Rattle.arc_costs.specs.Rows.{ArcRow}
use Rattle.recorder.specs.Notes.{rows_of_tellings}
use Rattle.recorder.specs.inner.Tellers.{CanTell, RowsAfterTellings}
use Rattle.ctx_costs.specs.inner.Frames.{by_number, entry_after, numbers_left}
use Rattle.ctx_costs.specs.declared.closing.Closing.{Closing}
use Rattle.ctx_costs.specs.declared.closing.Opening.{Opening}

abbrev pub numbers_in : Closing → List FuncId
numbers_in s = reverse s.numbers.now

pub record Tells (old : Closing) (t : Telling) (new : Closing) : Type 0 where
  pub loan : new.rows.ghost_name ≡ old.rows.ghost_name
  pub rows : RowsAfterTellings old.rows.now (by_number t (numbers_in old)) new.rows.now
  pub numbers : numbers_in new ≡ numbers_left t (numbers_in old)
  pub pushed : new.pushed ≡ entry_after old.pushed t

-- Each telling can be counted after those before it.
abbrev pub CanTake : Closing → List Telling → Type 0
CanTake s [] = Unit {0}
CanTake s (t ∷ ts) =
    CanTell s.rows.now (by_number t (numbers_in s)) × ((new : Closing) → Tells s t new → CanTake new ts)

pub takes_front : (s : Closing) (front rest : List Telling) → CanTake s (front ++ rest) → CanTake s front
takes_front s [] rest can = tt
takes_front s (t ∷ front) rest can = (can.0, λ new told. takes_front new front rest (can.1 new told))

pub takes_rest : (old new : Closing) (t : Telling) (rest : List Telling) → CanTake old (t ∷ rest) → Tells old t new
    → CanTake new rest
takes_rest old new t rest can told = can.1 new told

-- ---- what open frames are told as

abbrev pub numbers_to : Opening → List FuncId
numbers_to s = reverse s.numbers.now

-- tables that stand for these rows too
pub record AddsRows (old : Contents) (added : List ArcRow) (new : Contents) : Type 0 where
  pub lines : new.lines ≡ old.lines
  pub stands : (additions : List ArcRow) → ArcsStandFor old.arcs additions → ArcsStandFor new.arcs (additions ++ added)

-- while there is memory
pub record Opens (old : Opening) (t : Telling) (new : Opening) : Type 0 where
  pub loan : new.rows.ghost_name ≡ old.rows.ghost_name
  pub memory : is_ok new.memory ≡ true → is_ok old.memory ≡ true
  pub rows : is_ok new.memory ≡ true
      → AddsRows old.rows.now (rows_of_tellings (by_number t (numbers_to old))) new.rows.now
  pub numbers : is_ok new.memory ≡ true → numbers_to new ≡ numbers_left t (numbers_to old)

-- no sum passes 64 bits with these rows
abbrev pub HaveRoom : Contents → List ArcRow → Type 0
HaveRoom rows added = (kind : ℕ) (arc : ArcKey) → arc_sum kind arc rows.arcs + arc_sum kind arc added < 2 ^ 64

abbrev pub CanOpen : Opening → List Telling → Type 0
CanOpen s [] = Unit {0}
CanOpen s (t ∷ ts) =
    (is_ok s.memory ≡ true → HaveRoom s.rows.now (rows_of_tellings (by_number t (numbers_to s))))
    × ((new : Opening) → Opens s t new → CanOpen new ts)

pub opens_front : (s : Opening) (front rest : List Telling) → CanOpen s (front ++ rest) → CanOpen s front
opens_front s [] rest can = tt
opens_front s (t ∷ front) rest can = (can.0, λ new told. opens_front new front rest (can.1 new told))

pub opens_rest : (old new : Opening) (t : Telling) (rest : List Telling) → CanOpen old (t ∷ rest) → Opens old t new
    → CanOpen new rest
opens_rest old new t rest can told = can.1 new told
