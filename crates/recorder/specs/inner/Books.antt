-- What is kept of a thread: in the arena by its head, and in its tables; and what holds of it.
use Rattle.std.specs.Prelude.{◌≡◌, ◌≢◌, ℕ, ◌+◌, ◌-◌, ◌*◌, filter, if◌then◌else◌, slice_index, ◌<◌, ◌≤◌, ◌^◌, true}
use Rattle.std.specs.Prelude.{false, List, [], ◌∷◌, length, map, Option, Some, None, IfSome, sum_by, All, get_or, ⊤}
use Rattle.std.specs.List.{AllByRecursion}
use Rattle.event_costs.specs.Costs.{IsWhole}
use Rattle.event_costs.specs.Keys.{ArcKey, Place}
use Rattle.event_costs.specs.declared.numbers.ThreadNo.{ThreadNo}
use Rattle.std.specs.List.Sorted.{IsStrictlySortedBy}
use Rattle.event_costs.specs.declared.event.Event.{Event}
use Rattle.sym_map.specs.SymbolMap.{SymbolMap, place_of}
use Rattle.arc_costs.specs.Arcs.{arc_of, arc_sum, call_sum, cleared_arcs, has_arc, is_some_arc}
use Rattle.arc_costs.specs.Contents.{Listed}
use Rattle.arc_costs.specs.Lines.{is_some_line, line_sum, place_of as row_place}
use Rattle.event_costs.specs.Order.{arc_order, place_order, same_place}
use Rattle.arc_costs.specs.Rows.{ArcRow, LineRow}
use Rattle.shadow_stack.specs.Arenas.{AreApart, frames, LiesIn}
use Rattle.shadow_stack.specs.Frames.{pushed_activation, restarted_frames, stack, StartWithin}
use Rattle.shadow_stack.specs.Kinds.{is_root}
use Rattle.shadow_stack.specs.Stacks.{most_frames}
use Rattle.shadow_stack.specs.Arenas.{Node}
use Rattle.shadow_stack.specs.declared.frame.Frame.{Frame}
use Rattle.recorder.specs.Accounts.{Account, Ledger}
use Rattle.recorder.specs.Notes.{open_sum}
use Rattle.recorder.specs.Sums.{entered_by, pushes}
use Rattle.recorder.specs.declared.book.Book.{Book}

abbrev pub account_in : List (Option Node) → Book → Account
account_in slots b = record {
  thread = b.thread;
  frames = frames slots b.head;
  total = b.total;
  lines = b.rows.lines;
  arcs = b.rows.arcs;
  had_event = b.had_event;
}

abbrev pub ledger_of : List (Option Node) → Book → Ledger
ledger_of slots b = record { account = account_in slots b; line_room = b.rows.line_room; arc_room = b.rows.arc_room }

-- a frame that was entered knows by which arc
pub record IsEntered (f : Frame) : Type 0 where
  pub arc : ArcKey
  pub from : f.from ≡ Some arc
  pub callee : arc.callee ≡ f.func
  pub kind : is_root f.kind ≡ false

-- all frames but the lowest were entered, and the lowest is a root without an arc
abbrev pub AreEntered : List Frame → Type 0
AreEntered [] = ⊤
AreEntered (f ∷ []) = (is_root f.kind ≡ true) × (f.from ≡ None)
AreEntered (f ∷ (g ∷ fs)) = IsEntered f × AreEntered (g ∷ fs)

-- the arcs of these frames are keys
abbrev pub AreKeyed : List ArcRow → List Frame → Type 0
AreKeyed arcs fs = AllByRecursion (λ f. IfSome f.from (λ arc. has_arc arc arcs ≡ true)) fs

-- What holds of every account: no frame's start passes the total, the arcs of the open frames are keys, and no sum of
-- an arc passes 64 bits, with the open frames' costs counted in.
pub record IsSound (a : Account) : Type 0 where
  pub whole : IsWhole a.total
  pub starts : StartWithin a.total a.frames
  pub entered : AreEntered a.frames
  pub keyed : AreKeyed a.arcs a.frames
  pub within : (kind : ℕ) (arc : ArcKey) → arc_sum kind arc a.arcs + open_sum kind a.total arc a.frames < 2 ^ 64
  pub counted : (arc : ArcKey) → call_sum arc a.arcs < 2 ^ 64

pub record IsSoundBook (slots : List (Option Node)) (b : Book) : Type 0 where
  pub lies : LiesIn slots b.head
  pub sound : IsSound (account_in slots b)

-- What an event adds to the sums of an account, the open frames' costs counted in.
pub record Adds (syms : SymbolMap) (e : Event) (cost : List ℕ) (old new : Account) : Type 0 where
  pub total : (kind : ℕ) → slice_index new.total kind ≡ slice_index old.total kind + slice_index cost kind
  pub lines : (kind : ℕ) (place : Place) → line_sum kind place new.lines
      ≡ line_sum kind place old.lines
      + (if same_place place (place_of syms e.done.pc) then slice_index cost kind else 0)
  pub arcs : (kind : ℕ) (arc : ArcKey) → arc_sum kind arc new.arcs + open_sum kind new.total arc new.frames
      ≡ arc_sum kind arc old.arcs + open_sum kind old.total arc old.frames
      + slice_index cost kind * entered_by arc (stack old.frames)
  pub calls : (arc : ArcKey) → call_sum arc new.arcs ≡ call_sum arc old.arcs + pushes arc (pushed_activation syms e old.frames)

-- The account after its open frames have given their cost so far and start anew.
pub record Gives (old new : Account) : Type 0 where
  pub thread : new.thread ≡ old.thread
  pub frames : new.frames ≡ restarted_frames old.total old.frames
  pub total : new.total ≡ old.total
  pub lines : new.lines ≡ old.lines
  pub cleared : cleared_arcs new.arcs ≡ cleared_arcs old.arcs
  pub arcs : (kind : ℕ) (arc : ArcKey) → arc_sum kind arc new.arcs
      ≡ arc_sum kind arc old.arcs + open_sum kind old.total arc old.frames
  pub calls : (arc : ArcKey) → call_sum arc new.arcs ≡ call_sum arc old.arcs
  pub had_event : new.had_event ≡ old.had_event

-- Rows are those of an account whose open frames have nothing left to give.
pub record AreRowsIn (all_lines : List LineRow) (all_arcs : List ArcRow) (rows : Listed) : Type 0 where
  pub lines : (kind : ℕ) (place : Place) → line_sum kind place rows.lines ≡ line_sum kind place all_lines
  pub arcs : (kind : ℕ) (arc : ArcKey) → arc_sum kind arc rows.arcs ≡ arc_sum kind arc all_arcs
  pub calls : (arc : ArcKey) → call_sum arc rows.arcs ≡ call_sum arc all_arcs
  pub lines_rise : IsStrictlySortedBy place_order (map row_place rows.lines)
  pub arcs_rise : IsStrictlySortedBy arc_order (map arc_of rows.arcs)
  pub some_lines : filter is_some_line rows.lines ≡ rows.lines
  pub some_arcs : filter is_some_arc rows.arcs ≡ rows.arcs

-- the frames of a book that are no roots
abbrev pub entered_in : Book → ℕ
entered_in b = b.head.depth - 1

-- What holds of the books of a recorder: each head lies in the arena, no two chains have a key in common, each thread
-- has one book, and the count of live frames is right and within its bound.
pub record AreSoundBooks (slots : List (Option Node)) (started : List ThreadNo) (books : List Book) (count : ℕ) : Type 0 where
  pub each : All (IsSoundBook slots) books
  pub apart : (i j : ℕ) (d : Book) → i < length books → j < length books → i ≢ j
      → AreApart slots (get_or books i d).head (get_or books j d).head
  pub threads : started ≡ map (λ b. b.thread) books
  pub live : count ≡ sum_by entered_in books
  pub few : count ≤ most_frames
