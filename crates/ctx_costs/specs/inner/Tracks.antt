-- What is kept of a thread in its fields, and what holds of it.
use Rattle.std.specs.Prelude.{◌≡◌, ℕ, ◌+◌, ◌<◌, ◌≤◌, ◌^◌, List, [], ◌∷◌, ◌++◌, drop, take}
use Rattle.std.specs.Prelude.{false, None, Option, Some, is_some, length}
use Rattle.std.specs.Prelude.{◌==◌, map, reverse, slice_index_or, true}
use Rattle.std.specs.Prelude.{vec_capacity}
use Rattle.std.specs.List.{AllByRecursion, list_any}
use Rattle.event_costs.specs.Arcs.{Pushed, Telling}
use Rattle.event_costs.specs.Costs.{IsWhole, sum_of_costs}
use Rattle.event_costs.specs.declared.event.Event.{Event}
use Rattle.event_costs.specs.Keys.{ArcKey, Place}
use Rattle.event_costs.specs.declared.numbers.FuncId.{FuncId}
use Rattle.event_costs.specs.declared.numbers.ThreadNo.{ThreadNo}
use Rattle.sym_map.specs.SymbolMap.{SymbolMap}
use Rattle.shadow_stack.specs.Changes.{after, change, drop_count}
use Rattle.shadow_stack.specs.Frames.{StartWithin, closings, frames_after, pushing, stack, with_frame}
use Rattle.shadow_stack.specs.Stacks.{Activation, is_rooted}
use Rattle.shadow_stack.specs.declared.frame.Frame.{Frame}
use Rattle.arc_costs.specs.Arcs.{add_arcs, arc_sum, call_sum, has_arc}
use Rattle.arc_costs.specs.Lines.{add_line, has_line, line, line_sum}
use Rattle.recorder.specs.Notes.{open_sum, rows_of_tellings}
use Rattle.recorder.specs.Laws.{AreApart}
use Rattle.recorder.specs.inner.Books.{AreKeyed}
use Rattle.recorder.specs.inner.Tellers.{RowsAfterTellings}
use Rattle.contexts.specs.Contexts.{Context, AreDistinct, Held, context_at, number as number_of, with_context}
use Rattle.ctx_rows.specs.Tracks.{AreNumbered, IsArcOf, IsNumber}
use Rattle.ctx_rows.specs.States.{Track, contexts_after, first_track, dropped_track_frames, kept_track_frames}
use Rattle.ctx_rows.specs.States.{pushed_track_frame, top_number}
use Rattle.ctx_costs.specs.inner.Frames.{AreOpen, entry_arc, first_number, numbered_frames}
use Rattle.ctx_costs.specs.declared.closing.Entry.{Entry}
pub use Rattle.ctx_costs.specs.declared.track.Track.{Track as Book}

abbrev pub numbers_of : Book → List FuncId
numbers_of b = reverse b.numbers.items

abbrev pub frames_of : Book → List Frame
frames_of b = numbered_frames b.stack.frames (numbers_of b)

abbrev pub track_of : Book → Track
track_of b = record {
  thread = b.thread;
  stack = stack b.stack.frames;
  frames = frames_of b;
  total = b.total;
  lines = b.rows.lines;
  arcs = b.rows.arcs;
}

-- What holds of the frames that are kept.
pub record IsFramed (b : Book) : Type 0 where
  pub starts : StartWithin b.total b.stack.frames
  pub entered : AreOpen b.stack.frames (numbers_of b)

-- A thread after an event that counts at this place and pushes this frame, if any: each frame that goes gives its arc
-- what it has cost since its start.
abbrev pub stepped : Place → Option Activation → SymbolMap → Event → List ℕ → Track → Track
stepped at fresh syms e cost t =
    let total = sum_of_costs t.total cost in
    record {
      thread = t.thread;
      stack = after syms t.stack e;
      frames = with_frame total fresh (kept_track_frames syms e t);
      total = total;
      lines = add_line t.lines (line (record { func = top_number t.frames; file = at.file; line = at.line }) cost);
      arcs = add_arcs t.arcs (rows_of_tellings (closings total (dropped_track_frames syms e t) ++ pushing fresh));
    }

-- A frame that comes takes no memory.
pub record CanEnter (b : Book) : Type 0 where
  pub stack : 1 ≤ b.stack.spare
  pub numbers : length b.numbers.items < vec_capacity b.numbers
  pub arcs : 1 ≤ b.rows.arc_room

-- A step takes no memory.
pub record IsRoomy (b : Book) : Type 0 where
  pub enter : CanEnter b
  pub lines : 1 ≤ b.rows.line_room

-- What holds of the sums of every thread: there is a frame for each of the stack, none starts past the total, the arcs
-- of open frames are keys, and no sum passes 64 bits, with the open frames' costs counted in.
pub record IsSummed (t : Track) : Type 0 where
  pub whole : IsWhole t.total
  pub starts : StartWithin t.total t.frames
  pub keyed : AreKeyed t.arcs t.frames
  pub rooted : 0 < length t.stack → is_rooted t.stack ≡ true
  pub as_many : length t.frames ≡ length t.stack
  pub line_sums : (kind : ℕ) (place : Place) → line_sum kind place t.lines < 2 ^ 64
  pub arc_sums : (kind : ℕ) (arc : ArcKey) → arc_sum kind arc t.arcs + open_sum kind t.total arc t.frames < 2 ^ 64
  pub call_sums : (arc : ArcKey) → call_sum arc t.arcs < 2 ^ 64

-- What holds of every thread besides that is counted by contexts: its frames and rows are numbered by them.
pub record IsSound (callers : ℕ) (contexts : List Context) (t : Track) : Type 0 where
  pub sums : IsSummed t
  pub numbered : AreNumbered callers contexts t.frames t.stack
  pub lines : (place : Place) → has_line place t.lines ≡ true → IsNumber (length contexts) place.func
  pub arcs : (arc : ArcKey) → has_arc arc t.arcs ≡ true → IsArcOf (length contexts) arc

pub record IsKept (callers : ℕ) (contexts : List Context) (b : Book) : Type 0 where
  pub framed : IsFramed b
  pub sound : IsSound callers contexts (track_of b)

-- What a track is beside what its stack, its numbers and its rows are.
pub record SameThread (old new : Book) : Type 0 where
  pub alloc : new.alloc ≡ old.alloc
  pub thread : new.thread ≡ old.thread
  pub total : new.total ≡ old.total

-- the frames that an event drops
abbrev pub count_gone : SymbolMap → Event → Book → ℕ
count_gone syms e b = drop_count syms e (stack b.stack.frames)

-- what their arcs are told
abbrev pub closings_gone : SymbolMap → Event → Book → List Telling
closings_gone syms e b = closings b.total (take (count_gone syms e b) (frames_of b))

-- Once the stack has changed, and the frames have gone that the event drops: the one that it pushes has no number.
pub record IsLeft (syms : SymbolMap) (e : Event) (old new : Book) : Type 0 where
  pub frames : new.stack.frames ≡ frames_after syms old.total old.stack.frames e
  pub numbers : numbers_of new ≡ drop (count_gone syms e old) (numbers_of old)
  pub told : RowsAfterTellings old.rows (closings_gone syms e old) new.rows
  pub stacked : stack new.stack.frames ≡ after syms (stack old.stack.frames) e
  pub starts : StartWithin old.total new.stack.frames
  pub same : SameThread old new
  pub capacity : vec_capacity new.numbers ≡ vec_capacity old.numbers

-- the context that is entered from this one
abbrev pub context_entered : ℕ → List Context → FuncId → Entry → Context
context_entered callers contexts beneath entry = take (callers + 1) (entry.func.0 ∷ context_at contexts beneath)

-- Once the frame that came has a number.
pub record IsEntered (callers : ℕ) (entry : Entry) (before more : List Context) (old new : Book) : Type 0 where
  pub number : FuncId
  pub is : number ≡ number_of before (context_entered callers before (first_number (numbers_of old)) entry)
  pub numbers : numbers_of new ≡ number ∷ numbers_of old
  pub contexts : more ≡ with_context before (context_entered callers before (first_number (numbers_of old)) entry)
  pub told : RowsAfterTellings old.rows (Pushed (entry_arc entry (first_number (numbers_of old)) number) ∷ []) new.rows
  pub stack : new.stack ≡ old.stack
  pub same : SameThread old new

-- the frame that an event pushes
abbrev pub frame_new : ℕ → List Context → SymbolMap → Event → Book → Option Activation
frame_new callers contexts syms e b = pushed_track_frame callers contexts syms e (track_of b)

-- Once the stack has changed, and all of it is counted.
pub record IsChanged (callers : ℕ) (before more : List Context) (syms : SymbolMap) (e : Event) (old new : Book)
    : Type 0 where
  pub stacked : stack new.stack.frames ≡ after syms (stack old.stack.frames) e
  pub frames : frames_of new
      ≡ with_frame old.total (frame_new callers before syms e old) (kept_track_frames syms e (track_of old))
  pub told : RowsAfterTellings old.rows (closings_gone syms e old ++ pushing (frame_new callers before syms e old)) new.rows
  pub contexts : more ≡ contexts_after callers before (change syms e (stack old.stack.frames))
  pub framed : IsFramed new
  pub same : SameThread old new

-- a track of the thread that is ready has room
abbrev pub IsReadyFor : Option ThreadNo → Book → Type 0
IsReadyFor ready b = (ready ≡ Some b.thread) → IsRoomy b

-- What holds of a watch: each thread is kept and has one track; contexts differ, and none is empty; and there is room
-- for a step of the thread that is ready.
pub record IsWatching (callers : ℕ) (held : Held) (books : List Book) (ready : Option ThreadNo) : Type 0 where
  pub few : callers ≤ 16
  pub each : AllByRecursion (IsKept callers held.contexts) books
  pub apart : AreApart (map (λ (b : Book). b.thread) books)
  pub distinct : AreDistinct held.contexts
  pub filled : AllByRecursion (λ c. 0 < length c) held.contexts
  pub roomy : AllByRecursion (IsReadyFor ready) books
  pub room : is_some ready ≡ true → 1 ≤ held.room

-- What has come once a thread has begun: its track, with room for a step, and its context, which takes
-- room if it's new.
pub record HasBegun (thread : ThreadNo) (func : FuncId) (books : List Book) (held : Held) (more : List Book)
    (now : Held)
    : Type 0 where
  pub book : Book
  pub all : more ≡ books ++ book ∷ []
  pub track : track_of book ≡ first_track thread func (number_of held.contexts (func.0 ∷ []))
  pub framed : IsFramed book
  pub roomy : IsRoomy book
  pub contexts : now.contexts ≡ with_context held.contexts (func.0 ∷ [])
  pub room : held.room ≤ now.room + 1

-- where the track of a thread stands, nothing exactly where it has none
abbrev pub IsPlaceOf : List Book → ThreadNo → Option ℕ → Type 0
IsPlaceOf books thread None = list_any (λ (b : Book). thread.0 == b.thread.0) books ≡ false
IsPlaceOf books thread (Some place) =
    (place < length books) × ((d : Book) → (slice_index_or books place d).thread.0 ≡ thread.0)
