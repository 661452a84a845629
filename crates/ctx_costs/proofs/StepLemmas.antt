-- A step of a thread: it is counted, and its stack changes.
use Rattle.std.proofs.Common.{◌≡◌, ℕ, ◌+◌, ◌<◌, ◌≤◌, ◌^◌, Bool, true, false, List, ◌∷◌, ◌++◌, Option}
use Rattle.std.proofs.Common.{None, Some, drop, get_or, is_some, length, reverse, take, refl, sym, ap, subst}
use Rattle.std.proofs.Common.{◌∙◌, arith, if◌then◌else◌}
use Rattle.std.specs.Option.{option_map}
use Rattle.std.specs.Prelude.{vec_capacity}
use Rattle.std.proofs.lemmas.List.{length-map, length-reverse}
use Rattle.event_costs.specs.Arcs.{Telling}
use Rattle.event_costs.specs.Costs.{IsWhole, sum_of_costs}
use Rattle.event_costs.specs.declared.event.Event.{Event}
use Rattle.event_costs.specs.Keys.{ArcKey, Place}
use Rattle.sym_map.specs.SymbolMap.{SymbolMap, place_of}
use Rattle.shadow_stack.specs.Changes.{after, change, drop_count, no_change}
use Rattle.shadow_stack.specs.Frames.{StartWithin, activation, closings, pushing, stack, with_frame}
use Rattle.shadow_stack.specs.Stacks.{Activation, is_rooted}
use Rattle.shadow_stack.specs.declared.frame.Frame.{Frame}
use Rattle.arc_costs.specs.Arcs.{add_arcs, arc_sum, call_sum}
use Rattle.arc_costs.specs.Lines.{add_line, line, line_sum}
use Rattle.event_costs.specs.Order.{same_place}
use Rattle.arc_costs.specs.Rows.{ArcRow}
use Rattle.recorder.specs.Notes.{rows_of_tellings}
use Rattle.recorder.specs.inner.Books.{AreKeyed}
use Rattle.recorder.specs.inner.Tellers.{CanTell, RowsAfterTellings}
use Rattle.contexts.specs.Contexts.{Context, context, number}
use Rattle.ctx_rows.specs.Telling.{CanCount}
use Rattle.ctx_rows.specs.States.{Track, contexts_after, dropped_track_frames, entered_frame, kept_track_frames, pushed_frame}
use Rattle.ctx_rows.specs.States.{pushed_track_frame, track_after_event}
use Rattle.ctx_rows.specs.Tracks.{AreNumbered}
use Rattle.ctx_costs.specs.inner.Frames.{AreOpen, first_number, numbered_frames}
use Rattle.ctx_costs.specs.inner.Tracks.{Book, CanEnter, IsChanged, IsFramed, IsKept, IsRoomy, IsSound, IsSummed, closings_gone}
use Rattle.ctx_costs.specs.inner.Tracks.{frame_new, frames_of, numbers_of, track_of}
use Rattle.ctx_costs.proofs.ChangedLemmas as changed
use Rattle.ctx_costs.proofs.NumberedLemmas.{open_many, top_numbered}
use Rattle.ctx_costs.proofs.Others.{AreKeyed-take, StartWithin-take, can_tell_cut, open_sum-split, starts_grown}
use Rattle.ctx_costs.proofs.SoundLemmas as sound
use Rattle.ctx_costs.proofs.SummedLemmas as summed

-- where an event counts
abbrev pub place_in : Book → Place → Place
place_in b at = record { func = first_number (numbers_of b); file = at.file; line = at.line }

-- once an event is counted
pub record IsCounted (old : Book) (cost : List ℕ) (at : Place) (mid : Book) : Type 0 where
  pub lines : mid.rows.lines ≡ add_line old.rows.lines (line (place_in old at) cost)
  pub line_sums : (kind : ℕ) (place : Place) → line_sum kind place mid.rows.lines
      ≡ line_sum kind place old.rows.lines + (if same_place place (place_in old at) then get_or cost kind 0 else 0)
  pub total : mid.total ≡ sum_of_costs old.total cost
  pub whole : IsWhole cost
  pub arcs : mid.rows.arcs ≡ old.rows.arcs
  pub arc_room : mid.rows.arc_room ≡ old.rows.arc_room
  pub stack : mid.stack ≡ old.stack
  pub numbers : mid.numbers ≡ old.numbers
  pub thread : mid.thread ≡ old.thread

enter_still : (old mid : Book) → mid.stack ≡ old.stack → mid.numbers ≡ old.numbers → mid.rows.arc_room ≡ old.rows.arc_room
    → CanEnter old → CanEnter mid
enter_still old mid same_stack same_numbers arcs room = record {
  stack = subst (λ s. 1 ≤ s.spare) (sym same_stack) room.stack;
  numbers = subst (λ ns. length ns.items < vec_capacity ns) (sym same_numbers) room.numbers;
  arcs = omega (arith, arcs, room.arcs);
}

-- A track in which an event has only added to numbers has the room that it had.
pub plain_room : (old mid : Book) (known : Bool) → mid.stack ≡ old.stack → mid.numbers ≡ old.numbers
    → mid.rows.line_room + (if known then 0 else 1) ≡ old.rows.line_room → known ≡ true
    → mid.rows.arc_room ≡ old.rows.arc_room → IsRoomy old → IsRoomy mid
plain_room old mid known same_stack same_numbers lines there arcs room =
    let same_lines : mid.rows.line_room + 0 ≡ old.rows.line_room
    = ap (λ (b : Bool). mid.rows.line_room + (if b then 0 else 1)) (sym there) ∙ lines in
    record {
      enter = enter_still old mid same_stack same_numbers arcs room.enter;
      lines = omega (arith, same_lines, room.lines);
    }

-- An event that is counted in a thread.
pub record Noted : Type 0 where
  pub callers : ℕ
  pub contexts : List Context
  pub syms : SymbolMap
  pub event : Event
  pub cost : List ℕ
  pub at : Place
  pub old : Book
  pub mid : Book
  pub kept : IsKept callers contexts old
  pub live : 0 < length old.stack.frames
  pub can : CanCount (track_of old) cost
  pub at_is : at ≡ place_of syms event.done.pc
  pub is : IsCounted old cost at mid

-- a frame that is made of an activation comes where that does
some_mapped : {X Y : Type 0} (f : X → Y) (o : Option X) → is_some (option_map f o) ≡ is_some o
some_mapped f None = refl
some_mapped f (Some x) = refl

at_most : (b : Bool) (cost : ℕ) → (if b then cost else 0) ≤ cost
at_most true cost = omega arith
at_most false cost = omega arith

module _ (n : Noted) where
  abbrev callers : ℕ
  callers = n.callers

  abbrev cs : List Context
  cs = n.contexts

  abbrev syms : SymbolMap
  syms = n.syms

  abbrev e : Event
  e = n.event

  abbrev old : Book
  old = n.old

  abbrev mid : Book
  mid = n.mid

  abbrev t : Track
  t = track_of n.old

  abbrev total : List ℕ
  total = sum_of_costs n.old.total n.cost

  abbrev fresh : Option Activation
  fresh = pushed_track_frame n.callers n.contexts n.syms n.event (track_of n.old)

  abbrev track_then : Track
  track_then = track_after_event n.callers n.contexts n.syms n.event n.cost (track_of n.old)

  abbrev gone : List Telling
  gone = closings total (dropped_track_frames syms e t)

  sums : IsSummed t
  sums = n.kept.sound.sums

  alive : 0 < length t.stack
  alive = let all = length-map old.stack.frames activation in omega (arith, all, n.live)

  pub mid_live : 0 < length n.mid.stack.frames
  mid_live = subst (λ s. 0 < length s.frames) (sym n.is.stack) n.live

  pub mid_rooted : is_rooted (stack n.mid.stack.frames) ≡ true
  mid_rooted = subst (λ s. is_rooted (stack s.frames) ≡ true) (sym n.is.stack) (sums.rooted alive)

  pub mid_framed : IsFramed n.mid
  mid_framed = record {
    starts =
        subst (λ (sum : List ℕ). StartWithin sum mid.stack.frames) (sym n.is.total)
        (subst (λ s. StartWithin total s.frames) (sym n.is.stack)
        (starts_grown old.total n.cost old.stack.frames sums.whole n.is.whole n.kept.framed.starts));
    entered =
        subst (λ s. AreOpen s.frames (numbers_of mid)) (sym n.is.stack)
        (subst (λ ns. AreOpen old.stack.frames (reverse ns.items)) (sym n.is.numbers) n.kept.framed.entered);
  }

  pub mid_enter : CanEnter n.old → CanEnter n.mid
  mid_enter room = enter_still old mid n.is.stack n.is.numbers n.is.arc_room room

  mid_frames : frames_of mid ≡ frames_of old
  mid_frames = λ i. numbered_frames (n.is.stack i).frames (reverse (n.is.numbers i).items)

  pub mid_numbered : AreNumbered n.callers n.contexts (frames_of n.mid) (stack n.mid.stack.frames)
  mid_numbered =
      subst (λ s. AreNumbered callers cs (frames_of mid) (stack s.frames)) (sym n.is.stack)
      (subst (λ (fs : List Frame). AreNumbered callers cs fs t.stack) (sym mid_frames) n.kept.sound.numbered)

  closed : closings_gone syms e mid ≡ gone
  closed = λ i. closings (n.is.total i) (take (drop_count syms e (stack (n.is.stack i).frames)) (mid_frames i))

  same_fresh : frame_new callers cs syms e mid ≡ fresh
  same_fresh = λ i.
      pushed_frame callers cs (place_of syms e.done.pc)
      (drop (drop_count syms e (stack (n.is.stack i).frames)) (mid_frames i)) (change syms e (stack (n.is.stack i).frames))

  pub mid_can : CanTell n.mid.rows (closings_gone n.syms n.event n.mid)
  mid_can =
      let count = drop_count syms e t.stack in
      let starts = starts_grown old.total n.cost t.frames sums.whole n.is.whole sums.starts in
      subst (λ (ts : List Telling). CanTell mid.rows ts) (sym closed)
      (can_tell_cut total (dropped_track_frames syms e t) mid.rows (StartWithin-take total count t.frames starts)
      (AreKeyed-take mid.rows.arcs count t.frames
      (subst (λ (rs : List ArcRow). AreKeyed rs t.frames) (sym n.is.arcs) sums.keyed))
      (λ kind arc. omega (
        arith,
        n.can.arcs kind arc,
        open_sum-split kind total arc count t.frames,
        ap (arc_sum kind arc) n.is.arcs,
      ))
      (λ arc. omega (arith, n.can.calls arc, ap (call_sum arc) n.is.arcs)))

  pub mid_calls : (arc : ArcKey) → call_sum arc n.mid.rows.arcs + 1 < 2 ^ 64
  mid_calls arc = omega (arith, n.can.calls arc, ap (call_sum arc) n.is.arcs)

  -- once the stack has changed
  module _ (more : List Context) (new : Book)
      (done : IsChanged n.callers n.contexts more n.syms n.event n.mid new) where
    told : RowsAfterTellings mid.rows (gone ++ pushing fresh) new.rows
    told = subst (λ (ts : List Telling). RowsAfterTellings mid.rows ts new.rows)
        (λ i. closed i ++ pushing (same_fresh i)) done.told

    lines_are : new.rows.lines ≡ track_then.lines
    lines_are =
        told.lines ∙ n.is.lines
        ∙ (λ i. add_line t.lines (line (record {
          func = sym (top_numbered old.stack.frames (numbers_of old) n.kept.framed.entered) i;
          file = (n.at_is i).file;
          line = (n.at_is i).line;
        }) n.cost))

    arcs_are : new.rows.arcs ≡ track_then.arcs
    arcs_are = told.arcs ∙ ap (λ (rs : List ArcRow). add_arcs rs (rows_of_tellings (gone ++ pushing fresh))) n.is.arcs

    stacked : stack new.stack.frames ≡ track_then.stack
    stacked = done.stacked ∙ (λ i. after syms (stack (n.is.stack i).frames) e)

    frames_are : frames_of new ≡ track_then.frames
    frames_are = done.frames ∙ (λ i. with_frame (n.is.total i) (same_fresh i)
        (drop (drop_count syms e (stack (n.is.stack i).frames)) (mid_frames i)))

    pub new_track : track_of new ≡ track_after_event n.callers n.contexts n.syms n.event n.cost (track_of n.old)
    new_track =
        let thread = done.same.thread ∙ n.is.thread in
        let sum = done.same.total ∙ n.is.total in
        λ i. record {
          thread = thread i;
          stack = stacked i;
          frames = frames_are i;
          total = sum i;
          lines = lines_are i;
          arcs = arcs_are i;
        }

    pub new_contexts : more
        ≡ contexts_after n.callers n.contexts (change n.syms n.event (stack n.old.stack.frames))
    new_contexts = done.contexts ∙ (λ i. contexts_after callers cs (change syms e (stack (n.is.stack i).frames)))

    sums_are : (kind : ℕ) (place : Place) → line_sum kind place track_then.lines
        ≤ line_sum kind place t.lines + get_or n.cost kind 0
    sums_are kind place =
        let now = ap (line_sum kind place) (sym lines_are ∙ told.lines) in
        let most = at_most (same_place place (place_in old n.at)) (get_or n.cost kind 0) in
        omega (arith, now, n.is.line_sums kind place, most)

    summed_then : IsSummed track_then
    summed_then =
        summed.summed_after (place_of syms e.done.pc) fresh syms e n.cost t mid.rows new.rows sums n.is.whole n.can alive
        (some_mapped (λ (a : Activation). entered_frame (place_of syms e.done.pc) (kept_track_frames syms e t)
        (number cs (context callers (a ∷ (change syms e t.stack).rest)))) (change syms e t.stack).pushed)
        (sym n.is.arcs) (sym arcs_are) told sums_are

    pub new_kept : IsKept n.callers more new
    new_kept = record {
      framed = done.framed;
      sound =
          subst (λ (ds : List Context). IsSound callers ds (track_of new)) (sym new_contexts)
          (subst (λ (u : Track). IsSound callers (contexts_after callers cs (change syms e t.stack)) u) (sym new_track)
          (sound.sound_after callers cs syms e n.cost t mid.rows new.rows n.kept.sound alive (sym n.is.arcs)
          (sym arcs_are) told summed_then));
    }

  -- where the event leaves the stack as it is
  module _ (stays : change n.syms n.event (stack n.old.stack.frames) ≡ no_change (stack n.old.stack.frames)) where
    pub plain_done : IsChanged n.callers n.contexts n.contexts n.syms n.event n.mid n.mid
    plain_done =
        let now = subst (λ s. change syms e (stack s.frames) ≡ no_change (stack s.frames)) (sym n.is.stack) stays in
        changed.still_changed callers cs syms e mid mid_framed now

-- where there are frames there are numbers
pub numbers_live : (b : Book) → IsFramed b → 0 < length b.stack.frames → 0 < length b.numbers.items
numbers_live b framed live =
    let many = open_many b.stack.frames (numbers_of b) framed.entered in
    omega (arith, live, many, length-reverse b.numbers.items)
