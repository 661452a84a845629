-- What holds of a thread's sums when it begins, after a step and after a cut.
use Rattle.std.proofs.Common.{◌≡◌, ℕ, zero, suc, ◌+◌, ◌<◌, ◌≤◌, Bool, true, false, List, [], ◌∷◌}
use Rattle.std.proofs.Common.{◌++◌, Option, None, Some, IfSome, drop, length}
use Rattle.std.proofs.Common.{get_or, is_some, refl, sym, ap, ◌∙◌, arith}
use Rattle.std.proofs.lemmas.List.{length-map}
use Rattle.std.specs.Option.{option_map_or}
use Rattle.event_costs.specs.Costs.{IsWhole, no_cost, sum_of_costs}
use Rattle.event_costs.specs.Arcs.{Pushed}
use Rattle.event_costs.specs.declared.event.Event.{Event}
use Rattle.event_costs.specs.Keys.{ArcKey, Place}
use Rattle.event_costs.specs.declared.numbers.FuncId.{FuncId}
use Rattle.event_costs.specs.declared.numbers.ThreadNo.{ThreadNo}
use Rattle.sym_map.specs.SymbolMap.{SymbolMap}
use Rattle.shadow_stack.specs.Changes.{after, change, drop_count, with_pushed}
use Rattle.shadow_stack.specs.Frames.{StartWithin, closings, pushing, restarted_frames}
use Rattle.shadow_stack.specs.Frames.{restarted_frame, stack, with_frame}
use Rattle.shadow_stack.specs.Stacks.{Activation, Stack, is_rooted}
use Rattle.shadow_stack.specs.declared.frame.Frame.{Frame}
use Rattle.shadow_stack.specs.declared.frame.Kind.TheVariants.{Root}
use Rattle.shadow_stack.proofs.FrameLemmas.{StartWithin-drop, StartWithin-restarted, after-end, after-rooted}
use Rattle.arc_costs.specs.Arcs.{arc_sum, call_sum, cleared_arcs, has_arc}
use Rattle.arc_costs.specs.Contents.{Contents}
use Rattle.arc_costs.specs.Lines.{cleared_lines, line_sum}
use Rattle.event_costs.specs.Order.{same_arc}
use Rattle.arc_costs.specs.Rows.{ArcRow}
use Rattle.ctx_costs.proofs.Others.{cleared_keys, none_stand, same_arc_laws, StartWithin-take, starts_grown}
use Rattle.ctx_costs.proofs.Others.{whole_sum, AreKeyed-drop, closings_calls, closings_costs, open_sum-restarted}
use Rattle.ctx_costs.proofs.Others.{open_sum-split, open_sum-with, pushing_calls, pushing_costs, kept_stack}
use Rattle.ctx_costs.proofs.Others.{starts_with}
use Rattle.arc_costs.proofs.LineLemmas as plain
use Rattle.recorder.specs.Notes.{open_sum, rows_of_tellings}
use Rattle.recorder.specs.inner.Books.{AreKeyed}
use Rattle.recorder.specs.inner.Tellers.{RowsAfterTellings}
use Rattle.recorder.specs.inner.TellerLaws.{telling_calls-append, telling_costs-append, rows_of_tellings-append}
use Rattle.recorder.proofs.BoundLemmas.{pushes_one}
use Rattle.ctx_rows.specs.Telling.{CanCount}
use Rattle.ctx_rows.specs.States.{Track, first_track, track_after_cut, dropped_track_frames, kept_track_frames}
use Rattle.ctx_costs.proofs.TellingLemmas.{has_arc-append}
use Rattle.ctx_costs.specs.inner.Tracks.{Book, IsSummed, SameThread, frames_of, stepped, track_of}
use Rattle.std.proofs.lemmas.Bool.{or_left, or_right}

same_rest : {X Y : Type 0} (n : ℕ) (xs : List X) (ys : List Y) → length xs ≡ length ys
    → length (drop n xs) ≡ length (drop n ys)
same_rest zero xs ys same = same
same_rest (suc n) [] [] same = refl
same_rest (suc n) [] (y ∷ ys) same = absurd (omega (arith, same))
same_rest (suc n) (x ∷ xs) [] same = absurd (omega (arith, same))
same_rest (suc n) (x ∷ xs) (y ∷ ys) same = same_rest n xs ys (omega (arith, same))

-- the keys
keyed_on : (old new : List ArcRow) (fs : List Frame)
    → ((arc : ArcKey) → has_arc arc old ≡ true → has_arc arc new ≡ true) → AreKeyed old fs → AreKeyed new fs
keyed_on old new [] more all = tt
keyed_on old new (f ∷ fs) more all = (by f.from all.0, keyed_on old new fs more all.1)
  where
    by : (from : Option ArcKey) → IfSome from (λ arc. has_arc arc old ≡ true)
        → IfSome from (λ arc. has_arc arc new ≡ true)
    by None key = tt
    by (Some arc) key = more arc key

-- as many frames stay as activations do
pub kept_many_of : (syms : SymbolMap) (e : Event) (t : Track) → IsSummed t
    → length (kept_track_frames syms e t) ≡ length (change syms e t.stack).rest
kept_many_of syms e t sound =
    same_rest (drop_count syms e t.stack) t.frames t.stack sound.as_many
    ∙ ap (length {A = Activation}) (kept_stack syms e t.stack)

-- a frame comes where an activation does
many_with : (total : List ℕ) (o p : Option Activation) (fs : List Frame) (s : Stack) → is_some o ≡ is_some p
    → length fs ≡ length s → length (with_frame total o fs) ≡ length (with_pushed p s)
many_with total None None fs s both same = same
many_with total (Some f) (Some a) fs s both same = ap suc same
many_with total None (Some a) fs s both same = absurd (cc)
many_with total (Some f) None fs s both same = absurd (cc)

-- A step of a thread that counts at a place and pushes a frame where the stack pushes an activation, as it was told to
-- the tables.
module _ (at : Place) (fresh : Option Activation) (syms : SymbolMap) (e : Event) (cost : List ℕ) (t : Track)
    (old new : Contents)
    (sound : IsSummed t) (whole : IsWhole cost) (can : CanCount t cost) (live : 0 < length t.stack)
    (comes : is_some fresh ≡ is_some (change syms e t.stack).pushed)
    (was : t.arcs ≡ old.arcs) (now : (stepped at fresh syms e cost t).arcs ≡ new.arcs)
    (told : RowsAfterTellings old (closings (sum_of_costs t.total cost) (dropped_track_frames syms e t) ++ pushing fresh) new)
    (line_sums : (kind : ℕ) (place : Place) → line_sum kind place (stepped at fresh syms e cost t).lines
    ≤ line_sum kind place t.lines + get_or cost kind 0) where
  abbrev u : Track
  u = stepped at fresh syms e cost t

  abbrev total : List ℕ
  total = sum_of_costs t.total cost

  starts_now : StartWithin total t.frames
  starts_now = starts_grown t.total cost t.frames sound.whole whole sound.starts

  starts_after : StartWithin total (with_frame total fresh (kept_track_frames syms e t))
  starts_after = starts_with total fresh (kept_track_frames syms e t)
      (StartWithin-drop total (drop_count syms e t.stack) t.frames starts_now)

  -- the keys of arcs
  old_key : (arc : ArcKey) → has_arc arc t.arcs ≡ true → has_arc arc u.arcs ≡ true
  old_key arc there =
      ap (has_arc arc) now ∙ told.keys arc
      ∙ or_left (has_arc arc old.arcs) (has_arc arc (rows_of_tellings (closings total (dropped_track_frames syms e t) ++ pushing fresh)))
      (sym (ap (has_arc arc) was) ∙ there)

  new_key : (f : Activation) (arc : ArcKey) → fresh ≡ Some f → f.arc ≡ Some arc → has_arc arc u.arcs ≡ true
  new_key f arc some from =
      let pushing_is = ap pushing some ∙ ap (λ o. option_map_or (λ key. Pushed key ∷ []) o []) from in
      ap (has_arc arc) now ∙ told.keys arc
      ∙ or_right (has_arc arc old.arcs) (has_arc arc (rows_of_tellings (closings total (dropped_track_frames syms e t) ++ pushing fresh)))
      (ap (has_arc arc) (rows_of_tellings-append (closings total (dropped_track_frames syms e t)) (pushing fresh))
      ∙ has_arc-append arc (rows_of_tellings (closings total (dropped_track_frames syms e t))) (rows_of_tellings (pushing fresh))
      ∙ or_right (has_arc arc (rows_of_tellings (closings total (dropped_track_frames syms e t))))
      (has_arc arc (rows_of_tellings (pushing fresh)))
      (ap (λ ts. has_arc arc (rows_of_tellings ts)) pushing_is
      ∙ or_left (same_arc arc arc) false (same_arc_laws.refl arc)))

  keyed_with : (o : Option Activation) → fresh ≡ o → AreKeyed u.arcs (with_frame total o (kept_track_frames syms e t))
  keyed_with None none =
      keyed_on t.arcs u.arcs (kept_track_frames syms e t) old_key (AreKeyed-drop t.arcs (drop_count syms e t.stack) t.frames sound.keyed)
  keyed_with (Some f) some = (
    by f.arc refl,
    keyed_on t.arcs u.arcs (kept_track_frames syms e t) old_key (AreKeyed-drop t.arcs (drop_count syms e t.stack) t.frames sound.keyed),
  )
    where
      by : (from : Option ArcKey) → f.arc ≡ from → IfSome from (λ arc. has_arc arc u.arcs ≡ true)
      by None none = tt
      by (Some arc) from = new_key f arc some from

  -- as many frames as the stack has
  many_after : length (with_frame total fresh (kept_track_frames syms e t)) ≡ length (after syms t.stack e)
  many_after =
      many_with total fresh (change syms e t.stack).pushed (kept_track_frames syms e t) (change syms e t.stack).rest comes
      (kept_many_of syms e t sound)

  rooted_after : 0 < length (after syms t.stack e) → is_rooted (after syms t.stack e) ≡ true
  rooted_after some = by e.ends refl
    where
      by : (b : Bool) → e.ends ≡ b → is_rooted (after syms t.stack e) ≡ true
      by false goes_on = after-rooted syms t.stack e (sound.rooted live) goes_on
      by true ends = absurd (omega (arith, some, ap (length {A = Activation}) (after-end syms t.stack e ends)))

  -- the sums
  arc_sums_after : (kind : ℕ) (arc : ArcKey) → arc_sum kind arc u.arcs + open_sum kind total arc u.frames
      ≡ arc_sum kind arc t.arcs + open_sum kind total arc t.frames
  arc_sums_after kind arc =
      let parts = telling_costs-append kind arc (closings total (dropped_track_frames syms e t)) (pushing fresh) in
      let closed = closings_costs kind total arc (dropped_track_frames syms e t)
      (StartWithin-take total (drop_count syms e t.stack) t.frames starts_now) in
      let comes = pushing_costs kind arc fresh in
      let split = open_sum-split kind total arc (drop_count syms e t.stack) t.frames in
      let with_new = open_sum-with kind total arc fresh (kept_track_frames syms e t) in
      omega (
        arith,
        parts,
        closed,
        comes,
        split,
        with_new,
        told.costs kind arc,
        ap (arc_sum kind arc) now,
        ap (arc_sum kind arc) was,
      )

  call_sums_after : (arc : ArcKey) → call_sum arc u.arcs ≤ call_sum arc t.arcs + 1
  call_sums_after arc =
      let parts = telling_calls-append arc (closings total (dropped_track_frames syms e t)) (pushing fresh) in
      let closed = closings_calls total arc (dropped_track_frames syms e t) in
      let comes = pushing_calls arc fresh in
      omega (
        arith,
        parts,
        closed,
        comes,
        pushes_one arc fresh,
        told.calls arc,
        ap (call_sum arc) now,
        ap (call_sum arc) was,
      )

  pub summed_after : IsSummed u
  summed_after = record {
    whole = whole_sum t.total cost sound.whole whole;
    starts = starts_after;
    keyed = keyed_with fresh refl;
    rooted = rooted_after;
    as_many = many_after;
    line_sums = λ kind place. omega (arith, line_sums kind place, can.lines kind place);
    arc_sums = λ kind arc. omega (arith, arc_sums_after kind arc, can.arcs kind arc);
    call_sums = λ arc. omega (arith, call_sums_after arc, can.calls arc);
  }

-- ---- a thread that begins

no_starts : StartWithin no_cost []
no_starts k d less = absurd (omega (arith, less))

pub begun_summed : (thread : ThreadNo) (func number : FuncId) → IsSummed (first_track thread func number)
begun_summed thread func number = record {
  whole = refl;
  starts = starts_with no_cost (Some (record { func = number; kind = Root; arc = None })) [] no_starts;
  keyed = (tt, tt);
  rooted = λ some. refl;
  as_many = refl;
  line_sums = λ kind place. let none : line_sum kind place [] ≡ 0 = refl in omega (arith, none);
  arc_sums = λ kind arc.
      let none : arc_sum kind arc [] ≡ 0 = refl in
      let also : open_sum kind no_cost arc (first_track thread func number).frames ≡ 0 = refl in
      omega (arith, none, also);
  call_sums = λ arc. let none : call_sum arc [] ≡ 0 = refl in omega (arith, none);
}

-- ---- a cut

keyed_cleared : (rs : List ArcRow) (sum : List ℕ) (fs : List Frame) → AreKeyed rs fs
    → AreKeyed (cleared_arcs rs) (restarted_frames sum fs)
keyed_cleared rs sum [] all = tt
keyed_cleared rs sum (f ∷ fs) all = (by f.from all.0, keyed_cleared rs sum fs all.1)
  where
    by : (from : Option ArcKey) → IfSome from (λ arc. has_arc arc rs ≡ true)
        → IfSome from (λ arc. has_arc arc (cleared_arcs rs) ≡ true)
    by None key = tt
    by (Some arc) key = cleared_keys rs arc ∙ key

pub cut_summed : (t : Track) → IsSummed t → IsSummed (track_after_cut t)
cut_summed t sound =
    let none = none_stand t.arcs in
    record {
      whole = sound.whole;
      starts = StartWithin-restarted t.total t.frames;
      keyed = keyed_cleared t.arcs t.total t.frames sound.keyed;
      rooted = sound.rooted;
      as_many = length-map t.frames (restarted_frame t.total) ∙ sound.as_many;
      line_sums = λ kind q. omega (arith, no_lines kind q);
      arc_sums = λ kind arc. omega (arith, none.costs kind arc, open_sum-restarted kind t.total arc t.frames);
      call_sums = λ arc. omega (arith, none.calls arc);
    }
  where
    no_lines : (kind : ℕ) (q : Place) → line_sum kind q (cleared_lines t.lines) ≡ 0
    no_lines kind q = plain.none_stand t.lines kind q

-- a track that is cut
pub cut_track : (old new : Book) → frames_of new ≡ restarted_frames old.total (frames_of old)
    → new.rows.lines ≡ cleared_lines old.rows.lines → new.rows.arcs ≡ cleared_arcs old.rows.arcs
    → stack new.stack.frames ≡ stack old.stack.frames → SameThread old new → track_of new ≡ track_after_cut (track_of old)
cut_track old new frames lines arcs same_stack same = λ i. record {
  thread = same.thread i;
  stack = same_stack i;
  frames = frames i;
  total = same.total i;
  lines = lines i;
  arcs = arcs i;
}
