-- A watch after a step and after a cut.
use Rattle.std.proofs.Common.{◌≡◌, ℕ, suc, ◌+◌, ◌<◌, ◌||◌, Bool, false, true, List, [], ◌∷◌, Option, None}
use Rattle.std.proofs.Common.{IfSome, if◌then◌else◌, is_some}
use Rattle.std.proofs.Common.{Some, get_or, length, map, take, refl, sym, ap, subst, ◌∙◌, arith}
use Rattle.std.specs.Prelude.{slice_set}
use Rattle.std.specs.List.{AllByRecursion}
use Rattle.std.proofs.lemmas.List.{length-map, length-reverse}
use Rattle.event_costs.specs.declared.event.Event.{Event}
use Rattle.event_costs.specs.Keys.{Place}
use Rattle.event_costs.specs.declared.numbers.ThreadNo.{ThreadNo}
use Rattle.sym_map.specs.SymbolMap.{SymbolMap}
use Rattle.shadow_stack.specs.Changes.{Change, change}
use Rattle.shadow_stack.specs.Frames.{activation, restarted_frames, stack}
use Rattle.shadow_stack.specs.Stacks.{Activation, Stack}
use Rattle.arc_costs.specs.Arcs.{cleared_arcs}
use Rattle.arc_costs.specs.Lines.{cleared_lines, has_line}
use Rattle.event_costs.specs.Order.{same_place}
use Rattle.arc_costs.specs.Rows.{LineRow}
use Rattle.ctx_costs.proofs.Others.{cleared_keys, numbered_restarted, true_false}
use Rattle.recorder.specs.Laws.{AreApart}
use Rattle.contexts.specs.Contexts.{Context, context, AreDistinct, Held}
use Rattle.ctx_rows.specs.Telling.{CanCount}
use Rattle.ctx_rows.specs.States.{CtxState, Track, after_part, after_ready, after_seen, contexts_after, knows}
use Rattle.ctx_rows.specs.States.{contexts_with, track_after_cut, track_after_event, track}
use Rattle.ctx_rows.specs.States.{with_started, with_track}
use Rattle.ctx_costs.specs.inner.Tracks.{Book, IsFramed, IsKept, IsPlaceOf, IsReadyFor, IsRoomy, IsSound, IsWatching}
use Rattle.ctx_costs.specs.inner.Tracks.{SameThread, frames_of, numbers_of, track_of}
use Rattle.ctx_costs.proofs.NumberedLemmas.{open_many}
use Rattle.ctx_costs.proofs.ReadyLemmas.{distinct_with, filled_with, is_there, none_is_ready, there_is, threads_of}
use Rattle.ctx_costs.proofs.ReadyLemmas.{threads_set}
use Rattle.ctx_costs.proofs.SummedLemmas.{cut_summed, cut_track}
use Rattle.ctx_costs.proofs.WatchLemmas.{all_at, all_set, all_weaker, kept_more, track_at, with_track_at}

-- which thread is ready, where the one that has room may have stepped
abbrev pub ready_of : Bool → Option ThreadNo → Option ThreadNo
ready_of stepped roomy = if stepped then None else roomy

pub as_ready : (callers : ℕ) (held : Held) (books : List Book) (stepped : Bool) (roomy : Option ThreadNo)
    → IsWatching callers held books roomy → IsWatching callers held books (ready_of stepped roomy)
as_ready callers held books false roomy watching = watching
as_ready callers held books true roomy watching = record {
  few = watching.few;
  each = watching.each;
  apart = watching.apart;
  distinct = watching.distinct;
  filled = watching.filled;
  roomy = none_is_ready books;
  room = λ some. absurd (true_false (sym some));
}

-- a thread that is known is made ready
pub known_ready : (w : CtxState) (thread : ThreadNo) (pc : ℕ) (syms : SymbolMap) → knows w thread ≡ true
    → record w { ready = Some thread } ≡ after_ready w thread pc syms
known_ready w thread pc syms known =
    ap (λ k. record (if k then w else with_started syms w thread pc) { ready = Some thread }) (sym known)

pub placed_there : (place : Option ℕ) (books : List Book) (thread : ThreadNo)
    → IfSome place (λ k. IsPlaceOf books thread (Some k)) → is_some place ≡ true → is_there thread books ≡ true
placed_there None books thread at some = absurd (true_false (sym some))
placed_there (Some k) [] thread at some = absurd (omega (arith, at.0))
placed_there (Some k) (b ∷ books) thread at some = there_is (b ∷ books) thread k b at.0 (at.1 b)

some_taken : (n : ℕ) (x : ℕ) (xs : List ℕ) → 0 < length (take (n + 1) (x ∷ xs))
some_taken n x xs =
    let more : suc n ≡ n + 1 = omega arith in
    subst (λ m. 0 < length (take m (x ∷ xs))) more (omega arith)

pub some_context : (callers : ℕ) (a : Activation) (s : Stack) → 0 < length (context callers (a ∷ s))
some_context callers a s = some_taken callers a.func.0 (map (λ (b : Activation). b.func.0) s)

module _ (callers : ℕ) (cs : List Context) (s : Stack) where
  kept_with : (p : Option Activation) (b : Book) → IsKept callers cs b → IsKept callers (contexts_with callers cs p s) b
  kept_with None b kept = kept
  kept_with (Some a) b kept = kept_more callers cs (context callers (a ∷ s)) b kept

  distinct_after : (p : Option Activation) → AreDistinct cs → AreDistinct (contexts_with callers cs p s)
  distinct_after None distinct = distinct
  distinct_after (Some a) distinct = distinct_with cs (context callers (a ∷ s)) distinct

  filled_after : (p : Option Activation) → AllByRecursion (λ (c : Context). 0 < length c) cs
      → AllByRecursion (λ (c : Context). 0 < length c) (contexts_with callers cs p s)
  filled_after None filled = filled
  filled_after (Some a) filled = filled_with cs (context callers (a ∷ s)) (some_context callers a s) filled

module _ (callers : ℕ) (held now : Held) (books : List Book) (ready : Option ThreadNo)
    (watching : IsWatching callers held books ready) (thread : ThreadNo) (place : ℕ) (less : place < length books)
    (is : (d : Book) → (get_or books place d).thread.0 ≡ thread.0) (old d : Book) (old_is : old ≡ get_or books place d)
  where
    abbrev w : CtxState
    w = record { callers = callers; contexts = held.contexts; tracks = map track_of books; ready = ready }

    pub track_now : track w thread ≡ track_of old
    track_now = track_at books thread place d watching.apart less (is d) ∙ ap track_of (sym old_is)

    own_thread : old.thread.0 ≡ thread.0
    own_thread = ap (λ (b : Book). b.thread.0) old_is ∙ is d

    pub here_live : 0 < length (track w thread).stack → 0 < length old.stack.frames
    here_live some =
        let all = length-map old.stack.frames activation in
        let now_ = subst (λ (t : Track). 0 < length t.stack) track_now some in
        omega (arith, all, now_)

    pub here_can : (cost : List ℕ) → CanCount (track w thread) cost → CanCount (track_of old) cost
    here_can cost can = subst (λ (t : Track). CanCount t cost) track_now can

    pub here_kept : IsKept callers held.contexts old
    here_kept =
        subst (λ (b : Book). IsKept callers held.contexts b) (sym old_is)
        (all_at (IsKept callers held.contexts) books place d watching.each less)

    pub here_framed : 0 < length (track w thread).stack → 0 < length old.numbers.items
    here_framed some =
        let live = here_live some in
        let many = open_many old.stack.frames (numbers_of old) here_kept.framed.entered in
        let all = length-reverse old.numbers.items in
        omega (arith, live, many, all)

    -- any track in the place of that thread's
    module _ (new : Book) (same : new.thread ≡ old.thread) where
      apart_now : AreApart (threads_of (slice_set books place new))
      apart_now =
          let at : (e : Book) → new.thread ≡ (get_or books place e).thread
          = λ e. same ∙ (λ i. record { 0 = (own_thread ∙ sym (is e)) i }) in
          subst AreApart (sym (threads_set books place new at)) watching.apart

      tracks_now : (t : Track) → track_of new ≡ t → with_track t (map track_of books)
          ≡ map track_of (slice_set books place new)
      tracks_now t track_is =
          ap (λ (u : Track). with_track u (map track_of books)) (sym track_is)
          ∙ with_track_at books new place d watching.apart less
          (ap (λ (b : Book). b.thread.0) (sym old_is) ∙ ap (λ (n : ThreadNo). n.0) (sym same))

    -- after a step that uses no room
    pub plain_watch : (new : Book) → IsKept callers held.contexts new
        → new.thread ≡ old.thread → IsRoomy new → IsWatching callers held (slice_set books place new) ready
    plain_watch new kept same room = record {
      few = watching.few;
      each = all_set (IsKept callers held.contexts) books place new watching.each kept;
      apart = apart_now new same;
      distinct = watching.distinct;
      filled = watching.filled;
      roomy = all_set (IsReadyFor ready) books place new watching.roomy (λ own. room);
      room = watching.room;
    }

    -- after a step
    module _ (syms : SymbolMap) (e : Event) (cost : List ℕ) (new : Book) (of : e.thread ≡ thread)
        (track_is : track_of new ≡ track_after_event callers held.contexts syms e cost (track_of old))
        (contexts : now.contexts ≡ contexts_after callers held.contexts (change syms e (stack old.stack.frames)))
        (kept : IsKept callers now.contexts new) where
      abbrev made : Change
      made = change syms e (stack old.stack.frames)

      same_thread : new.thread ≡ old.thread
      same_thread = ap (λ (t : Track). t.thread) track_is

      pub seen_watch : IsWatching callers now (slice_set books place new) None
      seen_watch = record {
        few = watching.few;
        each =
            all_set (IsKept callers now.contexts) books place new
            (all_weaker (IsKept callers held.contexts) (IsKept callers now.contexts) books
            (λ b was. subst (λ (cs : List Context). IsKept callers cs b) (sym contexts)
            (kept_with callers held.contexts made.rest made.pushed b was)) watching.each) kept;
        apart = apart_now new same_thread;
        distinct =
            subst AreDistinct (sym contexts)
            (distinct_after callers held.contexts made.rest made.pushed watching.distinct);
        filled =
            subst (λ (cs : List Context). AllByRecursion (λ (c : Context). 0 < length c) cs) (sym contexts)
            (filled_after callers held.contexts made.rest made.pushed watching.filled);
        roomy = none_is_ready (slice_set books place new);
        room = λ some. absurd (true_false (sym some));
      }

      pub seen_state : ◌≡◌ {A = CtxState}
          (record {
            callers = callers;
            contexts = now.contexts;
            tracks = map track_of (slice_set books place new);
            ready = None;
          }) (after_seen w e cost syms)
      seen_state =
          let own : track w e.thread ≡ track_of old = ap (track w) of ∙ track_now in
          let contexts_ : now.contexts ≡ contexts_after callers held.contexts (change syms e (track w e.thread).stack)
          = contexts ∙ ap (λ (t : Track). contexts_after callers held.contexts (change syms e t.stack)) (sym own) in
          let tracks : map track_of (slice_set books place new)
          ≡ with_track (track_after_event callers held.contexts syms e cost (track w e.thread)) (map track_of books)
          = sym (tracks_now new same_thread (track_after_event callers held.contexts syms e cost (track_of old)) track_is)
          ∙ ap (λ (t : Track). with_track (track_after_event callers held.contexts syms e cost t) (map track_of books))
          (sym own) in
          λ i. record { callers = callers; contexts = contexts_ i; tracks = tracks i; ready = None }

    -- after a cut
    module _ (new : Book) (frames : frames_of new ≡ restarted_frames old.total (frames_of old))
        (lines : new.rows.lines ≡ cleared_lines old.rows.lines) (arcs : new.rows.arcs ≡ cleared_arcs old.rows.arcs)
        (same_stack : stack new.stack.frames ≡ stack old.stack.frames) (same : SameThread old new) (framed : IsFramed new)
      where
        same_lines : (rs : List LineRow) (q : Place) → has_line q (cleared_lines rs) ≡ has_line q rs
        same_lines [] q = refl
        same_lines (r ∷ rs) q = ap (λ b. same_place q r.place || b) (same_lines rs q)

        cut_sound : (cs : List Context) (t : Track) → IsSound callers cs t → IsSound callers cs (track_after_cut t)
        cut_sound cs t sound = record {
          sums = cut_summed t sound.sums;
          numbered = numbered_restarted callers cs t.total t.frames t.stack sound.numbered;
          lines = λ q there. sound.lines q (sym (same_lines t.lines q) ∙ there);
          arcs = λ arc there. sound.arcs arc (sym (cleared_keys t.arcs arc) ∙ there);
        }

        now_cut : track_of new ≡ track_after_cut (track_of old)
        now_cut = cut_track old new frames lines arcs same_stack same

        new_kept : IsKept callers held.contexts new
        new_kept = record {
          framed = framed;
          sound =
              subst (λ (t : Track). IsSound callers held.contexts t) (sym now_cut)
              (cut_sound held.contexts (track_of old) here_kept.sound);
        }

        pub cut_watch : (IsRoomy old → IsRoomy new) → IsWatching callers held (slice_set books place new) ready
        cut_watch room_kept = record {
          few = watching.few;
          each = all_set (IsKept callers held.contexts) books place new watching.each new_kept;
          apart = apart_now new same.thread;
          distinct = watching.distinct;
          filled = watching.filled;
          roomy = all_set (IsReadyFor ready) books place new watching.roomy
              (λ own. room_kept (was_roomy (own ∙ ap (λ (n : ThreadNo). Some n) same.thread)));
          room = watching.room;
        }
          where
            was_roomy : IsReadyFor ready old
            was_roomy =
                subst (λ (b : Book). IsReadyFor ready b) (sym old_is)
                (all_at (IsReadyFor ready) books place d watching.roomy less)

        pub cut_state : ◌≡◌ {A = CtxState}
            (record {
              callers = callers;
              contexts = held.contexts;
              tracks = map track_of (slice_set books place new);
              ready = ready;
            }) (after_part w thread)
        cut_state =
            let tracks : map track_of (slice_set books place new) ≡ with_track (track_after_cut (track w thread))
            (map track_of books)
            = sym (tracks_now new same.thread (track_after_cut (track_of old)) now_cut)
            ∙ ap (λ (t : Track). with_track (track_after_cut t) (map track_of books)) (sym track_now) in
            λ i. record { callers = callers; contexts = held.contexts; tracks = tracks i; ready = ready }
