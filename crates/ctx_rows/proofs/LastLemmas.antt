-- After each watched run the next call may be made, and the rows of a thread are those of its events since
-- its last part.
use Rattle.std.proofs.Common.{◌≡◌, ◌≢◌, ◌⊎◌, inl, inr, ℕ, ◌==◌, Bool, true, false}
use Rattle.std.proofs.Common.{List, [], ◌∷◌, ◌++◌, None, Some, length}
use Rattle.std.proofs.Common.{refl, ap, sym, subst, ◌∙◌, arith, append_assoc, if◌then◌else◌}
use Rattle.std.specs.List.{AllByRecursion, list_any}
use Rattle.std.proofs.lemmas.List.{append-nil}
use Rattle.event_costs.specs.declared.numbers.ThreadNo.{ThreadNo}
use Rattle.sym_map.specs.SymbolMap.{SymbolMap}
use Rattle.arc_costs.specs.Contents.{Listed}
use Rattle.cg_format.specs.declared.head.PartHead.{PartHead}
use Rattle.part_dump.specs.Calls.{Call, Readies, Sees, Writes}
use Rattle.part_dump.specs.Steps.{Step, steps_of_thread}
use Rattle.part_dump.specs.Watched.{FitAll, Fits, AreWatched, ready_pc, steps_in}
use Rattle.part_dump.specs.Watching.{Can, after_call, after_calls}
use Rattle.ctx_rows.proofs.Others.{last-push, same_thread}
use Rattle.ctx_rows.specs.Rows.{ctx_rows_of}
use Rattle.ctx_rows.specs.Known.{AreKnown}
use Rattle.ctx_rows.specs.Telling.{CanSee, CanWrite, rows_in}
use Rattle.ctx_rows.specs.Since.{StandsOn, since}
use Rattle.ctx_rows.specs.States.{CtxState, Track, track_after_cut, is_track_of, knows, track}
use Rattle.ctx_rows.specs.Watching.{IsFresh, by_context}
use Rattle.ctx_rows.proofs.EventRowLemmas.{rows_are}
use Rattle.ctx_rows.proofs.HoldsLemmas.{HasTrack, Holds, by_thread, can_see, has_cut, holds_ready}
use Rattle.ctx_rows.proofs.HoldsLemmas.{holds_seen, if_other, if_same}
use Rattle.ctx_rows.proofs.HoldsLemmas.{moved, readied_more, since_more, stands_at, steps_more, true_false}
use Rattle.ctx_rows.proofs.KnownRowLemmas.{rows_known}
use Rattle.ctx_rows.proofs.TrackLemmas.{knows_with, track_other, track_with}

-- the rows that a watch has of a thread
pub rows_now : (syms : SymbolMap) (callers : ℕ) (w : CtxState) (calls : List Call) → Holds syms callers w calls
    → (thread : ThreadNo) → knows w thread ≡ true → rows_in w thread ≡ ctx_rows_of callers syms (since thread.0 calls)
unfolding rows_in
rows_now syms callers w calls holds thread known =
    rows_are callers w.contexts syms (since thread.0 calls) (track w thread) (holds.tracks thread known).tracked

-- ---- a part

module _ (syms : SymbolMap) (callers : ℕ) (w : CtxState) (calls : List Call) (holds : Holds syms callers w calls)
    (head : PartHead) (rows : Listed) (fits : Fits syms calls (Writes head rows)) where
  abbrev part : Call
  part = Writes head rows

  pub known_part : knows w head.thread ≡ true
  known_part = by (knows w head.thread) refl
    where
      by : (b : Bool) → knows w head.thread ≡ b → knows w head.thread ≡ true
      by true is = is
      by false none =
          let has_none = ap (length {A = Step}) (holds.unknown head.thread none).0 in
          absurd (omega (arith, has_none, fits.0))

  has : HasTrack syms callers w.contexts (steps_in calls) (since head.thread.0 calls) (ready_pc head.thread.0 calls)
      head.thread.0 (track w head.thread)
  has = holds.tracks head.thread known_part

  pub can_write : CanWrite w head.thread syms
  can_write = record {
    knows = known_part;
    rows = λ sound.
        subst (AreKnown syms) (sym (rows_now syms callers w calls holds head.thread known_part))
        (rows_known syms sound callers (since head.thread.0 calls) has.stand has.reached);
  }

  abbrev made : CtxState
  made = after_call by_context syms w part

  abbrev new : Track
  new = track_after_cut (track w head.thread)

  past_now : steps_in (calls ++ part ∷ []) ≡ steps_in calls
  past_now = steps_more calls part ∙ append-nil (steps_in calls)

  since_now : (t : ThreadNo) → since t.0 (calls ++ part ∷ []) ≡ (if head.thread.0 == t.0 then [] else since t.0 calls)
  since_now t = since_more t.0 calls part

  readied_now : (t : ThreadNo) → ready_pc t.0 (calls ++ part ∷ []) ≡ ready_pc t.0 calls
  readied_now t = readied_more t.0 calls part

  track_now : (t : ThreadNo) → (t.0 ≡ head.thread.0) ⊎ (t.0 ≢ head.thread.0) → knows w t ≡ true
      → HasTrack syms callers w.contexts (steps_in (calls ++ part ∷ [])) (since t.0 (calls ++ part ∷ []))
      (ready_pc t.0 (calls ++ part ∷ [])) t.0 (track made t)
  track_now t (inl same) there =
      let owner : new.thread.0 ≡ head.thread.0 = has.own_thread in
      let is : track made t ≡ new
      = track_with w.tracks new t
      (subst (λ (n : ThreadNo). list_any (is_track_of n) w.tracks ≡ true) (sym (same_thread new.thread head.thread owner))
      known_part) (same ∙ sym owner) in
      moved syms callers w.contexts (steps_in calls) (steps_in (calls ++ part ∷ [])) [] (since t.0 (calls ++ part ∷ []))
      (ready_pc t.0 calls) (ready_pc t.0 (calls ++ part ∷ [])) t.0 new (track made t) past_now
      (since_now t ∙ if_same head.thread.0 t.0 [] (since t.0 calls) (sym same)) (readied_now t) is
      (subst (λ n. HasTrack syms callers w.contexts (steps_in calls) [] (ready_pc n calls) n new) (sym same)
      (has_cut syms callers w.contexts (steps_in calls) (since head.thread.0 calls) (ready_pc head.thread.0 calls)
      head.thread.0 (track w head.thread) has))
  track_now t (inr apart) there =
      let owner : new.thread.0 ≡ head.thread.0 = has.own_thread in
      let is : track made t ≡ track w t = track_other w.tracks new t (λ e. apart (e ∙ owner)) in
      moved syms callers w.contexts (steps_in calls) (steps_in (calls ++ part ∷ [])) (since t.0 calls)
      (since t.0 (calls ++ part ∷ [])) (ready_pc t.0 calls) (ready_pc t.0 (calls ++ part ∷ [])) t.0 (track w t)
      (track made t) past_now
      (since_now t ∙ if_other head.thread.0 t.0 [] (since t.0 calls) (λ e. apart (sym e))) (readied_now t) is
      (holds.tracks t there)

  knows_still : (t : ThreadNo) → knows made t ≡ knows w t
  knows_still t = knows_with w.tracks new t

  pub holds_part : Holds syms callers made (calls ++ part ∷ [])
  holds_part = record {
    same_callers = holds.same_callers;
    ready = λ t q e. absurd (never t q (sym (last-push calls part) ∙ e));
    tracks = λ t there. track_now t (by_thread t head.thread) (sym (knows_still t) ∙ there);
    unknown = λ t none. others t (by_thread t head.thread) (sym (knows_still t) ∙ none);
  }
    where
      never : (t : ThreadNo) (q : ℕ) → Some (Writes head rows) ≡ Some (Readies t q) → ⊥
      never t q e = cc

      others : (t : ThreadNo) → (t.0 ≡ head.thread.0) ⊎ (t.0 ≢ head.thread.0) → knows w t ≡ false
          → (steps_of_thread t.0 (steps_in (calls ++ part ∷ [])) ≡ []) × (since t.0 (calls ++ part ∷ []) ≡ [])
      others t (inl same) none =
          absurd (true_false (sym (ap (knows w) (same_thread t head.thread same) ∙ known_part) ∙ none))
      others t (inr apart) none = (
        ap (steps_of_thread t.0) past_now ∙ (holds.unknown t none).0,
        since_now t ∙ if_other head.thread.0 t.0 [] (since t.0 calls) (λ e. apart (sym e)) ∙ (holds.unknown t none).1,
      )

-- ---- any call, and calls one after another

pub holds_more : (syms : SymbolMap) (callers : ℕ) (w : CtxState) (calls : List Call) (c : Call)
    → Holds syms callers w calls
    → Fits syms calls c → Holds syms callers (after_call by_context syms w c) (calls ++ c ∷ [])
holds_more syms callers w calls (Readies thread pc) holds fits = holds_ready syms callers w calls holds thread pc fits
holds_more syms callers w calls (Sees x) holds fits = holds_seen syms callers w calls holds x fits
holds_more syms callers w calls (Writes head rows) holds fits = holds_part syms callers w calls holds head rows fits

can_more : (syms : SymbolMap) (callers : ℕ) (w : CtxState) (calls : List Call) (c : Call) → Holds syms callers w calls
    → Fits syms calls c
    → Can (λ w_ event cost wait woken m. CanSee w_ event cost) (λ w_ head rows m. CanWrite w_ head.thread m) syms w c
can_more syms callers w calls (Readies thread pc) holds fits = tt
can_more syms callers w calls (Sees x) holds fits = can_see syms callers w calls holds x fits
can_more syms callers w calls (Writes head rows) holds fits = can_write syms callers w calls holds head rows fits

pub holds_all : (syms : SymbolMap) (callers : ℕ) (w : CtxState) (earlier calls : List Call) → Holds syms callers w earlier
    → FitAll syms earlier calls → Holds syms callers (after_calls by_context syms w calls) (earlier ++ calls)
holds_all syms callers w earlier [] holds fit = subst (Holds syms callers w) (sym (append-nil earlier)) holds
holds_all syms callers w earlier (c ∷ calls) holds fit =
    subst (Holds syms callers (after_calls by_context syms w (c ∷ calls))) (append_assoc earlier (c ∷ []) calls)
    (holds_all syms callers (after_call by_context syms w c) (earlier ++ c ∷ []) calls
    (holds_more syms callers w earlier c holds fit.0) fit.1)

can_all : (syms : SymbolMap) (callers : ℕ) (w : CtxState) (earlier calls : List Call) (c : Call)
    → Holds syms callers w earlier → FitAll syms earlier (calls ++ c ∷ [])
    → Can (λ w_ event cost wait woken m. CanSee w_ event cost) (λ w_ head rows m. CanWrite w_ head.thread m) syms
    (after_calls by_context syms w calls) c
can_all syms callers w earlier [] c holds fit = can_more syms callers w earlier c holds fit.0
can_all syms callers w earlier (a ∷ calls) c holds fit =
    can_all syms callers (after_call by_context syms w a) (earlier ++ a ∷ []) calls c
    (holds_more syms callers w earlier a holds fit.0) fit.1

pub fresh_holds : (syms : SymbolMap) (first : CtxState) → IsFresh first → Holds syms first.callers first []
fresh_holds syms first fresh = record {
  same_callers = refl;
  ready = λ t q e. absurd (no_last t q e);
  tracks = λ t there. absurd (true_false (sym there ∙ none t));
  unknown = λ t there. (refl, refl);
}
  where
    no_last : (t : ThreadNo) (q : ℕ) → None ≡ Some (Readies t q) → ⊥
    no_last t q e = cc

    none : (t : ThreadNo) → knows first t ≡ false
    none t = ap (list_any (is_track_of t)) fresh.tracks

-- a call that goes on with a watched run may be made
pub lasts : (syms : SymbolMap) (first : CtxState) (calls : List Call) (call : Call) → IsFresh first
    → AreWatched syms (calls ++ call ∷ [])
    → Can (λ w event cost wait woken m. CanSee w event cost) (λ w head rows m. CanWrite w head.thread m) syms
    (after_calls by_context syms first calls) call
lasts syms first calls call fresh watched =
    can_all syms first.callers first [] calls call (fresh_holds syms first fresh) watched

-- after a watched run the rows of a thread are those of its events since its last part
pub run_rows : (syms : SymbolMap) (first : CtxState) (calls : List Call) (thread : ThreadNo) → IsFresh first
    → AreWatched syms calls → knows (after_calls by_context syms first calls) thread ≡ true
    → rows_in (after_calls by_context syms first calls) thread ≡ ctx_rows_of first.callers syms (since thread.0 calls)
run_rows syms first calls thread fresh watched known =
    rows_now syms first.callers (after_calls by_context syms first calls) calls
    (holds_all syms first.callers first [] calls (fresh_holds syms first fresh) watched) thread known

-- the events of a watched run stand on their stacks
stand_from : (syms : SymbolMap) (callers : ℕ) (w : CtxState) (earlier calls : List Call) → Holds syms callers w earlier
    → FitAll syms earlier calls → AllByRecursion (λ (x : Step). StandsOn syms x.on_stack) (steps_in calls)
stand_from syms callers w earlier [] holds fit = tt
stand_from syms callers w earlier (Readies thread pc ∷ calls) holds fit =
    stand_from syms callers (after_call by_context syms w (Readies thread pc)) (earlier ++ Readies thread pc ∷ []) calls
    (holds_more syms callers w earlier (Readies thread pc) holds fit.0) fit.1
stand_from syms callers w earlier (Sees x ∷ calls) holds fit = (
  stands_at syms callers w earlier holds x fit.0,
  stand_from syms callers (after_call by_context syms w (Sees x)) (earlier ++ Sees x ∷ []) calls
      (holds_more syms callers w earlier (Sees x) holds fit.0) fit.1,
)
stand_from syms callers w earlier (Writes head rows ∷ calls) holds fit =
    stand_from syms callers (after_call by_context syms w (Writes head rows)) (earlier ++ Writes head rows ∷ []) calls
    (holds_more syms callers w earlier (Writes head rows) holds fit.0) fit.1

pub all_stand : (syms : SymbolMap) (calls : List Call) → AreWatched syms calls
    → AllByRecursion (λ (x : Step). StandsOn syms x.on_stack) (steps_in calls)
all_stand syms calls watched =
    let first : CtxState = record { callers = 1; contexts = []; tracks = []; ready = None } in
    stand_from syms 1 first [] calls
    (fresh_holds syms first
    (record { few = omega arith; contexts = refl; tracks = refl; ready = refl }))
    watched
