-- The law of the watch: after each watched run, what is kept stands for the run's steps.
use Rattle.std.specs.Prelude.{◌≡◌, ℕ, zero, suc, ◌+◌, ◌<◌, ◌≤◌, Bool, true, false, nat_le, if◌then◌else◌, List, [], ◌∷◌, ◌++◌}
use Rattle.std.specs.Prelude.{length, Option, None, Some, is_some, refl}
use Rattle.std.proofs.Common.{sym, ap, subst, ◌∙◌, append_assoc, arith, replicate, get_or}
use Rattle.std.proofs.lemmas.Grind.{flat_map-append}
use Rattle.std.proofs.lemmas.Bool.{leb-false}
use Rattle.std.proofs.lemmas.List.{append-nil}
use Rattle.std.proofs.lemmas.List.Sums.{count_by-le-length}
use Rattle.event_costs.specs.Costs.{event_kinds}
use Rattle.event_costs.specs.declared.numbers.ThreadNo.{ThreadNo}
use Rattle.sym_map.specs.SymbolMap.{SymbolMap}
use Rattle.shadow_stack.specs.Traces.{EventOnStack}
use Rattle.cg_format.specs.Part.{AreKnown}
use Rattle.part_dump.specs.Calls.{Call, Readies, Sees, Writes}
use Rattle.part_dump.specs.Steps.{Step, event_of}
use Rattle.part_dump.specs.Watched.{FitAll, Fits, IsOrderly, AreWatched, last_of, steps_in, steps_of}
use Rattle.part_dump.specs.Watching.{Can, KeepsRoom, after_call, after_calls}
use Rattle.wait_report.specs.Keeping.{IsRoomy, WaitBooks, WaitState, begins_any, nothing, open_count, after_event}
use Rattle.wait_report.specs.Keeping.{roomy, steps, wakes, wakes_all, watching}
use Rattle.wait_report.specs.Standing.{CanSee, MayAllFollow, MayFollow, StandsFor, step}
use Rattle.wait_report.specs.inner.Beginning.{begins_one}
use Rattle.wait_report.specs.inner.Passing.{passes}
use Rattle.wait_report.specs.inner.Waking.{wakes_one}

-- ---- one step

-- each thread of a list is woken
pub wakes_each : (ys : List Step) (seen : EventOnStack) (before woken : List ThreadNo) (k : WaitBooks)
    → StandsFor k (ys ++ step seen None before ∷ [])
    → StandsFor (wakes_all seen.event.thread woken k) (ys ++ step seen None (before ++ woken) ∷ [])
wakes_each ys seen before [] k stands =
    subst (λ ws. StandsFor k (ys ++ step seen None ws ∷ [])) (sym (append-nil before)) stands
wakes_each ys seen before (t ∷ woken) k stands =
    subst (λ ws. StandsFor (wakes_all seen.event.thread (t ∷ woken) k) (ys ++ step seen None ws ∷ []))
    (append_assoc before (t ∷ []) woken)
    (wakes_each ys seen (before ++ t ∷ []) woken (wakes seen.event.thread k t) (wakes_one ys seen before t k stands))

begins_if : (ys : List Step) (seen : EventOnStack) (wait : Option ℕ) (woken : List ThreadNo) (k : WaitBooks)
    → StandsFor k (ys ++ step seen None woken ∷ [])
    → StandsFor (begins_any seen.event.thread wait k) (ys ++ step seen wait woken ∷ [])
begins_if ys seen None woken k stands = stands
begins_if ys seen (Some word) woken k stands = begins_one ys seen woken word k stands

quiet : (ys : List Step) (x : Step) → MayFollow ys x → MayFollow ys (step x.on_stack None [])
quiet ys x follows = record {
  whole = follows.whole;
  ones = follows.ones;
  room = follows.room;
  awake = follows.awake;
}

-- what is kept after steps
abbrev pub books_after : WaitBooks → List Step → WaitBooks
books_after k [] = k
books_after k (x ∷ xs) = books_after (steps x.on_stack.event.thread x.on_stack.cost x.wait x.woken k) xs

pub stands_step : (k : WaitBooks) (ys : List Step) (x : Step) → StandsFor k ys → MayFollow ys x
    → StandsFor (steps x.on_stack.event.thread x.on_stack.cost x.wait x.woken k) (ys ++ x ∷ [])
stands_step k ys x stands follows =
    begins_if ys x.on_stack x.wait x.woken (wakes_all x.on_stack.event.thread x.woken (after_event x.on_stack.cost k))
    (wakes_each ys x.on_stack [] x.woken (after_event x.on_stack.cost k) (passes k ys x.on_stack stands (quiet ys x follows)))

-- steps that may follow those for which it stands
pub stands_after : (k : WaitBooks) (earlier xs : List Step) → StandsFor k earlier → MayAllFollow earlier xs
    → StandsFor (books_after k xs) (earlier ++ xs)
stands_after k earlier [] stands follow = subst (StandsFor k) (sym (append-nil earlier)) stands
stands_after k earlier (x ∷ xs) stands follow =
    subst (StandsFor (books_after k (x ∷ xs))) (append_assoc earlier (x ∷ []) xs)
    (stands_after (steps x.on_stack.event.thread x.on_stack.cost x.wait x.woken k) (earlier ++ x ∷ []) xs
    (stands_step k earlier x stands follow.0) follow.1)

-- ---- a run

abbrev none_at : ℕ
none_at = 0

zeros : (n kind : ℕ) → get_or (replicate n 0) kind 0 ≡ none_at
zeros zero kind = refl
zeros (suc n) zero = refl
zeros (suc n) (suc kind) = zeros n kind

pub nothing_stands : StandsFor nothing []
nothing_stands = record {
  few = omega arith;
  ones = λ kind. omega arith;
  whole = refl;
  total = λ kind. zeros event_kinds kind;
  asleep = λ thread. refl;
  waiting = λ thread word. refl;
  known = λ s. refl;
  waits = λ s. refl;
  whole_sums = λ s. refl;
  costs = λ s kind. sym (zeros event_kinds kind);
  within = λ kind s. omega arith;
  known_wakes = λ w. refl;
  ended = λ w. refl;
}

pub may_follow : (syms : SymbolMap) (ys : List Step) (x : Step) → IsOrderly syms ys x → MayFollow ys x
may_follow syms ys x orderly = record {
  whole = orderly.whole;
  ones = orderly.ones;
  room = orderly.room;
  awake = orderly.awake;
}

-- once room is made, there is room
roomy_has : (w : WaitState) → IsRoomy (roomy w)
roomy_has w = by (nat_le w.room (length w.books.waiting)) refl
  where
    few : open_count w.books.waiting ≤ length w.books.waiting
    few = count_by-le-length (λ e. is_some e.1) w.books.waiting

    by : (b : Bool) → nat_le w.room (length w.books.waiting) ≡ b
        → open_count w.books.waiting < (if b then length w.books.waiting + 1 else w.room)
    by true e = omega (arith, few)
    by false e = omega (arith, few, leb-false w.room (length w.books.waiting) e)

pub watching_keeps_room : KeepsRoom watching (λ w thread. IsRoomy w) CanSee
watching_keeps_room = record {
  ready = λ w thread pc syms. roomy_has w;
  seen = λ w event cost wait woken syms can. can.room;
}

-- What holds after calls: what is kept stands for their steps, and after a call of `ready` there is room.
pub record Holds (w : WaitState) (calls : List Call) : Type 0 where
  pub stands : StandsFor w.books (steps_in calls)
  pub room : (thread : ThreadNo) (pc : ℕ) → last_of calls ≡ Some (Readies thread pc) → IsRoomy w

last_more : (calls : List Call) (c : Call) → last_of (calls ++ c ∷ []) ≡ Some c
last_more [] c = refl
last_more (a ∷ []) c = refl
last_more (a ∷ (b ∷ calls)) c = last_more (b ∷ calls) c

pub steps_more : (calls : List Call) (c : Call) → steps_in (calls ++ c ∷ []) ≡ steps_in calls ++ steps_of c
steps_more calls c = flat_map-append steps_of calls (c ∷ []) ∙ ap (λ xs. steps_in calls ++ xs) (append-nil (steps_of c))

pub holds_more : (syms : SymbolMap) (w : WaitState) (calls : List Call) (c : Call) → Holds w calls → Fits syms calls c
    → Holds (after_call watching syms w c) (calls ++ c ∷ [])
holds_more syms w calls (Readies thread pc) holds fits = record {
  stands = subst (StandsFor w.books) (sym (steps_more calls (Readies thread pc) ∙ append-nil (steps_in calls)))
      holds.stands;
  room = λ t p e. roomy_has w;
}
holds_more syms w calls (Sees x) holds fits = record {
  stands = subst (StandsFor (steps x.on_stack.event.thread x.on_stack.cost x.wait x.woken w.books))
      (sym (steps_more calls (Sees x)))
      (stands_step w.books (steps_in calls) x holds.stands (may_follow syms (steps_in calls) x fits.1));
  room = λ t p e. absurd (not_ready (sym (last_more calls (Sees x)) ∙ e));
}
  where
    not_ready : {t : ThreadNo} {p : ℕ} → Some (Sees x) ≡ Some (Readies t p) → ⊥
    not_ready e = cc
holds_more syms w calls (Writes head rows) holds fits = record {
  stands = subst (StandsFor w.books) (sym (steps_more calls (Writes head rows) ∙ append-nil (steps_in calls)))
      holds.stands;
  room = λ t p e. absurd (not_ready (sym (last_more calls (Writes head rows)) ∙ e));
}
  where
    not_ready : {t : ThreadNo} {p : ℕ} → Some (Writes head rows) ≡ Some (Readies t p) → ⊥
    not_ready e = cc

can_more : (syms : SymbolMap) (w : WaitState) (calls : List Call) (c : Call) → Holds w calls → Fits syms calls c
    → Can CanSee (λ v head rows s. AreKnown s rows) syms w c
can_more syms w calls (Readies thread pc) holds fits = tt
can_more syms w calls (Sees x) holds fits = record {
  room = holds.room (event_of x).thread (event_of x).done.pc fits.0;
  earlier = steps_in calls;
  stands = holds.stands;
  follows = record {
    whole = fits.1.whole;
    ones = fits.1.ones;
    room = fits.1.room;
    awake = fits.1.awake;
  };
}
can_more syms w calls (Writes head rows) holds fits = fits.1

can_all : (syms : SymbolMap) (w : WaitState) (earlier calls : List Call) (c : Call) → Holds w earlier
    → FitAll syms earlier (calls ++ c ∷ [])
    → Can CanSee (λ v head rows s. AreKnown s rows) syms (after_calls watching syms w calls) c
can_all syms w earlier [] c holds fit = can_more syms w earlier c holds fit.0
can_all syms w earlier (a ∷ calls) c holds fit =
    can_all syms (after_call watching syms w a) (earlier ++ a ∷ []) calls c
    (holds_more syms w earlier a holds fit.0) fit.1

pub fresh_holds : (first : WaitState) → first.books ≡ nothing → Holds first []
fresh_holds first fresh = record {
  stands = subst (λ k. StandsFor k []) (sym fresh) nothing_stands;
  room = λ t p e. absurd (no_last e);
}
  where
    no_last : {t : ThreadNo} {p : ℕ} → None ≡ Some (Readies t p) → ⊥
    no_last e = cc

-- what is kept after calls is what their steps make of it
calls_keep : (syms : SymbolMap) (w : WaitState) (calls : List Call)
    → (after_calls watching syms w calls).books ≡ books_after w.books (steps_in calls)
calls_keep syms w [] = refl
calls_keep syms w (Readies thread pc ∷ calls) = calls_keep syms (after_call watching syms w (Readies thread pc)) calls
calls_keep syms w (Sees x ∷ calls) = calls_keep syms (after_call watching syms w (Sees x)) calls
calls_keep syms w (Writes head rows ∷ calls) = calls_keep syms (after_call watching syms w (Writes head rows)) calls

-- what is kept after a run stands for its steps
pub run_stands : (syms : SymbolMap) (first : WaitState) (calls : List Call) → first.books ≡ nothing
    → MayAllFollow [] (steps_in calls) → StandsFor (after_calls watching syms first calls).books (steps_in calls)
run_stands syms first calls fresh follow =
    subst (λ k. StandsFor k (steps_in calls))
    (ap (λ k. books_after k (steps_in calls)) (sym fresh) ∙ sym (calls_keep syms first calls))
    (stands_after nothing [] (steps_in calls) nothing_stands follow)

-- a call that goes on with a watched run may be made
pub watching_lasts : (syms : SymbolMap) (first : WaitState) (calls : List Call) (call : Call) → first.books ≡ nothing
    → AreWatched syms (calls ++ call ∷ [])
    → Can CanSee (λ w head rows s. AreKnown s rows) syms (after_calls watching syms first calls) call
watching_lasts syms first calls call fresh watched = can_all syms first [] calls call (fresh_holds first fresh) watched
