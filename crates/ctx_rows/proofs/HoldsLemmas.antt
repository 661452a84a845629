-- How a watch stands after a watched run.
use Rattle.std.proofs.Common.{◌≡◌, ◌≢◌, ◌⊎◌, inl, inr, ℕ, ◌<◌, ◌≤◌, ◌==◌, ◌||◌, Bool, true, false, List, []}
use Rattle.std.proofs.Common.{◌∷◌, ◌++◌, Option, None, Some, IfSome, length, map, refl, ap, sym, subst, ◌∙◌, arith}
use Rattle.std.proofs.Common.{if◌then◌else◌}
use Rattle.std.specs.List.{AllByRecursion, list_any}
use Rattle.std.proofs.lemmas.Bool.Decides.{eqb_tells}
use Rattle.std.proofs.lemmas.List.{append-nil}
use Rattle.std.proofs.lemmas.List.Concat.{flat_map-append}
use Rattle.event_costs.specs.declared.event.Event.{Event}
use Rattle.event_costs.specs.declared.numbers.ThreadNo.{ThreadNo}
use Rattle.sym_map.specs.SymbolMap.{SymbolMap, place_of}
use Rattle.shadow_stack.specs.Changes.{after, change}
use Rattle.shadow_stack.specs.Stacks.{Activation, Stack, is_rooted, root, top_of}
use Rattle.shadow_stack.specs.Traces.{EventOnStack, stack_of}
use Rattle.shadow_stack.specs.declared.frame.Kind.TheVariants.{Root}
use Rattle.ctx_rows.proofs.Others.{rooted-some, after-rooted, within_cut, units, events-push, length-push, own-other}
use Rattle.ctx_rows.proofs.Others.{is_not, own-push, same_stack, stack-push, frames_within, last-push, readied-append}
use Rattle.ctx_rows.proofs.Others.{same_thread}
use Rattle.recorder.specs.Bounds.{IsUnit, SumsWithin}
use Rattle.recorder.proofs.TopLaws.{top_follows}
use Rattle.part_dump.specs.Calls.{Call, Readies, Sees}
use Rattle.part_dump.specs.Steps.{Step, event_of, frames_in, steps_of_thread, events_of_thread, stack_at, thread_of}
use Rattle.part_dump.specs.Watched.{Fits, Follows, IsOrderly, last_of, ready_pc, ready_pc_after, ready_pc_by}
use Rattle.part_dump.specs.Watched.{steps_in, steps_of}
use Rattle.part_dump.specs.Watching.{after_call}
use Rattle.contexts.specs.Contexts.{Context, context, number, with_context}
use Rattle.ctx_rows.specs.Telling.{CanCount, CanSee}
use Rattle.ctx_rows.specs.Since.{AreEntered, StandsOn, since, since_after, since_by}
use Rattle.ctx_rows.specs.States.{CtxState, Track, after_ready, first_track, contexts_after, contexts_with, track_after_cut, is_track_of}
use Rattle.ctx_rows.specs.States.{knows, track_after_event, track, with_started}
use Rattle.ctx_rows.specs.Tracks.{account_of}
use Rattle.ctx_rows.specs.Watching.{by_context}
use Rattle.ctx_rows.proofs.BoundLemmas.{can_count, within_begun, within_seen}
use Rattle.ctx_rows.proofs.FrameLemmas.{numbered_length}
use Rattle.ctx_rows.proofs.StackLemmas.{entered_after, entered_root, few_roots}
use Rattle.ctx_rows.proofs.TrackLemmas.{knows_append, knows_with, track_append, track_new, track_other, track_with}
use Rattle.ctx_rows.proofs.TrackedLemmas.{IsTracked, all_append, tracked_begun, tracked_cut, tracked_seen}
use Rattle.ctx_rows.proofs.TrackedLemmas.{tracked_with}
use Rattle.std.proofs.lemmas.Bool.{or_right}
use Rattle.recorder.proofs.ThreadBounds.{within_later}

-- ---- what calls are told, one after another

pub steps_more : (calls : List Call) (c : Call) → steps_in (calls ++ c ∷ []) ≡ steps_in calls ++ steps_of c
steps_more calls c = flat_map-append steps_of calls (c ∷ []) ∙ ap (λ xs. steps_in calls ++ xs) (append-nil (steps_of c))

since_from : (thread : ℕ) (before : List EventOnStack) (calls : List Call) (c : Call)
    → since_after thread before (calls ++ c ∷ []) ≡ since_by thread c (since_after thread before calls)
since_from thread before [] c = refl
since_from thread before (d ∷ calls) c = since_from thread (since_by thread d before) calls c

pub since_more : (thread : ℕ) (calls : List Call) (c : Call)
    → since thread (calls ++ c ∷ []) ≡ since_by thread c (since thread calls)
since_more thread calls c = since_from thread [] calls c

pub readied_more : (thread : ℕ) (calls : List Call) (c : Call)
    → ready_pc thread (calls ++ c ∷ []) ≡ ready_pc_by thread c (ready_pc thread calls)
readied_more thread calls c = readied-append thread calls (c ∷ [])

-- ---- how a thread stands

-- what its stack is, after these steps of its own
abbrev Goes : SymbolMap → ℕ → Option Step → Stack → Type 0
Goes syms first None s = (is_rooted s ≡ true) × (top_of s ≡ Some (place_of syms first).func)
Goes syms first (Some x) s =
    (event_of x).ends ≡ false → (is_rooted s ≡ true) × (top_of s ≡ Some (place_of syms (event_of x).done.next).func)

-- the stack of an event is that after some events
pub record IsReached (syms : SymbolMap) (x : EventOnStack) : Type 0 where
  pub events : List Event
  pub first : ℕ
  pub is : x.stack ≡ stack_of syms events first

-- A thread that is known stands for its steps among these: it began at a pc, at which it was last ready if it has made
-- none; its rows have the sums of its events since its last part.
pub record HasTrack (syms : SymbolMap) (callers : ℕ) (cs : List Context) (past : List Step) (events : List EventOnStack)
    (ready_at : Option ℕ) (thread : ℕ) (t : Track) : Type 0 where
  pub first : ℕ
  pub own_thread : t.thread.0 ≡ thread
  pub stack : t.stack ≡ stack_at syms past thread first
  pub goes : Goes syms first (last_of (steps_of_thread thread past)) t.stack
  pub entered : AreEntered t.stack
  pub readied : steps_of_thread thread past ≡ [] → ready_at ≡ Some first
  pub within : SumsWithin (length past) (account_of t)
  pub tracked : IsTracked callers cs syms events t
  pub stand : AllByRecursion (StandsOn syms) events
  pub reached : AllByRecursion (IsReached syms) events

module _ (syms : SymbolMap) (callers : ℕ) (cs : List Context) (past : List Step) (events : List EventOnStack)
    (ready_at : Option ℕ) (thread : ℕ) (t : Track) (has : HasTrack syms callers cs past events ready_at thread t) where
  -- once another thread has begun or made a step
  pub has_more : (p : Option Activation) (s : Stack)
      → HasTrack syms callers (contexts_with callers cs p s) past events ready_at thread t
  has_more p s = record {
    first = has.first;
    own_thread = has.own_thread;
    stack = has.stack;
    goes = has.goes;
    entered = has.entered;
    readied = has.readied;
    within = has.within;
    tracked = tracked_with callers cs syms events t p s has.tracked;
    stand = has.stand;
    reached = has.reached;
  }

  pub has_other : (x : Step) → thread_of x ≢ thread
      → HasTrack syms callers cs (past ++ x ∷ []) events ready_at thread t
  has_other x apart =
      let same : steps_of_thread thread (past ++ x ∷ []) ≡ steps_of_thread thread past = own-other thread past x apart in
      record {
        first = has.first;
        own_thread = has.own_thread;
        stack = has.stack ∙ ap (λ ys. stack_of syms (map event_of ys) has.first) (sym same);
        goes = subst (λ ys. Goes syms has.first (last_of ys) t.stack) (sym same) has.goes;
        entered = has.entered;
        readied = λ none. has.readied (sym same ∙ none);
        within =
            within_later (length past) (length (past ++ x ∷ [])) (account_of t) (omega (arith, length-push past x))
            has.within;
        tracked = has.tracked;
        stand = has.stand;
        reached = has.reached;
      }

  -- it is ready again
  pub has_ready : (pc : ℕ) → (steps_of_thread thread past ≡ [] → IfSome ready_at (λ before. before ≡ pc))
      → HasTrack syms callers cs past events (Some pc) thread t
  has_ready pc fits = record {
    first = has.first;
    own_thread = has.own_thread;
    stack = has.stack;
    goes = has.goes;
    entered = has.entered;
    readied = λ none.
        (let same : has.first ≡ pc
        = subst (λ (o : Option ℕ). IfSome o (λ before. before ≡ pc)) (has.readied none) (fits none) in
        ap (λ (n : ℕ). Some n) (sym same));
    within = has.within;
    tracked = has.tracked;
    stand = has.stand;
    reached = has.reached;
  }

  -- a part of it is written
  pub has_cut : HasTrack syms callers cs past [] ready_at thread (track_after_cut t)
  has_cut = record {
    first = has.first;
    own_thread = has.own_thread;
    stack = has.stack;
    goes = has.goes;
    entered = has.entered;
    readied = has.readied;
    within = within_cut (account_of t) (account_of (track_after_cut t)) (length past) refl has.within;
    tracked = tracked_cut callers cs syms events t has.tracked;
    stand = tt;
    reached = tt;
  }

  -- a step of its own
  module _ (x : Step) (orderly : IsOrderly syms past x) (is : thread_of x ≡ thread)
      (ready : ready_at ≡ Some (event_of x).done.pc) where
    abbrev e : Event
    e = event_of x

    last_some : (y : Step) (ys : List Step) → (z : Step) × (last_of (y ∷ ys) ≡ Some z)
    last_some y [] = (y, refl)
    last_some y (z ∷ zs) = last_some z zs

    own_is : steps_of_thread (thread_of x) past ≡ steps_of_thread thread past
    own_is = ap (λ n. steps_of_thread n past) is

    first_is : steps_of_thread thread past ≡ [] → has.first ≡ e.done.pc
    first_is none = inside (sym (has.readied none) ∙ ready)
      where
        inside : ◌≡◌ {A = Option ℕ} (Some has.first) (Some e.done.pc) → has.first ≡ e.done.pc
        inside same = cc

    seen_is : stack_at syms past thread e.done.pc ≡ x.on_stack.stack
    seen_is = ap (λ n. stack_at syms past n e.done.pc) (sym is) ∙ sym orderly.stack

    begun_at : (ys : List Step) → steps_of_thread thread past ≡ ys
        → stack_at syms past thread has.first ≡ stack_at syms past thread e.done.pc
    begun_at [] none = ap (λ pc. stack_at syms past thread pc) (first_is none)
    begun_at (y ∷ ys) some = same_stack syms past thread has.first e.done.pc (λ none. never (sym some ∙ none))
      where
        never : ◌≡◌ {A = List Step} (y ∷ ys) [] → ⊥
        never same = cc

    pub at_pc : t.stack ≡ stack_at syms past thread e.done.pc
    at_pc = has.stack ∙ begun_at (steps_of_thread thread past) refl

    pub on_stack : t.stack ≡ x.on_stack.stack
    on_stack = at_pc ∙ seen_is

    now : (ys : List Step) → steps_of_thread thread past ≡ ys → Goes syms has.first (last_of ys) t.stack → Follows (last_of ys) e
        → (is_rooted t.stack ≡ true) × (top_of t.stack ≡ Some (place_of syms e.done.pc).func)
    now [] none goes follows =
        (goes.0, goes.1 ∙ ap (λ pc. Some (place_of syms pc).func) (first_is none))
    now (y ∷ ys) some goes follows =
        let z = last_some y ys in
        let on = subst (λ o. Goes syms has.first o t.stack) z.1 goes in
        let led = subst (λ o. Follows o e) z.1 follows in
        let here = on led.0 in
        (here.0, here.1 ∙ ap (λ pc. Some (place_of syms pc).func) led.1)

    stands_now : (is_rooted t.stack ≡ true) × (top_of t.stack ≡ Some (place_of syms e.done.pc).func)
    stands_now =
        now (steps_of_thread thread past) refl has.goes (subst (λ ys. Follows (last_of ys) e) own_is orderly.follows)

    pub live : 0 < length t.stack
    live = rooted-some t.stack stands_now.0

    unit : IsUnit x.on_stack.cost
    unit = units x.on_stack.cost orderly.ones

    shallow : length t.frames ≤ 4194304
    shallow =
        let all = numbered_length callers cs t.frames t.stack has.tracked.numbered in
        let few = few_roots t.stack has.entered in
        let same = ap (λ s. frames_in s) at_pc in
        let within = frames_within syms past thread e.done.pc in
        let room = orderly.frames in
        omega (arith, all, few, same, within, room)

    pub counts : CanCount t x.on_stack.cost
    counts = can_count t x.on_stack.cost (length past) has.within orderly.room unit shallow

    stands_on : StandsOn syms x.on_stack
    stands_on = record {
      whole = orderly.whole;
      rooted = subst (λ s. is_rooted s ≡ true) on_stack stands_now.0;
      top = subst (λ s. top_of s ≡ Some (place_of syms e.done.pc).func) on_stack stands_now.1;
      entered = subst AreEntered on_stack has.entered;
    }

    goes_now : Goes syms e.done.pc (Some x) (after syms t.stack e)
    goes_now goes_on = (after-rooted syms t.stack e stands_now.0 goes_on, top_follows syms t.stack e goes_on)

    own_now : steps_of_thread thread (past ++ x ∷ []) ≡ steps_of_thread thread past ++ x ∷ []
    own_now = own-push thread past x is

    pub has_seen : HasTrack syms callers (contexts_after callers cs (change syms e t.stack)) (past ++ x ∷ [])
        (events ++ x.on_stack ∷ []) ready_at thread (track_after_event callers cs syms e x.on_stack.cost t)
    has_seen = record {
      first = e.done.pc;
      own_thread = has.own_thread;
      stack =
          ap (λ s. after syms s e) at_pc
          ∙ sym (ap (λ es. stack_of syms es e.done.pc) (events-push thread past x is)
          ∙ stack-push syms (events_of_thread thread past) e e.done.pc);
      goes =
          subst (λ o. Goes syms e.done.pc o (after syms t.stack e))
          (sym (ap (last_of {A = Step}) own_now ∙ last-push (steps_of_thread thread past) x)) goes_now;
      entered = entered_after syms e t.stack has.entered;
      readied = λ none. absurd (never (sym own_now ∙ none));
      within =
          subst (λ n. SumsWithin n (account_of (track_after_event callers cs syms e x.on_stack.cost t))) (sym (length-push past x))
          (within_seen callers cs syms e x.on_stack.cost t (length past) has.within unit shallow);
      tracked =
          subst (λ s. IsTracked callers (contexts_after callers cs (change syms e t.stack)) syms
          (events ++ record { event = e; cost = x.on_stack.cost; stack = s } ∷ [])
          (track_after_event callers cs syms e x.on_stack.cost t))
          on_stack
          (tracked_seen callers cs syms events e x.on_stack.cost t has.tracked live stands_now.0 orderly.whole);
      stand = all_append (StandsOn syms) events (x.on_stack ∷ []) has.stand (stands_on, tt);
      reached = all_append (IsReached syms) events (x.on_stack ∷ []) has.reached
          (record { events = events_of_thread thread past; first = e.done.pc; is = sym seen_is }, tt);
    }
      where
        never : steps_of_thread thread past ++ x ∷ [] ≡ [] → ⊥
        never = by (steps_of_thread thread past)
          where
            by : (ys : List Step) → ys ++ x ∷ [] ≡ [] → ⊥
            by [] same = cc
            by (y ∷ ys) same = cc

-- a thread that begins
pub has_begun : (syms : SymbolMap) (callers : ℕ) (cs : List Context) (past : List Step) (thread : ThreadNo) (pc : ℕ)
    → steps_of_thread thread.0 past ≡ []
    → HasTrack syms callers (with_context cs (context callers (root syms pc))) past [] (Some pc) thread.0
    (first_track thread (place_of syms pc).func (number cs (context callers (root syms pc))))
has_begun syms callers cs past thread pc none = record {
  first = pc;
  own_thread = refl;
  stack = sym (ap (λ ys. stack_of syms (map event_of ys) pc) none);
  goes = subst (λ ys. Goes syms pc (last_of ys) (root syms pc)) (sym none) (refl, refl);
  entered = entered_root syms pc;
  readied = λ _. refl;
  within =
      within_begun thread (place_of syms pc).func (number cs (context callers (root syms pc))) (length past);
  tracked = tracked_begun callers cs syms thread pc;
  stand = tt;
  reached = tt;
}

-- ---- how all threads stand

pub record Holds (syms : SymbolMap) (callers : ℕ) (w : CtxState) (calls : List Call) : Type 0 where
  pub same_callers : w.callers ≡ callers
  pub ready : (thread : ThreadNo) (pc : ℕ) → last_of calls ≡ Some (Readies thread pc)
      → (w.ready ≡ Some thread) × (knows w thread ≡ true)
  pub tracks : (thread : ThreadNo) → knows w thread ≡ true
      → HasTrack syms callers w.contexts (steps_in calls) (since thread.0 calls) (ready_pc thread.0 calls) thread.0
      (track w thread)
  pub unknown : (thread : ThreadNo) → knows w thread ≡ false
      → (steps_of_thread thread.0 (steps_in calls) ≡ []) × (since thread.0 calls ≡ [])

pub by_thread : (t thread : ThreadNo) → (t.0 ≡ thread.0) ⊎ (t.0 ≢ thread.0)
by_thread t thread = elim (eqb_tells t.0 thread.0) as (λ _. (t.0 ≡ thread.0) ⊎ (t.0 ≢ thread.0)) [
  | inl is ↦ inl is.1
  | inr differs ↦ inr differs.1
]

pub if_same : {A : Type 0} (m n : ℕ) (a b : A) → m ≡ n → (if m == n then a else b) ≡ a
if_same m n a b is = elim (eqb_tells m n) as (λ _. (if m == n then a else b) ≡ a) [
  | inl yes_ ↦ ap (λ c. if c then a else b) yes_.0
  | inr other ↦ absurd (other.1 is)
]

pub if_other : {A : Type 0} (m n : ℕ) (a b : A) → m ≢ n → (if m == n then a else b) ≡ b
if_other m n a b apart = elim (eqb_tells m n) as (λ _. (if m == n then a else b) ≡ b) [
  | inl yes_ ↦ absurd (apart yes_.1)
  | inr other ↦ ap (λ c. if c then a else b) other.0
]

pub true_false : true ≡ false → ⊥
true_false e = cc

or_false : (a b : Bool) → b ≡ false → a || b ≡ a
or_false true b is = refl
or_false false b is = is

eqb_same : (m n : ℕ) → m ≡ n → m == n ≡ true
eqb_same m n is = elim (eqb_tells m n) as (λ _. m == n ≡ true) [
  | inl yes_ ↦ yes_.0
  | inr other ↦ absurd (other.1 is)
]

-- a thread's track with everything that it depends on put in its place
pub moved : (syms : SymbolMap) (callers : ℕ) (cs : List Context) (past past_ : List Step) (events events_ : List EventOnStack)
    (ready ready_ : Option ℕ) (thread : ℕ) (t t_ : Track) → past_ ≡ past → events_ ≡ events → ready_ ≡ ready → t_ ≡ t
    → HasTrack syms callers cs past events ready thread t → HasTrack syms callers cs past_ events_ ready_ thread t_
moved syms callers cs past past_ events events_ ready ready_ thread t t_ past_is events_are ready_is t_is has =
    subst (λ (p : List Step). HasTrack syms callers cs p events_ ready_ thread t_) (sym past_is)
    (subst (λ (es : List EventOnStack). HasTrack syms callers cs past es ready_ thread t_) (sym events_are)
    (subst (λ (o : Option ℕ). HasTrack syms callers cs past events o thread t_) (sym ready_is)
    (subst (λ (u : Track). HasTrack syms callers cs past events ready thread u) (sym t_is) has)))

-- ---- a thread is made ready

module _ (syms : SymbolMap) (callers : ℕ) (w : CtxState) (calls : List Call) (holds : Holds syms callers w calls)
    (thread : ThreadNo) (pc : ℕ) (fits : Fits syms calls (Readies thread pc)) where
  abbrev call : Call
  call = Readies thread pc

  past_is : steps_in (calls ++ call ∷ []) ≡ steps_in calls
  past_is = steps_more calls call ∙ append-nil (steps_in calls)

  since_is : (t : ThreadNo) → since t.0 (calls ++ call ∷ []) ≡ since t.0 calls
  since_is t = since_more t.0 calls call

  ready_is : (t : ThreadNo) → ready_pc t.0 (calls ++ call ∷ [])
      ≡ (if thread.0 == t.0 then Some pc else ready_pc t.0 calls)
  ready_is t = readied_more t.0 calls call

  last_is : (t : ThreadNo) (q : ℕ) → last_of (calls ++ call ∷ []) ≡ Some (Readies t q) → t ≡ thread
  last_is t q e = inside (sym (last-push calls call) ∙ e)
    where
      inside : Some (Readies thread pc) ≡ Some (Readies t q) → t ≡ thread
      inside same = cc

  -- where the thread is known
  module _ (known : knows w thread ≡ true) where
    abbrev u : CtxState
    u = record w { ready = Some thread }

    again : (t : ThreadNo) → (t.0 ≡ thread.0) ⊎ (t.0 ≢ thread.0) → knows w t ≡ true
        → HasTrack syms callers w.contexts (steps_in (calls ++ call ∷ [])) (since t.0 (calls ++ call ∷ []))
        (ready_pc t.0 (calls ++ call ∷ [])) t.0 (track w t)
    again t (inl same) there =
        moved syms callers w.contexts (steps_in calls) (steps_in (calls ++ call ∷ [])) (since t.0 calls)
        (since t.0 (calls ++ call ∷ [])) (Some pc) (ready_pc t.0 (calls ++ call ∷ [])) t.0 (track w t)
        (track w t) past_is
        (since_is t) (ready_is t ∙ if_same thread.0 t.0 (Some pc) (ready_pc t.0 calls) (sym same)) refl
        (has_ready syms callers w.contexts (steps_in calls) (since t.0 calls) (ready_pc t.0 calls) t.0 (track w t)
        (holds.tracks t there) pc
        (subst (λ n. steps_of_thread n (steps_in calls) ≡ [] → IfSome (ready_pc n calls) (λ before. before ≡ pc)) (sym same) fits))
    again t (inr apart) there =
        moved syms callers w.contexts (steps_in calls) (steps_in (calls ++ call ∷ [])) (since t.0 calls)
        (since t.0 (calls ++ call ∷ [])) (ready_pc t.0 calls) (ready_pc t.0 (calls ++ call ∷ [])) t.0 (track w t)
        (track w t) past_is (since_is t)
        (ready_is t ∙ if_other thread.0 t.0 (Some pc) (ready_pc t.0 calls) (λ e. apart (sym e))) refl
        (holds.tracks t there)

    holds_known : Holds syms callers u (calls ++ call ∷ [])
    holds_known = record {
      same_callers = holds.same_callers;
      ready = λ t q e. (ap (λ (n : ThreadNo). Some n) (sym (last_is t q e)), ap (knows w) (last_is t q e) ∙ known);
      tracks = λ t there. again t (by_thread t thread) there;
      unknown = λ t none. (
        ap (steps_of_thread t.0) past_is ∙ (holds.unknown t none).0,
        since_is t ∙ (holds.unknown t none).1,
      );
    }

  -- where it begins
  module _ (none : knows w thread ≡ false) where
    abbrev c : Context
    c = context w.callers (root syms pc)

    abbrev new : Track
    new = first_track thread (place_of syms pc).func (number w.contexts c)

    abbrev v : CtxState
    v = record (with_started syms w thread pc) { ready = Some thread }

    knows_more : (t : ThreadNo) → knows v t ≡ knows w t || (t.0 == thread.0)
    knows_more t = knows_append w.tracks new t

    fresh_track : (t : ThreadNo) → t.0 ≡ thread.0
        → HasTrack syms callers v.contexts (steps_in (calls ++ call ∷ [])) (since t.0 (calls ++ call ∷ []))
        (ready_pc t.0 (calls ++ call ∷ [])) t.0 (track v t)
    fresh_track t same =
        let was = holds.unknown thread none in
        let here : HasTrack syms callers v.contexts (steps_in calls) [] (Some pc) thread.0 new
        = subst (λ n. HasTrack syms callers (with_context w.contexts (context n (root syms pc))) (steps_in calls) []
        (Some pc) thread.0 (first_track thread (place_of syms pc).func (number w.contexts (context n (root syms pc)))))
        (sym holds.same_callers) (has_begun syms callers w.contexts (steps_in calls) thread pc was.0) in
        let track_is : track v t ≡ new = track_new w.tracks new t (ap (knows w) (same_thread t thread same)
        ∙ none) same in
        moved syms callers v.contexts (steps_in calls) (steps_in (calls ++ call ∷ [])) []
        (since t.0 (calls ++ call ∷ []))
        (Some pc) (ready_pc t.0 (calls ++ call ∷ [])) t.0 new (track v t) past_is
        (since_is t ∙ ap (λ n. since n calls) same ∙ was.1)
        (ready_is t ∙ if_same thread.0 t.0 (Some pc) (ready_pc t.0 calls) (sym same)) track_is
        (subst (λ n. HasTrack syms callers v.contexts (steps_in calls) [] (Some pc) n new) (sym same) here)

    other_track : (t : ThreadNo) → t.0 ≢ thread.0 → knows w t ≡ true
        → HasTrack syms callers v.contexts (steps_in (calls ++ call ∷ [])) (since t.0 (calls ++ call ∷ []))
        (ready_pc t.0 (calls ++ call ∷ [])) t.0 (track v t)
    other_track t apart there =
        moved syms callers v.contexts (steps_in calls) (steps_in (calls ++ call ∷ [])) (since t.0 calls)
        (since t.0 (calls ++ call ∷ [])) (ready_pc t.0 calls) (ready_pc t.0 (calls ++ call ∷ [])) t.0 (track w t)
        (track v t) past_is (since_is t)
        (ready_is t ∙ if_other thread.0 t.0 (Some pc) (ready_pc t.0 calls) (λ e. apart (sym e)))
        (track_append w.tracks new t there)
        (has_begun_other t there)
      where
        has_begun_other : (t_ : ThreadNo) → knows w t_ ≡ true
            → HasTrack syms callers v.contexts (steps_in calls) (since t_.0 calls)
            (ready_pc t_.0 calls) t_.0 (track w t_)
        has_begun_other t_ there_ =
            let old = holds.tracks t_ there_ in
            subst (λ n. HasTrack syms callers (with_context w.contexts (context n (root syms pc))) (steps_in calls)
            (since t_.0 calls) (ready_pc t_.0 calls) t_.0 (track w t_)) (sym holds.same_callers)
            (has_more syms callers w.contexts (steps_in calls) (since t_.0 calls)
            (ready_pc t_.0 calls) t_.0 (track w t_) old
            (Some (record { func = (place_of syms pc).func; kind = Root; arc = None })) [])

    begun_track : (t : ThreadNo) → (t.0 ≡ thread.0) ⊎ (t.0 ≢ thread.0) → knows v t ≡ true
        → HasTrack syms callers v.contexts (steps_in (calls ++ call ∷ [])) (since t.0 (calls ++ call ∷ []))
        (ready_pc t.0 (calls ++ call ∷ [])) t.0 (track v t)
    begun_track t (inl same) there = fresh_track t same
    begun_track t (inr apart) there =
        other_track t apart
        (sym (or_false (knows w t) (t.0 == thread.0) (is_not t.0 thread.0 apart)) ∙ sym (knows_more t) ∙ there)

    still_unknown : (t : ThreadNo) → knows v t ≡ false → knows w t ≡ false
    still_unknown t none_ = by (knows w t) refl
      where
        by : (b : Bool) → knows w t ≡ b → knows w t ≡ false
        by false is = is
        by true is = absurd (true_false (sym (knows_more t ∙ ap (λ b. b || (t.0 == thread.0)) is) ∙ none_))

    holds_begun : Holds syms callers v (calls ++ call ∷ [])
    holds_begun = record {
      same_callers = holds.same_callers;
      ready = λ t q e. (
        ap (λ (n : ThreadNo). Some n) (sym (last_is t q e)),
        knows_more t ∙ or_right (knows w t) (t.0 == thread.0)
            (eqb_same t.0 thread.0 (ap (λ (n : ThreadNo). n.0) (last_is t q e))),
      );
      tracks = λ t there. begun_track t (by_thread t thread) there;
      unknown = λ t none_. (
        ap (steps_of_thread t.0) past_is ∙ (holds.unknown t (still_unknown t none_)).0,
        since_is t ∙ (holds.unknown t (still_unknown t none_)).1,
      );
    }

  pub holds_ready : Holds syms callers (after_ready w thread pc syms) (calls ++ call ∷ [])
  holds_ready = by (knows w thread) refl
    where
      by : (b : Bool) → knows w thread ≡ b
          → Holds syms callers (record (if b then w else with_started syms w thread pc) { ready = Some thread })
          (calls ++ call ∷ [])
      by true known = holds_known known
      by false none = holds_begun none

-- ---- a step

module _ (syms : SymbolMap) (callers : ℕ) (w : CtxState) (calls : List Call) (holds : Holds syms callers w calls)
    (x : Step)
    (fits : Fits syms calls (Sees x)) where
  abbrev step : Call
  step = Sees x

  abbrev own_thread : ThreadNo
  own_thread = (event_of x).thread

  known_now : (w.ready ≡ Some own_thread) × (knows w own_thread ≡ true)
  known_now = holds.ready own_thread (event_of x).done.pc fits.0

  has : HasTrack syms callers w.contexts (steps_in calls) (since own_thread.0 calls) (ready_pc own_thread.0 calls)
      own_thread.0 (track w own_thread)
  has = holds.tracks own_thread known_now.1

  ready_last : (ds : List Call) (t : ThreadNo) (q : ℕ) (before : Option ℕ) → last_of ds ≡ Some (Readies t q)
      → ready_pc_after t.0 before ds ≡ Some q
  ready_last [] t q before e = absurd (cc)
  ready_last (d ∷ []) t q before e =
      ap (λ c. ready_pc_by t.0 c before) (inside e) ∙ if_same t.0 t.0 (Some q) before refl
    where
      inside : Some d ≡ Some (Readies t q) → d ≡ Readies t q
      inside same = cc
  ready_last (d ∷ (f ∷ ds)) t q before e = ready_last (f ∷ ds) t q (ready_pc_by t.0 d before) e

  ready_at : ready_pc own_thread.0 calls ≡ Some (event_of x).done.pc
  ready_at = ready_last calls own_thread (event_of x).done.pc None fits.0

  pub can_see : CanSee w (event_of x) x.on_stack.cost
  can_see = record {
    ready = known_now.0;
    knows = known_now.1;
    live =
        live syms callers w.contexts (steps_in calls) (since own_thread.0 calls)
        (ready_pc own_thread.0 calls) own_thread.0
        (track w own_thread) has x fits.1 refl ready_at;
    sums =
        counts syms callers w.contexts (steps_in calls) (since own_thread.0 calls) (ready_pc own_thread.0 calls)
        own_thread.0 (track w own_thread) has x fits.1 refl ready_at;
  }

  pub stands_at : StandsOn syms x.on_stack
  stands_at =
      stands_on syms callers w.contexts (steps_in calls) (since own_thread.0 calls) (ready_pc own_thread.0 calls)
      own_thread.0 (track w own_thread) has x fits.1 refl ready_at

  abbrev made : CtxState
  made = after_call by_context syms w step

  seen_track : HasTrack syms callers made.contexts (steps_in calls ++ x ∷ []) (since own_thread.0 calls ++ x.on_stack ∷ [])
      (ready_pc own_thread.0 calls) own_thread.0
      (track_after_event w.callers w.contexts syms (event_of x) x.on_stack.cost (track w own_thread))
  seen_track =
      subst (λ n. HasTrack syms callers
      (contexts_after n w.contexts (change syms (event_of x) (track w own_thread).stack))
      (steps_in calls ++ x ∷ []) (since own_thread.0 calls ++ x.on_stack ∷ []) (ready_pc own_thread.0 calls) own_thread.0
      (track_after_event n w.contexts syms (event_of x) x.on_stack.cost (track w own_thread))) (sym holds.same_callers)
      (has_seen syms callers w.contexts (steps_in calls) (since own_thread.0 calls) (ready_pc own_thread.0 calls)
      own_thread.0 (track w own_thread) has x fits.1 refl ready_at)

  others_more : (t : ThreadNo) → knows w t ≡ true
      → HasTrack syms callers made.contexts (steps_in calls) (since t.0 calls) (ready_pc t.0 calls) t.0 (track w t)
  others_more t there =
      let c = change syms (event_of x) (track w own_thread).stack in
      subst (λ n. HasTrack syms callers (contexts_with n w.contexts c.pushed c.rest) (steps_in calls) (since t.0 calls)
      (ready_pc t.0 calls) t.0 (track w t)) (sym holds.same_callers)
      (has_more syms callers w.contexts (steps_in calls) (since t.0 calls) (ready_pc t.0 calls) t.0 (track w t)
      (holds.tracks t there) c.pushed c.rest)

  knows_still : (t : ThreadNo) → knows made t ≡ knows w t
  knows_still t =
      knows_with w.tracks (track_after_event w.callers w.contexts syms (event_of x) x.on_stack.cost (track w own_thread)) t

  past_now : steps_in (calls ++ step ∷ []) ≡ steps_in calls ++ x ∷ []
  past_now = steps_more calls step

  since_now : (t : ThreadNo) → since t.0 (calls ++ step ∷ [])
      ≡ (if thread_of x == t.0 then since t.0 calls ++ x.on_stack ∷ [] else since t.0 calls)
  since_now t = since_more t.0 calls step

  readied_now : (t : ThreadNo) → ready_pc t.0 (calls ++ step ∷ []) ≡ ready_pc t.0 calls
  readied_now t = readied_more t.0 calls step

  track_now : (t : ThreadNo) → (t.0 ≡ own_thread.0) ⊎ (t.0 ≢ own_thread.0) → knows w t ≡ true
      → HasTrack syms callers made.contexts (steps_in (calls ++ step ∷ [])) (since t.0 (calls ++ step ∷ []))
      (ready_pc t.0 (calls ++ step ∷ [])) t.0 (track made t)
  track_now t (inl same) there =
      let new = track_after_event w.callers w.contexts syms (event_of x) x.on_stack.cost (track w own_thread) in
      let owner : new.thread.0 ≡ own_thread.0 = has.own_thread in
      let is : track made t ≡ new
      = track_with w.tracks new t
      (subst (λ (n : ThreadNo). list_any (is_track_of n) w.tracks ≡ true)
      (sym (same_thread new.thread own_thread owner)) known_now.1) (same ∙ sym owner) in
      moved syms callers made.contexts (steps_in calls ++ x ∷ []) (steps_in (calls ++ step ∷ []))
      (since t.0 calls ++ x.on_stack ∷ []) (since t.0 (calls ++ step ∷ [])) (ready_pc t.0 calls)
      (ready_pc t.0 (calls ++ step ∷ [])) t.0 new (track made t) past_now
      (since_now t ∙ if_same (thread_of x) t.0 (since t.0 calls ++ x.on_stack ∷ []) (since t.0 calls) (sym same))
      (readied_now t) is
      (subst (λ n. HasTrack syms callers made.contexts (steps_in calls ++ x ∷ []) (since n calls ++ x.on_stack ∷ [])
      (ready_pc n calls) n new) (sym same) seen_track)
  track_now t (inr apart) there =
      let new = track_after_event w.callers w.contexts syms (event_of x) x.on_stack.cost (track w own_thread) in
      let owner : new.thread.0 ≡ own_thread.0 = has.own_thread in
      let is : track made t ≡ track w t = track_other w.tracks new t (λ e. apart (e ∙ owner)) in
      moved syms callers made.contexts (steps_in calls ++ x ∷ []) (steps_in (calls ++ step ∷ [])) (since t.0 calls)
      (since t.0 (calls ++ step ∷ [])) (ready_pc t.0 calls) (ready_pc t.0 (calls ++ step ∷ [])) t.0 (track w t)
      (track made t) past_now
      (since_now t ∙ if_other (thread_of x) t.0 (since t.0 calls ++ x.on_stack ∷ []) (since t.0 calls) (λ e. apart (sym e)))
      (readied_now t) is
      (has_other syms callers made.contexts (steps_in calls) (since t.0 calls) (ready_pc t.0 calls) t.0 (track w t)
      (others_more t there) x (λ e. apart (sym e)))

  pub holds_seen : Holds syms callers made (calls ++ step ∷ [])
  holds_seen = record {
    same_callers = holds.same_callers;
    ready = λ t q e. absurd (never t q (sym (last-push calls step) ∙ e));
    tracks = λ t there. track_now t (by_thread t own_thread) (sym (knows_still t) ∙ there);
    unknown = λ t none. others t (by_thread t own_thread) (sym (knows_still t) ∙ none);
  }
    where
      never : (t : ThreadNo) (q : ℕ) → Some (Sees x) ≡ Some (Readies t q) → ⊥
      never t q e = cc

      others : (t : ThreadNo) → (t.0 ≡ own_thread.0) ⊎ (t.0 ≢ own_thread.0) → knows w t ≡ false
          → (steps_of_thread t.0 (steps_in (calls ++ step ∷ [])) ≡ []) × (since t.0 (calls ++ step ∷ []) ≡ [])
      others t (inl same) none =
          absurd (true_false (sym (ap (knows w) (same_thread t own_thread same) ∙ known_now.1) ∙ none))
      others t (inr apart) none = (
        ap (steps_of_thread t.0) past_now ∙ own-other t.0 (steps_in calls) x (λ e. apart (sym e)) ∙ (holds.unknown t none).0,
        since_now t ∙ if_other (thread_of x) t.0 (since t.0 calls ++ x.on_stack ∷ []) (since t.0 calls) (λ e. apart (sym e))
            ∙ (holds.unknown t none).1,
      )
