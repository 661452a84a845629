-- The calls of a run with the stacks of the map that tells code by its addresses: a watched run over the one map is one
-- over the other.
use Rattle.std.proofs.Common.{◌≡◌, ℕ, ◌<◌, ◌==◌, ◌&&◌, Bool, false, not, List, [], ◌∷◌, ◌++◌, map, length}
use Rattle.std.proofs.Common.{Option, None, Some, IfSome, append_assoc, refl, ap, sym, subst, ◌∙◌, if◌then◌else◌}
use Rattle.std.specs.Prelude.{is_some}
use Rattle.std.proofs.lemmas.List.{append-nil, length-map}
use Rattle.std.proofs.lemmas.List.Elements.{All-from_recursion}
use Rattle.event_costs.specs.declared.event.Event.{Event}
use Rattle.event_costs.specs.declared.numbers.ThreadNo.{ThreadNo}
use Rattle.sym_map.specs.AddressMap.{address_map}
use Rattle.sym_map.specs.SymbolMap.{SymbolMap}
use Rattle.shadow_stack.specs.Stacks.{most_frames}
use Rattle.shadow_stack.specs.Traces.{EventOnStack, stack_of}
use Rattle.arc_costs.specs.Contents.{Listed}
use Rattle.cg_format.specs.Part.{IsKnownArc, IsKnownLine}
use Rattle.part_dump.specs.Calls.{Call, Readies, Sees, Writes}
use Rattle.part_dump.specs.Steps.{Step, event_of, live, steps_of_thread, events_of_thread, thread_of}
use Rattle.part_dump.specs.Watched.{FitAll, Fits, Follows, AreWatched, is_woken, last_of, most_steps}
use Rattle.part_dump.specs.Watched.{ready_pc_after, ready_pc_by, steps_in, waits, waits_after}
use Rattle.ctx_rows.specs.Since as contexts
use Rattle.addr_rows.proofs.Others.{steps_more}
use Rattle.addr_rows.specs.Stacked.{with_stacks_of, since_after, since_by, with_stack_of, steps_by}
use Rattle.addr_rows.proofs.AddressMapLemmas.{address_code, address_names}
use Rattle.addr_rows.proofs.RestackLemmas.{length_stacked, live_stacked, own_events_stacked}

-- no rows, which a watch by context doesn't read
abbrev no_rows : Listed
no_rows = record { lines = []; arcs = [] }

-- a call that follows these steps, with the stack that a map makes of its step
abbrev pub recall : SymbolMap → List Step → Call → Call
recall n past (Readies thread pc) = Readies thread pc
recall n past (Sees x) = Sees (with_stack_of n past x)
recall n past (Writes head rows) = Writes head no_rows

abbrev pub recalled : SymbolMap → List Step → List Call → List Call
recalled n past [] = []
recalled n past (c ∷ cs) = recall n past c ∷ recalled n (steps_by c past) cs

-- the steps of calls, one call at a time
steps_first : (past : List Step) (c : Call) (cs : List Call) → steps_by c past ++ steps_in cs ≡ past ++ steps_in (c ∷ cs)
steps_first past (Readies thread pc) cs = refl
steps_first past (Sees x) cs = append_assoc past (x ∷ []) (steps_in cs)
steps_first past (Writes head rows) cs = refl

steps_last : (cs : List Call) (c : Call) → steps_in (cs ++ c ∷ []) ≡ steps_by c (steps_in cs)
steps_last cs (Readies thread pc) = steps_more cs (Readies thread pc) ∙ append-nil (steps_in cs)
steps_last cs (Sees x) = steps_more cs (Sees x)
steps_last cs (Writes head rows) = steps_more cs (Writes head rows) ∙ append-nil (steps_in cs)

-- an event follows the last event
abbrev FollowsLast : Option Event → Event → Type 0
FollowsLast None e = Unit {0}
FollowsLast (Some x) e = (x.ends ≡ false) × (x.done.next ≡ e.done.pc)

to_events : (xs : List Step) (e : Event) → Follows (last_of xs) e → FollowsLast (last_of (map event_of xs)) e
to_events [] e follows = follows
to_events (x ∷ []) e follows = follows
to_events (x ∷ (y ∷ xs)) e follows = to_events (y ∷ xs) e follows

from_events : (xs : List Step) (e : Event) → FollowsLast (last_of (map event_of xs)) e → Follows (last_of xs) e
from_events [] e follows = follows
from_events (x ∷ []) e follows = follows
from_events (x ∷ (y ∷ xs)) e follows = from_events (y ∷ xs) e follows

no_length : {A : Type 0} (xs : List A) → length xs ≡ 0 → xs ≡ []
no_length [] none = refl
no_length (x ∷ xs) none = absurd (cc)

-- ---- what stays of calls with the stacks of another map

module _ (n : SymbolMap) where
  pub recalled_append : (past : List Step) (cs ds : List Call)
      → recalled n past (cs ++ ds) ≡ recalled n past cs ++ recalled n (past ++ steps_in cs) ds
  recalled_append past [] ds = ap (λ es. recalled n es ds) (sym (append-nil past))
  recalled_append past (c ∷ cs) ds =
      ap (λ xs. recall n past c ∷ xs)
      (recalled_append (steps_by c past) cs ds
      ∙ ap (λ es. recalled n (steps_by c past) cs ++ recalled n es ds) (steps_first past c cs))

  pub steps_recalled : (past : List Step) (cs : List Call) → steps_in (recalled n past cs) ≡ with_stacks_of n past (steps_in cs)
  steps_recalled past [] = refl
  steps_recalled past (Readies thread pc ∷ cs) = steps_recalled past cs
  steps_recalled past (Sees x ∷ cs) = ap (λ xs. with_stack_of n past x ∷ xs) (steps_recalled (past ++ x ∷ []) cs)
  steps_recalled past (Writes head rows ∷ cs) = steps_recalled past cs

  last_recalled : (past : List Step) (cs : List Call) (thread : ThreadNo) (pc : ℕ)
      → last_of cs ≡ Some (Readies thread pc) → last_of (recalled n past cs) ≡ Some (Readies thread pc)
  last_recalled past [] thread pc is = absurd (cc)
  last_recalled past (Readies t p ∷ []) thread pc is = is
  last_recalled past (Sees x ∷ []) thread pc is = absurd (cc)
  last_recalled past (Writes head rows ∷ []) thread pc is = absurd (cc)
  last_recalled past (c ∷ (d ∷ cs)) thread pc is = last_recalled (steps_by c past) (d ∷ cs) thread pc is

  readied_recalled : (thread : ℕ) (before : Option ℕ) (past : List Step) (cs : List Call)
      → ready_pc_after thread before (recalled n past cs) ≡ ready_pc_after thread before cs
  readied_recalled thread before past [] = refl
  readied_recalled thread before past (Readies t pc ∷ cs) =
      readied_recalled thread (ready_pc_by thread (Readies t pc) before) past cs
  readied_recalled thread before past (Sees x ∷ cs) = readied_recalled thread before (past ++ x ∷ []) cs
  readied_recalled thread before past (Writes head rows ∷ cs) = readied_recalled thread before past cs

  waits_stacked : (thread : ℕ) (before : Bool) (past xs : List Step)
      → waits_after thread before (with_stacks_of n past xs) ≡ waits_after thread before xs
  waits_stacked thread before past [] = refl
  waits_stacked thread before past (x ∷ xs) =
      waits_stacked thread (if thread_of x == thread then is_some x.wait else (before && not (is_woken thread x)))
      (past ++ x ∷ []) xs

  pub since_recalled : (thread : ℕ) (before : List EventOnStack) (past : List Step) (cs : List Call)
      → contexts.since_after thread before (recalled n past cs) ≡ since_after n thread past before cs
  since_recalled thread before past [] = refl
  since_recalled thread before past (Readies t pc ∷ cs) = since_recalled thread before past cs
  since_recalled thread before past (Sees x ∷ cs) =
      since_recalled thread (since_by n thread past (Sees x) before) (past ++ x ∷ []) cs
  since_recalled thread before past (Writes head rows ∷ cs) =
      since_recalled thread (since_by n thread past (Writes head rows) before) past cs

-- ---- a watched run

module _ (m : SymbolMap) where
  abbrev n : SymbolMap
  n = address_map m

  module _ (earlier : List Call) where
    abbrev told : List Call
    told = recalled n [] earlier

    told_steps : steps_in told ≡ with_stacks_of n [] (steps_in earlier)
    told_steps = steps_recalled n [] earlier

    told_events : (thread : ℕ) → events_of_thread thread (steps_in told) ≡ events_of_thread thread (steps_in earlier)
    told_events thread =
        ap (events_of_thread thread) told_steps ∙ own_events_stacked n thread [] (steps_in earlier)

    pub told_length : (thread : ℕ) → length (steps_of_thread thread (steps_in told)) ≡ length (steps_of_thread thread (steps_in earlier))
    told_length thread =
        sym (length-map (steps_of_thread thread (steps_in told)) event_of) ∙ ap (λ (es : List Event). length es) (told_events thread)
        ∙ length-map (steps_of_thread thread (steps_in earlier)) event_of

    told_waits : (thread : ℕ) → waits thread (steps_in told) ≡ waits thread (steps_in earlier)
    told_waits thread = ap (waits thread) told_steps ∙ waits_stacked n thread false [] (steps_in earlier)

    pub fits : (c : Call) → Fits m earlier c → Fits n told (recall n (steps_in earlier) c)
    fits (Readies thread pc) fit = λ none.
        subst (λ (o : Option ℕ). IfSome o (λ before. before ≡ pc)) (sym (readied_recalled n thread.0 None [] earlier))
        (fit (no_length (steps_of_thread thread.0 (steps_in earlier))
        (sym (told_length thread.0) ∙ ap (λ (xs : List Step). length xs) none)))
    fits (Sees x) fit =
        let t = thread_of x in
        let e = event_of x in (
          last_recalled n [] earlier e.thread e.done.pc fit.0,
          record {
            follows = from_events (steps_of_thread t (steps_in told)) e
                (subst (λ (es : List Event). FollowsLast (last_of es) e) (sym (told_events t))
                (to_events (steps_of_thread t (steps_in earlier)) e fit.1.follows));
            whole = fit.1.whole;
            ones = fit.1.ones;
            room = subst (λ k. k < most_steps)
                (sym (ap (λ (xs : List Step). length xs) told_steps ∙ length_stacked n [] (steps_in earlier)))
                fit.1.room;
            frames = subst (λ k. k < most_frames)
                (sym (ap (live n) told_steps
                ∙ live_stacked n m (address_code m) (λ name func. sym (address_names m name func)) (steps_in earlier)))
                fit.1.frames;
            stack = ap (λ (es : List Event). stack_of n es e.done.pc) (sym (told_events t));
            awake = told_waits t ∙ fit.1.awake;
            wakes = λ thread woken. told_waits thread ∙ fit.1.wakes thread woken;
          },
        )
    fits (Writes head rows) fit = (
      subst (λ k. 0 < k) (sym (told_length head.thread.0)) fit.0,
      record {
        lines = All-from_recursion (IsKnownLine n) [] tt;
        arcs = All-from_recursion (IsKnownArc n) [] tt;
      },
    )

  fit_all : (earlier cs : List Call) → FitAll m earlier cs
      → FitAll n (recalled n [] earlier) (recalled n (steps_in earlier) cs)
  fit_all earlier [] fit = tt
  fit_all earlier (c ∷ cs) fit = (
    fits earlier c fit.0,
    subst (λ (before : List Call). FitAll n before (recalled n (steps_by c (steps_in earlier)) cs))
        (recalled_append n [] earlier (c ∷ []))
        (subst (λ (past : List Step). FitAll n (recalled n [] (earlier ++ c ∷ [])) (recalled n past cs))
        (steps_last earlier c) (fit_all (earlier ++ c ∷ []) cs fit.1)),
  )

  pub watched_recalled : (cs : List Call) → AreWatched m cs → AreWatched n (recalled n [] cs)
  watched_recalled cs watched = fit_all [] cs watched
