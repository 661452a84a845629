-- The functions of a trace are those of the map, and so are its groups.
use Rattle.std.proofs.Common.{◌≡◌, ℕ, ◌<◌, ◌==◌, Bool, true, false, cond, List, [], ◌∷◌, ◌++◌, length, map, filter}
use Rattle.std.proofs.Common.{Option, None, Some, refl, sym, ap, subst, ◌∙◌, ◌↔◌, ◌&&◌, ◌||◌, arith, if◌then◌else◌}
use Rattle.std.proofs.Common.{inl, inr, ◌⊎◌, ⊎_elim, All, Contains}
use Rattle.std.specs.List.{AllByRecursion}
use Rattle.std.proofs.lemmas.Bool.{eq-eqb, eqb-true}
use Rattle.std.proofs.lemmas.List.Elements.{All-from_recursion, recursion_from_All}
use Rattle.event_costs.specs.declared.event.Event.{Event}
use Rattle.event_costs.specs.declared.numbers.ThreadNo.{ThreadNo}
use Rattle.sym_map.specs.SymbolMap.{SymbolMap, place_of}
use Rattle.once_each.proofs.Others.{first_or_rest, change-end}
use Rattle.shadow_stack.specs.declared.frame.Kind.{Kind}
use Rattle.shadow_stack.specs.Kinds.{is_root}
use Rattle.shadow_stack.specs.Stacks.{Activation, Stack, root}
use Rattle.shadow_stack.specs.Changes.{after, change, new_activation, next_func, with_pushed}
use Rattle.shadow_stack.specs.Traces.{CountedEvent, EventOnStack, is_by, events_by, events_on_stacks, events_on_stacks_from, stack_after, stack_of}
use Rattle.call_graph.specs.Reach.{IsGroup, SameGroup, Steps}
use Rattle.call_graph.specs.declared.arc.CallArc.{CallArc}
use Rattle.cg_read.specs.Profiles.{Contents}
use Rattle.cycles.specs.Costs.{call_arcs, inclusive_cost}
use Rattle.cycles.specs.Limits.{pair_cost}
use Rattle.once_each.specs.Graphs.{AreOfMap, AreOwnIn, IsOwn, TakesPart, arcs_of, arcs_pushed, graph}
use Rattle.once_each.specs.Once.{once, once_pair, stands, stands_on}
use Rattle.once_each.specs.Orderly.{FitTops}
use Rattle.once_each.specs.Profiles.{IsProfileOf, Numbering}
use Rattle.once_each.proofs.GroupLemmas.{groups_numbered}
use Rattle.once_each.proofs.LawLemmas.{group_once, pair_once}
use Rattle.once_each.proofs.MemberLemmas.{each_at, each_from, from_flat_map}
use Rattle.once_each.proofs.PartLemmas.{cost_of}
use Rattle.once_each.proofs.SeenLemmas.{change-entered}
use Rattle.once_each.proofs.SumLemmas.{sum_by-each}

module _ (syms : SymbolMap) where
  abbrev IsKnown : ℕ → Type 0
  IsKnown f = f < length syms.functions

  abbrev IsKnownEvent : Event → Type 0
  IsKnownEvent e = IsKnown (place_of syms e.done.pc).func.0 × IsKnown (place_of syms e.done.next).func.0

  abbrev AreKnown : Stack → Type 0
  AreKnown s = AllByRecursion (λ (a : Activation). IsKnown a.func.0) s

  -- ---- the stacks

  known_end : (front s : Stack) → AreKnown (front ++ s) → AreKnown s
  known_end [] s known = known
  known_end (a ∷ front) s known = known_end front s known.1

  known_after : (e : Event) (s : Stack) → AreKnown s → IsKnownEvent e → AreKnown (after syms s e)
  known_after e s known event = by (change syms e s).pushed (change-entered syms e s)
    where
      kept : AreKnown (change syms e s).rest
      kept =
          let ends = change-end syms e s in
          known_end ends.front (change syms e s).rest (subst (λ (t : Stack). AreKnown t) ends.whole known)

      by : (o : Option Activation)
          → (o ≡ None)
          ⊎ ((kind : Kind) × (is_root kind ≡ false) × (o ≡ Some (new_activation syms e kind (change syms e s).rest)))
          → AreKnown (with_pushed o (change syms e s).rest)
      by None is = kept
      by (Some a) (inl none) = absurd (cc)
      by (Some a) (inr some) =
          let a_is : Some a ≡ Some (new_activation syms e some.0 (change syms e s).rest) = some.2 in
          let same : a ≡ new_activation syms e some.0 (change syms e s).rest = cc in
          let func : a.func.0 ≡ (next_func syms e).0 = ap (λ (b : Activation). b.func.0) same in
          (subst (λ f. f < length syms.functions) (sym func) event.1, kept)

  known_all : (s : Stack) (es : List Event) → AreKnown s → AllByRecursion IsKnownEvent es
      → AreKnown (stack_after syms s es)
  known_all s [] known events = known
  known_all s (e ∷ es) known events = known_all (after syms s e) es (known_after e s known events.0) events.1

  known_stack : (es : List Event) (pc : ℕ) → AllByRecursion IsKnownEvent es → IsKnown (place_of syms pc).func.0
      → AreKnown (stack_of syms es pc)
  known_stack [] pc events known = (known, tt)
  known_stack (e ∷ es) pc events known = known_all (root syms e.done.pc) (e ∷ es) (events.0.0, tt) events

  abbrev AreKnownEvents : List CountedEvent → Type 0
  AreKnownEvents xs = AllByRecursion (λ (x : CountedEvent). IsKnownEvent x.event) xs

  known_own : (thread : ThreadNo) (xs : List CountedEvent) → AreKnownEvents xs → AllByRecursion IsKnownEvent (events_by thread xs)
  known_own thread [] events = tt
  known_own thread (x ∷ xs) events = by (is_by thread x) (known_own thread xs events.1)
    where
      by : (b : Bool) → AllByRecursion IsKnownEvent (events_by thread xs)
          → AllByRecursion IsKnownEvent
          (map (λ (y : CountedEvent). y.event) (cond b (x ∷ filter (is_by thread) xs) (filter (is_by thread) xs)))
      by true rest = (events.0, rest)
      by false rest = rest

  known_push : (xs : List CountedEvent) (x : CountedEvent) → AreKnownEvents xs → IsKnownEvent x.event
      → AreKnownEvents (xs ++ x ∷ [])
  known_push [] x events event = (event, tt)
  known_push (y ∷ ys) x events event = (events.0, known_push ys x events.1 event)

  -- what is known of an event with the stack before it
  abbrev IsKnownSeen : EventOnStack → Type 0
  IsKnownSeen x = AreKnown x.stack × IsKnownEvent x.event

  known_from : (earlier xs : List CountedEvent) → AreKnownEvents earlier → AreKnownEvents xs
      → AllByRecursion IsKnownSeen (events_on_stacks_from syms earlier xs)
  known_from earlier [] before events = tt
  known_from earlier (x ∷ xs) before events = (
    (
      known_stack (events_by x.event.thread earlier) x.event.done.pc (known_own x.event.thread earlier before) events.0.0,
      events.0,
    ),
    known_from (earlier ++ x ∷ []) xs (known_push earlier x before events.0) events.1,
  )

  module _ (trace : List CountedEvent) (of_map : AreOfMap syms trace) where
    known_seen : AllByRecursion IsKnownSeen (events_on_stacks syms trace)
    known_seen = known_from [] trace tt (recursion_from_All (λ (x : CountedEvent). IsKnownEvent x.event) trace of_map)

    pub stacks_of_map : All (λ x. All (λ a. a.func.0 < length syms.functions) x.stack) (events_on_stacks syms trace)
    stacks_of_map =
        All-from_recursion (λ (x : EventOnStack). All (λ (a : Activation). a.func.0 < length syms.functions) x.stack)
        (events_on_stacks syms trace)
        (each_from (λ (x : EventOnStack). All (λ (a : Activation). a.func.0 < length syms.functions) x.stack) (events_on_stacks syms trace)
        (λ x in'. All-from_recursion (λ (a : Activation). a.func.0 < length syms.functions) x.stack
        (each_at IsKnownSeen (events_on_stacks syms trace) known_seen x in').0))

    -- ---- the graph

    known_step : (f g : ℕ) → Steps (graph syms trace) f g → IsKnown f × IsKnown g
    known_step f g step =
        let x = from_flat_map (arcs_pushed syms) (events_on_stacks syms trace) (record { caller = f; callee = g }) step in
        let known = each_at IsKnownSeen (events_on_stacks syms trace) known_seen x.item x.among in
        let ends = change-end syms x.item.event x.item.stack in
        let kept = known_end ends.front (change syms x.item.event x.item.stack).rest
        (subst (λ (t : Stack). AreKnown t) ends.whole known.0) in
        by x.item.event known.1 (change syms x.item.event x.item.stack).rest kept
        (change syms x.item.event x.item.stack).pushed (change-entered syms x.item.event x.item.stack) x.has
      where
        on : (e : Event) → IsKnownEvent e → (kind : Kind) (s : Stack) → AreKnown s
            → Contains (arcs_of (Some (new_activation syms e kind s))) (record { caller = f; callee = g })
            → IsKnown f × IsKnown g
        on e event kind [] known has = absurd (let none = has.1 in omega (arith, none))
        on e event kind (b ∷ s) known has =
            let arc : CallArc = record { caller = b.func.0; callee = (next_func syms e).0 } in
            let same : arc ≡ record { caller = f; callee = g }
            = ⊎_elim (λ e. e) (λ later. absurd (omega (arith, later.1)))
            (first_or_rest arc [] (record { caller = f; callee = g }) has) in (
              subst (λ h. h < length syms.functions) (ap (λ (c : CallArc). c.caller) same) known.0,
              subst (λ h. h < length syms.functions) (ap (λ (c : CallArc). c.callee) same) event.1,
            )

        by : (e : Event) → IsKnownEvent e → (s : Stack) → AreKnown s → (o : Option Activation)
            → (o ≡ None) ⊎ ((kind : Kind) × (is_root kind ≡ false) × (o ≡ Some (new_activation syms e kind s)))
            → Contains (arcs_of o) (record { caller = f; callee = g }) → IsKnown f × IsKnown g
        by e event s known None is has = absurd (let none = has.1 in omega (arith, none))
        by e event s known (Some a) (inl none) has = absurd (cc)
        by e event s known (Some a) (inr some) has =
            on e event some.0 s known
            (subst (λ (o : Option Activation). Contains (arcs_of o) (record { caller = f; callee = g })) some.2 has)

    pub known_part : (f : ℕ) → TakesPart (graph syms trace) f → f < length syms.functions
    known_part f (g, inl step) = (known_step f g step).0
    known_part f (g, inr step) = (known_step g f step).1

    -- ---- groups under the numbers of a profile

    module _ (n : Numbering) (p : Contents) (is : IsProfileOf syms trace n p)
        (own_in : AreOwnIn syms (graph syms trace) n.func) where
      pub known_groups : (f g : ℕ) → f < length syms.functions → g < length syms.functions → IsOwn syms n.func f
          → SameGroup (Steps (graph syms trace)) f g ↔ SameGroup (Steps (call_arcs p)) (n.func f) (n.func g)
      known_groups f g known_f known_g mine =
          groups_numbered syms trace n p is (λ h. h < length syms.functions) known_part
          (λ h k part known e. own_in h part k known e) f g known_f known_g (λ e. sym (mine g known_g (sym e)))

      pub function_once : (group member : ℕ → Bool) (func kind : ℕ) → FitTops syms trace → kind < length p.events
          → func < length syms.functions → IsOwn syms n.func func → IsGroup (Steps (graph syms trace)) group
          → group func ≡ true → IsGroup (Steps (call_arcs p)) member → member (n.func func) ≡ true
          → inclusive_cost member p kind ≡ once group kind (events_on_stacks syms trace)
      function_once group member func kind tops within known mine of_graph here of_profile there =
          group_once syms trace n p is member kind tops within of_profile
          ∙ sum_by-each (λ x. if stands (λ f. member (n.func f)) x.stack then cost_of kind x else 0)
          (λ x. if stands group x.stack then cost_of kind x else 0) (events_on_stacks syms trace)
          (each_from (λ x. (if stands (λ f. member (n.func f)) x.stack then cost_of kind x else 0)
          ≡ (if stands group x.stack then cost_of kind x else 0)) (events_on_stacks syms trace)
          (λ x in'. ap (λ b. if b then cost_of kind x else 0)
          (same_stands x.stack (each_at IsKnownSeen (events_on_stacks syms trace) known_seen x in').0)))
        where
          bool_same : (a b : Bool) → (a ≡ true → b ≡ true) → (b ≡ true → a ≡ true) → a ≡ b
          bool_same true b forth back = sym (forth refl)
          bool_same false true forth back = back refl
          bool_same false false forth back = refl

          same : (f : ℕ) → f < length syms.functions → member (n.func f) ≡ group f
          same f known_f =
              let both = known_groups func f known known_f mine in
              bool_same (member (n.func f)) (group f)
              (λ yes. (of_graph func f here).1 (both.1 ((of_profile (n.func func) (n.func f) there).0 yes)))
              (λ yes. (of_profile (n.func func) (n.func f) there).1 (both.0 ((of_graph func f here).0 yes)))

          same_stands : (s : Stack) → AreKnown s → stands (λ f. member (n.func f)) s ≡ stands group s
          same_stands [] known = refl
          same_stands (a ∷ s) known =
              ap (λ b. b || stands (λ f. member (n.func f)) s) (same a.func.0 known.0)
              ∙ ap (λ b. group a.func.0 || b) (same_stands s known.1)

      pub functions_once : (caller callee kind : ℕ) → kind < length p.events → caller < length syms.functions
          → callee < length syms.functions → IsOwn syms n.func caller → IsOwn syms n.func callee
          → (SameGroup (Steps (graph syms trace)) caller callee → ⊥)
          → pair_cost (n.func caller) (n.func callee) p.call_rows kind
          ≡ once_pair (λ f. f == caller) (λ f. f == callee) kind (events_on_stacks syms trace)
      functions_once caller callee kind within known_caller known_callee mine theirs apart =
          pair_once syms trace n p is (n.func caller) (n.func callee) kind within
          (λ same. apart ((known_groups caller callee known_caller known_callee mine).1 same))
          ∙ sum_by-each
          (λ x. if stands_on (λ f. n.func f == n.func caller) (λ f. n.func f == n.func callee) x.stack
          then cost_of kind x else 0)
          (λ x. if stands_on (λ f. f == caller) (λ f. f == callee) x.stack then cost_of kind x else 0)
          (events_on_stacks syms trace)
          (each_from (λ x. (if stands_on (λ f. n.func f == n.func caller) (λ f. n.func f == n.func callee) x.stack
          then cost_of kind x else 0)
          ≡ (if stands_on (λ f. f == caller) (λ f. f == callee) x.stack then cost_of kind x else 0)) (events_on_stacks syms trace)
          (λ x in'. ap (λ b. if b then cost_of kind x else 0)
          (same_stands x.stack (each_at IsKnownSeen (events_on_stacks syms trace) known_seen x in').0)))
        where
          one : (h f : ℕ) → f < length syms.functions → IsOwn syms n.func h → (n.func f == n.func h) ≡ (f == h)
          one h f known is_own = by (f == h) refl
            where
              by : (b : Bool) → (f == h) ≡ b → (n.func f == n.func h) ≡ b
              by true is = eq-eqb (n.func f) (n.func h) (ap n.func (eqb-true f h is))
              by false is = go (n.func f == n.func h) refl
                where
                  go : (c : Bool) → (n.func f == n.func h) ≡ c → c ≡ false
                  go false so = refl
                  go true so =
                      let same : f ≡ h = is_own f known (eqb-true (n.func f) (n.func h) so) in
                      sym (eq-eqb f h same) ∙ is

          same_stands : (s : Stack) → AreKnown s
              → stands_on (λ f. n.func f == n.func caller) (λ f. n.func f == n.func callee) s
              ≡ stands_on (λ f. f == caller) (λ f. f == callee) s
          same_stands [] known = refl
          same_stands (a ∷ []) known = refl
          same_stands (a ∷ (b ∷ s)) known =
              ap (λ c. (c && (n.func a.func.0 == n.func callee))
              || stands_on (λ f. n.func f == n.func caller) (λ f. n.func f == n.func callee) (b ∷ s))
              (one caller b.func.0 known.1.0 mine)
              ∙ ap (λ c. ((b.func.0 == caller) && c)
              || stands_on (λ f. n.func f == n.func caller) (λ f. n.func f == n.func callee) (b ∷ s))
              (one callee a.func.0 known.0 theirs)
              ∙ ap (λ c. ((b.func.0 == caller) && (a.func.0 == callee)) || c) (same_stands (b ∷ s) known.1)
