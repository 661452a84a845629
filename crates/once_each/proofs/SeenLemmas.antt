-- The stacks of a trace: each frame was entered from the one beneath, by an arc of the graph.
use Rattle.std.proofs.Common.{◌≡◌, ℕ, Bool, true, false, cond, List, [], ◌∷◌, ◌++◌, Option, None, Some, map, filter}
use Rattle.std.proofs.Common.{refl, sym, ap, subst, ◌∙◌, if◌then◌else◌, inl, inr, ◌⊎◌, Contains}
use Rattle.std.specs.List.{AllByRecursion}
use Rattle.std.specs.Option.{option_map_or}
use Rattle.std.proofs.lemmas.Bool.{eqb-true}
use Rattle.std.proofs.lemmas.List.{map-append}
use Rattle.std.proofs.lemmas.List.Elements.{filter-append}
use Rattle.std.proofs.lemmas.List.Sums.{fold_push}
use Rattle.event_costs.specs.declared.event.Event.{Event}
use Rattle.event_costs.specs.declared.event.Flow.{Flow}
use Rattle.event_costs.specs.declared.event.Flow.TheVariants.{Call, Jump, Swap, Plain}
use Rattle.event_costs.specs.Keys.{ArcKey}
use Rattle.event_costs.specs.declared.numbers.ThreadNo.{ThreadNo}
use Rattle.sym_map.specs.SymbolMap.{SymbolMap, place_of}
use Rattle.shadow_stack.specs.declared.frame.Kind.{Kind}
use Rattle.shadow_stack.specs.Kinds.{call_of, is_root, jump}
use Rattle.shadow_stack.specs.Stacks.{Activation, Stack, root}
use Rattle.shadow_stack.specs.Changes.{Change, after, change, change_by, cut, down_to, new_activation, next_func, settle}
use Rattle.shadow_stack.specs.Changes.{settle_on, with_pushed}
use Rattle.shadow_stack.specs.Traces.{CountedEvent, EventOnStack, is_by, events_by, events_on_stacks, event_on_stack_after, events_on_stacks_from, stack_of}
use Rattle.once_each.proofs.Others.{change-end, Contains-first, same_thread}
use Rattle.call_graph.specs.Reach.{Steps}
use Rattle.once_each.specs.Graphs.{arcs_of, arcs_pushed, between, graph}
use Rattle.once_each.proofs.MemberLemmas.{Contains-flat_map, each_from}
use Rattle.once_each.proofs.StackLemmas.{IsChain, IsOn}

-- what an event pushes, if anything, is entered from what it keeps
abbrev pub IsEntered : SymbolMap → Event → Change → Type 0
IsEntered syms e c =
    (c.pushed ≡ None) ⊎ ((kind : Kind) × (is_root kind ≡ false) × (c.pushed ≡ Some (new_activation syms e kind c.rest)))

settle-entered : (syms : SymbolMap) (e : Event) (s : Stack) → IsEntered syms e (settle syms e s)
settle-entered syms e s = by (down_to (next_func syms e) s)
  where
    by : (o : Option Stack) → IsEntered syms e (settle_on syms e s o)
    by (Some rest) = inl refl
    by None = inr (jump, refl, refl)

pub change-entered : (syms : SymbolMap) (e : Event) (s : Stack) → IsEntered syms e (change syms e s)
change-entered syms e s = by e.ends
  where
    by_flow : (flow : Flow) → IsEntered syms e (change_by syms e s flow)
    by_flow Plain = settle-entered syms e s
    by_flow Call = inr (call_of e, refl, refl)
    by_flow Jump = settle-entered syms e (cut syms e s)
    by_flow Swap = inr (call_of e, refl, refl)

    by : (b : Bool) → IsEntered syms e (cond b (record { rest = []; pushed = None }) (change_by syms e s e.done.flow))
    by true = inl refl
    by false = by_flow e.done.flow

-- the stacks of a thread, event by event
stack-push : (syms : SymbolMap) (es : List Event) (e : Event) (pc : ℕ)
    → stack_of syms (es ++ e ∷ []) pc ≡ after syms (stack_of syms es e.done.pc) e
stack-push syms [] e pc = refl
stack-push syms (f ∷ es) e pc = fold_push (after syms) (root syms f.done.pc) (f ∷ es) e

pub events_by-push : (thread : ThreadNo) (xs : List CountedEvent) (x : CountedEvent)
    → events_by thread (xs ++ x ∷ []) ≡ events_by thread xs ++ (if is_by thread x then x.event ∷ [] else [])
events_by-push thread xs x =
    ap (map (λ (y : CountedEvent). y.event)) (filter-append (is_by thread) xs (x ∷ []))
    ∙ map-append (λ (y : CountedEvent). y.event) (filter (is_by thread) xs) (filter (is_by thread) (x ∷ []))
    ∙ ap (λ (l : List Event). events_by thread xs ++ l) (by (is_by thread x))
  where
    by : (b : Bool) → map (λ (y : CountedEvent). y.event) (cond b (x ∷ []) []) ≡ (if b then x.event ∷ [] else [])
    by true = refl
    by false = refl

-- an arc of an activation that is pushed
pub arcs_has : (o : Option Activation) (a : Activation) (arc : ArcKey) → o ≡ Some a → a.arc ≡ Some arc
    → Contains (arcs_of o) (between arc)
arcs_has None a arc pushed is = absurd (cc)
arcs_has (Some b) a arc pushed is =
    let b_is : Some b ≡ Some a = pushed in
    let same : b ≡ a = cc in
    let from : b.arc ≡ Some arc = ap (λ (c : Activation). c.arc) same ∙ is in
    subst (λ (o : Option ArcKey). Contains (option_map_or (λ arc. between arc ∷ []) o []) (between arc)) (sym from)
    (Contains-first (between arc) [])

pub append_none : {X : Type 0} (xs : List X) → xs ++ [] ≡ xs
append_none [] = refl
append_none (x ∷ xs) = ap (λ l. x ∷ l) (append_none xs)

module _ (Step : ℕ → ℕ → Type 0) where
  chain-rest : (front s : Stack) → IsChain Step (front ++ s) → IsChain Step s
  chain-rest [] s chain = chain
  chain-rest (a ∷ front) s chain = chain-rest front s chain.1

  -- the arc of an activation that is pushed is a step
  abbrev pub MakesStep : Option Activation → Type 0
  MakesStep pushed = (a : Activation) (arc : ArcKey) → pushed ≡ Some a → a.arc ≡ Some arc
      → Step arc.caller.0 arc.callee.0

  on_kept : (syms : SymbolMap) (e : Event) (kind : Kind) (s : Stack) → is_root kind ≡ false
      → MakesStep (Some (new_activation syms e kind s)) → IsOn Step s (new_activation syms e kind s)
  on_kept syms e kind [] no_root makes = refl
  on_kept syms e kind (b ∷ s) no_root makes =
      let arc : ArcKey
      = record {
        caller = b.func;
        file = (place_of syms e.done.pc).file;
        line = (place_of syms e.done.pc).line;
        callee = next_func syms e;
      } in
      record {
        arc = arc;
        is = refl;
        caller = refl;
        callee = refl;
        step = makes (new_activation syms e kind (b ∷ s)) arc refl refl;
        kind = no_root;
      }

  chain-after : (syms : SymbolMap) (e : Event) (s : Stack) → IsChain Step s → MakesStep (change syms e s).pushed
      → IsChain Step (after syms s e)
  chain-after syms e s chain makes = by (change syms e s).pushed refl (change-entered syms e s)
    where
      kept : IsChain Step (change syms e s).rest
      kept =
          let ends = change-end syms e s in
          chain-rest ends.front (change syms e s).rest (subst (λ (t : Stack). IsChain Step t) ends.whole chain)

      by : (o : Option Activation) → (change syms e s).pushed ≡ o
          → (o ≡ None)
          ⊎ ((kind : Kind) × (is_root kind ≡ false) × (o ≡ Some (new_activation syms e kind (change syms e s).rest)))
          → IsChain Step (with_pushed o (change syms e s).rest)
      by None is new_activation = kept
      by (Some a) is (inl none) = absurd (cc)
      by (Some a) is (inr some) =
          let a_is : Some a ≡ Some (new_activation syms e some.0 (change syms e s).rest) = some.2 in
          subst (λ (o : Option Activation). IsChain Step (with_pushed o (change syms e s).rest)) (sym a_is) (
            on_kept syms e some.0 (change syms e s).rest some.1
                (λ b arc b_is arc_is. makes b arc (is ∙ a_is ∙ b_is) arc_is),
            kept,
          )

  chains-push : (syms : SymbolMap) (earlier : List CountedEvent) (x : CountedEvent)
      → ((thread : ThreadNo) (pc : ℕ) → IsChain Step (stack_of syms (events_by thread earlier) pc))
      → MakesStep (change syms x.event (event_on_stack_after syms earlier x).stack).pushed
      → (thread : ThreadNo) (pc : ℕ) → IsChain Step (stack_of syms (events_by thread (earlier ++ x ∷ [])) pc)
  chains-push syms earlier x chains makes thread pc =
      subst (λ (es : List Event). IsChain Step (stack_of syms es pc)) (sym (events_by-push thread earlier x))
      (by (is_by thread x) refl)
    where
      by : (b : Bool) → is_by thread x ≡ b
          → IsChain Step (stack_of syms (events_by thread earlier ++ (if b then x.event ∷ [] else [])) pc)
      by true is =
          let same = same_thread x.event.thread thread (eqb-true x.event.thread.0 thread.0 is) in
          let stack = ap (λ (t : ThreadNo). after syms (stack_of syms (events_by t earlier) x.event.done.pc) x.event) same in
          subst (λ (s : Stack). IsChain Step s) (stack ∙ sym (stack-push syms (events_by thread earlier) x.event pc))
          (chain-after syms x.event (event_on_stack_after syms earlier x).stack (chains x.event.thread x.event.done.pc) makes)
      by false is =
          subst (λ (es : List Event). IsChain Step (stack_of syms es pc)) (sym (append_none (events_by thread earlier)))
          (chains thread pc)

  chains_from : (syms : SymbolMap) (earlier xs : List CountedEvent)
      → ((thread : ThreadNo) (pc : ℕ) → IsChain Step (stack_of syms (events_by thread earlier) pc))
      → AllByRecursion (λ (x : EventOnStack). MakesStep (change syms x.event x.stack).pushed) (events_on_stacks_from syms earlier xs)
      → AllByRecursion (λ (x : EventOnStack). IsChain Step x.stack) (events_on_stacks_from syms earlier xs)
  chains_from syms earlier [] chains makes = tt
  chains_from syms earlier (x ∷ xs) chains makes = (
    chains x.event.thread x.event.done.pc,
    chains_from syms (earlier ++ x ∷ []) xs (chains-push syms earlier x chains makes.0) makes.1,
  )

  -- the stacks of a trace whose graph has these steps
  pub chains : (syms : SymbolMap) (trace : List CountedEvent) → ((f g : ℕ) → Steps (graph syms trace) f g → Step f g)
      → AllByRecursion (λ (x : EventOnStack). IsChain Step x.stack) (events_on_stacks syms trace)
  chains syms trace to =
      chains_from syms [] trace (λ thread pc. (refl, tt))
      (each_from (λ (x : EventOnStack). MakesStep (change syms x.event x.stack).pushed) (events_on_stacks syms trace)
      (λ x in' a arc pushed is. to arc.caller.0 arc.callee.0
      (Contains-flat_map (arcs_pushed syms) (events_on_stacks syms trace) x (between arc) in'
      (arcs_has (change syms x.event x.stack).pushed a arc pushed is))))
