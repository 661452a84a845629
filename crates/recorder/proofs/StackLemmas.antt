-- What holds of roots and of activations that are entered holds of all activations of a thread's stacks.
use Rattle.std.proofs.Common.{◌≡◌, Bool, true, false, List, [], ◌∷◌, refl, sym, subst, ◌⊎◌, inl, inr, if◌then◌else◌}
use Rattle.std.proofs.Common.{ℕ, Option, None, Some}
use Rattle.std.specs.Option.{option_to_list}
use Rattle.event_costs.specs.declared.event.Event.{Event}
use Rattle.event_costs.specs.declared.event.Flow.{Flow}
use Rattle.event_costs.specs.declared.event.Flow.TheVariants.{Call, Jump, Swap, Plain}
use Rattle.sym_map.specs.SymbolMap.{SymbolMap}
use Rattle.shadow_stack.specs.Changes.{Change, after, change, change_by, cut, down_to, new_activation, next_func, settle_on}
use Rattle.shadow_stack.specs.Changes.{with_pushed}
use Rattle.shadow_stack.specs.Kinds.{is_root}
use Rattle.shadow_stack.specs.Stacks.{Activation, Stack, root}
use Rattle.shadow_stack.specs.Traces.{first_pc, stack_after, stack_of}
use Rattle.shadow_stack.specs.declared.frame.Kind.{Kind}
use Rattle.recorder.proofs.Others.{change-end, IsEnd}
use Rattle.recorder.specs.Laws.{IsIn}
use Rattle.recorder.proofs.ListLemmas.{in_right}

abbrev pub Each : (Activation → Type 0) → Stack → Type 0
Each P s = (a : Activation) → IsIn s a → P a

module _ (syms : SymbolMap) where
  -- what a change pushes is entered on what it keeps, and is no root
  abbrev Pushes : Event → Change → Type 0
  Pushes e c =
      (c.pushed ≡ None)
      ⊎ ((kind : Kind) × (is_root kind ≡ false) × (c.pushed ≡ Some (new_activation syms e kind c.rest)))

  settled : (e : Event) (s : Stack) (o : Option Stack) → Pushes e (settle_on syms e s o)
  settled e s None = inr (_, refl, refl)
  settled e s (Some rest) = inl refl

  by_flow : (e : Event) (s : Stack) (flow : Flow) → Pushes e (change_by syms e s flow)
  by_flow e s Plain = settled e s (down_to (next_func syms e) s)
  by_flow e s Call = inr (_, refl, refl)
  by_flow e s Jump = settled e (cut syms e s) (down_to (next_func syms e) (cut syms e s))
  by_flow e s Swap = inr (_, refl, refl)

  pushes : (e : Event) (s : Stack) → Pushes e (change syms e s)
  pushes e s = by e.ends
    where
      by : (b : Bool) → Pushes e (if b then record { rest = []; pushed = None } else change_by syms e s e.done.flow)
      by true = inl refl
      by false = by_flow e s e.done.flow

  module _ (P : Activation → Type 0) (begins : (pc : ℕ) → Each P (root syms pc))
      (enters : (e : Event) (kind : Kind) (s : Stack) → is_root kind ≡ false → Each P s → P (new_activation syms e kind s))
    where
      kept_each : (kept s : Stack) → IsEnd kept s → Each P s → Each P kept
      kept_each kept s e all a there =
          all a (subst (λ u. IsIn u a) (sym e.whole) (in_right e.front kept a there))

      pub pushed_each : (e : Event) (s : Stack) → Each P s → (a : Activation)
          → IsIn (option_to_list (change syms e s).pushed) a → P a
      pushed_each e s all a there =
          let kept = kept_each (change syms e s).rest s (change-end syms e s) all in
          elim (pushes e s) as (λ _. P a) [
            | inl none ↦ elim (subst (λ o. IsIn (option_to_list o) a) none there) [ ]
            | inr some ↦
                elim (subst (λ o. IsIn (option_to_list o) a) some.2 there) as (λ _. P a) [
                  | inl is ↦ subst P is (enters e some.0 (change syms e s).rest some.1 kept)
                  | inr none ↦ elim none [ ]
                ]
          ]

      after_each : (e : Event) (s : Stack) → Each P s → Each P (after syms s e)
      after_each e s all = by (change syms e s).pushed (pushed_each e s all)
        where
          by : (o : Option Activation) → ((a : Activation) → IsIn (option_to_list o) a → P a)
              → Each P (with_pushed o (change syms e s).rest)
          by None each = kept_each (change syms e s).rest s (change-end syms e s) all
          by (Some b) each = λ a there. elim there as (λ _. P a) [
            | inl is ↦ each a (inl is)
            | inr kept ↦ kept_each (change syms e s).rest s (change-end syms e s) all a kept
          ]

      folded : (es : List Event) (s : Stack) → Each P s → Each P (stack_after syms s es)
      folded [] s all = all
      folded (e ∷ es) s all = folded es (after syms s e) (after_each e s all)

      pub stack_each : (es : List Event) (pc : ℕ) → Each P (stack_of syms es pc)
      stack_each es pc = folded es (root syms (first_pc es pc)) (begins (first_pc es pc))
