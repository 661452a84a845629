-- The functions and files of stacks are those of their map.
use Rattle.std.proofs.Common.{ℕ, List, [], ◌∷◌, refl, subst, inl, inr}
use Rattle.std.specs.Option.{option_to_list}
use Rattle.event_costs.specs.declared.event.Event.{Event}
use Rattle.event_costs.specs.Keys.{ArcKey}
use Rattle.sym_map.specs.SymbolMap.{IsFile, IsFunc, SymbolMap}
use Rattle.shadow_stack.specs.Changes.{change, new_activation}
use Rattle.shadow_stack.specs.Stacks.{Activation, Stack, root}
use Rattle.shadow_stack.specs.Traces.{stack_of}
use Rattle.shadow_stack.specs.declared.frame.Kind.{Kind}
use Rattle.recorder.specs.Laws.{IsIn}
use Rattle.recorder.specs.inner.Known.{KnowsPlaces}
use Rattle.recorder.proofs.StackLemmas.{pushed_each, stack_each}

module _ (syms : SymbolMap) (knows : KnowsPlaces syms) where
  pub record IsKnownKey (k : ArcKey) : Type 0 where
    pub caller : IsFunc syms k.caller
    pub file : IsFile syms k.file
    pub callee : IsFunc syms k.callee

  pub record IsKnown (a : Activation) : Type 0 where
    pub func : IsFunc syms a.func
    pub arc : (k : ArcKey) → IsIn (option_to_list a.arc) k → IsKnownKey k

  abbrev pub AreKnownIn : Stack → Type 0
  AreKnownIn s = (a : Activation) → IsIn s a → IsKnown a

  root_known : (pc : ℕ) → AreKnownIn (root syms pc)
  root_known pc a (inl is) = subst IsKnown is (record { func = (knows pc).0; arc = λ k there. elim there [ ] })
  root_known pc a (inr there) = elim there [ ]

  entered_known : (e : Event) (kind : Kind) (s : Stack) → AreKnownIn s → IsKnown (new_activation syms e kind s)
  entered_known e kind [] all = record { func = (knows e.done.next).0; arc = λ k there. elim there [ ] }
  entered_known e kind (a ∷ s) all = record {
    func = (knows e.done.next).0;
    arc = λ k there. elim there as (λ _. IsKnownKey k) [
      | inl is ↦
          subst IsKnownKey is
          (record {
            caller = (all a (inl refl)).func;
            file = (knows e.done.pc).1;
            callee = (knows e.done.next).0;
          })
      | inr none ↦ elim none [ ]
    ];
  }

  pub pushed_known : (e : Event) (s : Stack) → AreKnownIn s → (a : Activation)
      → IsIn (option_to_list (change syms e s).pushed) a → IsKnown a
  pushed_known e s all a there =
      pushed_each syms IsKnown root_known (λ d kind u other each. entered_known d kind u each) e s all a there

  -- the functions and arcs of a stack are those of the map
  pub stack_known : (es : List Event) (pc : ℕ) → AreKnownIn (stack_of syms es pc)
  stack_known es pc =
      stack_each syms IsKnown root_known (λ d kind u other each. entered_known d kind u each) es pc
