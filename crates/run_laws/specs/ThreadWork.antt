-- What a thread has done alone.
use Rattle.std.specs.Prelude.{◌≡◌, ℕ, Bool, true, false, List, map}
use Rattle.event_costs.specs.Kinds.{number}
use Rattle.event_costs.specs.declared.kind.Kind.{Kind}
use Rattle.event_costs.specs.declared.kind.Kind.TheVariants.{Ir, Dr, Dw, Bc, Bi}
use Rattle.event_costs.specs.Keys.{ArcKey, Place}
use Rattle.sym_map.specs.SymbolMap.{SymbolMap}
use Rattle.shadow_stack.specs.Stacks.{Stack, root}
use Rattle.shadow_stack.specs.Traces.{CountedEvent, EventOnStack, first_pc}
use Rattle.recorder.specs.Sums.{arc_calls, arc_cost, self_cost}
use Rattle.part_dump.specs.Steps.{Step, steps_of_thread, events_of_thread}
use Rattle.once_each.specs.Runs.{costed_step}

-- the events of a thread with what they cost
abbrev pub own_costed_events : ℕ → List Step → List CountedEvent
own_costed_events thread steps = map costed_step (steps_of_thread thread steps)

-- the stack with which a thread begins that has an event among these steps: the root of the function of its first pc
abbrev pub first_stack : SymbolMap → ℕ → List Step → Stack
first_stack syms thread steps = root syms (first_pc (events_of_thread thread steps) 0)

-- the kinds of event that count what a thread does: instructions, data reads and writes, and branches, whatever is
-- missed or predicted wrongly
abbrev pub is_work : Kind → Bool
is_work Ir = true
is_work Dr = true
is_work Dw = true
is_work Bc = true
is_work Bi = true
is_work _ = false

-- These events and those cost the same of such kinds, at each place and under each arc, and make the same calls.
pub record HaveSameWork (syms : SymbolMap) (xs others : List EventOnStack) : Type 0 where
  pub lines : (kind : Kind) (place : Place) → is_work kind ≡ true
      → self_cost syms (number kind) place xs ≡ self_cost syms (number kind) place others
  pub arcs : (kind : Kind) (arc : ArcKey) → is_work kind ≡ true
      → arc_cost (number kind) arc xs ≡ arc_cost (number kind) arc others
  pub calls : (arc : ArcKey) → arc_calls syms arc xs ≡ arc_calls syms arc others
