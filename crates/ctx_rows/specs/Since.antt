-- What a thread has done since its last part, and how its events stand on its stack.
use Rattle.std.specs.Prelude.{◌≡◌, ℕ, ◌==◌, false, true, List, [], ◌∷◌, ◌++◌, IfSome, Some, if◌then◌else◌}
use Rattle.event_costs.specs.Costs.{IsWhole}
use Rattle.sym_map.specs.SymbolMap.{SymbolMap, place_of}
use Rattle.shadow_stack.specs.Kinds.{is_root}
use Rattle.shadow_stack.specs.Stacks.{Activation, Stack, is_rooted, top_of}
use Rattle.shadow_stack.specs.Traces.{EventOnStack}
use Rattle.part_dump.specs.Calls.{Call, Readies, Sees, Writes}
use Rattle.part_dump.specs.Steps.{thread_of}

-- the events of a thread once a call is made, where it had these since its last part
abbrev pub since_by : ℕ → Call → List EventOnStack → List EventOnStack
since_by thread (Readies t pc) before = before
since_by thread (Sees x) before = if thread_of x == thread then before ++ x.on_stack ∷ [] else before
since_by thread (Writes head rows) before = if head.thread.0 == thread then [] else before

abbrev pub since_after : ℕ → List EventOnStack → List Call → List EventOnStack
since_after thread before [] = before
since_after thread before (c ∷ cs) = since_after thread (since_by thread c before) cs

-- the events of a thread since its last part, among these calls
abbrev pub since : ℕ → List Call → List EventOnStack
since thread cs = since_after thread [] cs

-- a frame that stands on others is no root
abbrev pub IsOn : Activation → Stack → Type 0
IsOn a [] = Unit {0}
IsOn a (b ∷ s) = is_root a.kind ≡ false

-- Each frame was entered by an arc from the function of the frame beneath to its own, if by any.
abbrev pub AreEntered : Stack → Type 0
AreEntered [] = Unit {0}
AreEntered (a ∷ s) =
    IfSome a.arc (λ arc. (arc.callee ≡ a.func) × (top_of s ≡ Some arc.caller)) × IsOn a s × AreEntered s

-- The top of an event's stack is a frame of the function of its pc, and the frames were entered from each other; its
-- cost has a number for each kind of event.
pub record StandsOn (syms : SymbolMap) (x : EventOnStack) : Type 0 where
  pub whole : IsWhole x.cost
  pub rooted : is_rooted x.stack ≡ true
  pub top : top_of x.stack ≡ Some (place_of syms x.event.done.pc).func
  pub entered : AreEntered x.stack
