-- The call graph of a trace.
use Rattle.std.specs.Prelude.{◌≡◌, ◌<◌, ◌⊎◌, ℕ, List, [], ◌∷◌, All, flat_map, length, Option, None, Some}
use Rattle.std.specs.Option.{option_map_or}
use Rattle.event_costs.specs.Keys.{ArcKey}
use Rattle.sym_map.specs.SymbolMap.{SymbolMap, IsFunc, place_of}
use Rattle.shadow_stack.specs.Changes.{change}
use Rattle.shadow_stack.specs.Stacks.{Activation}
use Rattle.shadow_stack.specs.Traces.{CountedEvent, EventOnStack, events_on_stacks}
use Rattle.call_graph.specs.Reach.{Steps}
use Rattle.call_graph.specs.declared.arc.CallArc.{CallArc}

-- from the caller to the callee
abbrev pub between : ArcKey → CallArc
between arc = record { caller = arc.caller.0; callee = arc.callee.0 }

-- the arc of an activation that is pushed
abbrev pub arcs_of : Option Activation → List CallArc
arcs_of None = []
arcs_of (Some a) = option_map_or (λ arc. between arc ∷ []) a.arc []

abbrev pub arcs_pushed : SymbolMap → EventOnStack → List CallArc
arcs_pushed syms x = arcs_of (change syms x.event x.stack).pushed

-- the arcs of all frames that the events of a trace push
abbrev pub graph : SymbolMap → List CountedEvent → List CallArc
graph syms trace = flat_map (arcs_pushed syms) (events_on_stacks syms trace)

-- a function that calls or is called
abbrev pub TakesPart : List CallArc → ℕ → Type 0
TakesPart arcs f = (g : ℕ) × (Steps arcs f g ⊎ Steps arcs g f)

-- the functions that take part have numbers, or texts, of their own
abbrev pub AreApartIn : {A : Type 0} → List CallArc → (ℕ → A) → Type 0
AreApartIn arcs number = (f g : ℕ) → TakesPart arcs f → TakesPart arcs g → number f ≡ number g → f ≡ g

-- a number, or a text, that no other function of the map has
abbrev pub IsOwn : {A : Type 0} → SymbolMap → (ℕ → A) → ℕ → Type 0
IsOwn syms number f = (g : ℕ) → g < length syms.functions → number g ≡ number f → g ≡ f

-- each function of the map has one
abbrev pub AreOwn : {A : Type 0} → SymbolMap → (ℕ → A) → Type 0
AreOwn syms number = (f : ℕ) → f < length syms.functions → IsOwn syms number f

-- each function that takes part has one
abbrev pub AreOwnIn : {A : Type 0} → SymbolMap → List CallArc → (ℕ → A) → Type 0
AreOwnIn syms arcs number = (f : ℕ) → TakesPart arcs f → IsOwn syms number f

-- The functions of each event's pc, and of the pc that it leads to, are of the map.
abbrev pub AreOfMap : SymbolMap → List CountedEvent → Type 0
AreOfMap syms trace =
    All (λ x. IsFunc syms (place_of syms x.event.done.pc).func × IsFunc syms (place_of syms x.event.done.next).func)
    trace
