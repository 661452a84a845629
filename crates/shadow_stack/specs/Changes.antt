-- How an event changes the stack of its thread.
use Rattle.std.specs.Prelude.{ℕ, ◌-◌, ◌&&◌, Bool, false, not, List, [], ◌∷◌, length, Option, None, Some, if◌then◌else◌}
use Rattle.std.specs.Option.{option_map, unwrap_or}
use Rattle.event_costs.specs.declared.event.Event.{Event}
use Rattle.event_costs.specs.declared.event.Flow.{Flow}
use Rattle.event_costs.specs.declared.event.Flow.TheVariants.{Call, Jump, Swap, Plain}
use Rattle.event_costs.specs.Keys.{ArcKey, Place}
use Rattle.event_costs.specs.declared.numbers.FuncId.{FuncId}
use Rattle.sym_map.specs.SymbolMap.{SymbolMap, place_of, is_entry_at}
use Rattle.shadow_stack.specs.declared.frame.Kind.{Kind}
use Rattle.shadow_stack.specs.Kinds.{call_of, jump, is_jump, is_left_by, returns_by, is_below, is_level}
use Rattle.shadow_stack.specs.Stacks.{Activation, Stack, Group, is_activation_of, has_func, is_top, members, groups, stack_of_groups}

-- the function that the event leads to
abbrev pub next_func : SymbolMap → Event → FuncId
next_func syms e = (place_of syms e.done.next).func

-- (a) what is beneath the innermost call with the new pc as its return address and with the new stack pointer
abbrev pub beneath_call : Event → Stack → Option Stack
beneath_call e [] = None
beneath_call e (a ∷ s) = if is_left_by e a.kind then Some s else beneath_call e s

-- the groups without the innermost ones, as long as the test passes
abbrev pub drop_groups : (List Group → Bool) → List Group → List Group
drop_groups test [] = []
drop_groups test (g ∷ gs) = if test (g ∷ gs) then drop_groups test gs else g ∷ gs

-- the innermost group begins with a call whose stack pointer is below the new one
abbrev pub is_under : Event → List Group → Bool
is_under e [] = false
is_under e (g ∷ gs) = is_below e g.base.kind

-- the innermost group begins with a call whose stack pointer is the new one, has no frame of the next function, which
-- isn't entered here, and stands on a frame of that function
abbrev pub is_returned_from : SymbolMap → Event → List Group → Bool
is_returned_from syms e [] = false
is_returned_from syms e (g ∷ gs) =
    is_level e g.base.kind && not (is_entry_at syms e.done.next)
    && not (has_func (next_func syms e) (members g)) && is_top (next_func syms e) (stack_of_groups gs)

-- (c) the groups that the stack pointer leaves
abbrev pub above_sp : SymbolMap → Event → List Group → List Group
above_sp syms e gs = drop_groups (is_returned_from syms e) (drop_groups (is_under e) gs)

-- (b) the innermost group goes if it begins with a call that returns to the new pc; (c) else the stack pointer decides
abbrev pub remaining_groups : SymbolMap → Event → List Group → List Group
remaining_groups syms e [] = []
remaining_groups syms e (g ∷ gs) = if returns_by e g.base.kind then gs else above_sp syms e (g ∷ gs)

-- what a jump leaves of a stack
abbrev pub cut : SymbolMap → Event → Stack → Stack
cut syms e s = unwrap_or (beneath_call e s) (stack_of_groups (remaining_groups syms e (groups s)))

-- what is left of a stack, and what is pushed on it
pub record Change : Type 0 where
  pub rest : Stack
  pub pushed : Option Activation

-- a stack that stays as it is
abbrev pub no_change : Stack → Change
no_change s = record { rest = s; pushed = None }

-- the arc from the top of a stack to a function, at the place of the entering instruction
abbrev pub arc_from : Place → FuncId → Stack → Option ArcKey
arc_from place callee [] = None
arc_from place callee (a ∷ s) = Some (record { caller = a.func; file = place.file; line = place.line; callee = callee })

-- an activation of this function on a stack, entered at this place
abbrev pub activation_at : Place → FuncId → Kind → Stack → Activation
activation_at place func kind s = record { func = func; kind = kind; arc = arc_from place func s }

-- the one that the event makes
abbrev pub new_activation : SymbolMap → Event → Kind → Stack → Activation
new_activation syms e kind s = activation_at (place_of syms e.done.pc) (next_func syms e) kind s

abbrev pub push : SymbolMap → Event → Kind → Stack → Change
push syms e kind s = record { rest = s; pushed = Some (new_activation syms e kind s) }

-- the stack from the highest frame of a function in the innermost group on
abbrev pub down_to : FuncId → Stack → Option Stack
down_to func [] = None
down_to func (a ∷ s) = if is_activation_of func a then Some (a ∷ s) else (if is_jump a.kind then down_to func s else None)

abbrev pub settle_on : SymbolMap → Event → Stack → Option Stack → Change
settle_on syms e s (Some rest) = record { rest = rest; pushed = None }
settle_on syms e s None = push syms e jump s

-- The top becomes a frame of the next function: the highest one of the innermost group, or a new jump.
abbrev pub settle : SymbolMap → Event → Stack → Change
settle syms e s = settle_on syms e s (down_to (next_func syms e) s)

abbrev pub change_by : SymbolMap → Event → Stack → Flow → Change
change_by syms e s Plain = settle syms e s
change_by syms e s Call = push syms e (call_of e) s
change_by syms e s Jump = settle syms e (cut syms e s)
change_by syms e s Swap = push syms e (call_of e) (cut syms e s)

-- a thread that ends loses its stack
abbrev pub change : SymbolMap → Event → Stack → Change
change syms e s = if e.ends then record { rest = []; pushed = None } else change_by syms e s e.done.flow

abbrev pub with_pushed : Option Activation → Stack → Stack
with_pushed None s = s
with_pushed (Some a) s = a ∷ s

-- the stack after an event
abbrev pub after : SymbolMap → Stack → Event → Stack
after syms s e = with_pushed (change syms e s).pushed (change syms e s).rest

-- how many activations an event drops from the top
abbrev pub drop_count : SymbolMap → Event → Stack → ℕ
drop_count syms e s = length s - length (change syms e s).rest

-- the change that keeps this stack and pushes an activation of this kind
abbrev pub change_to : SymbolMap → Event → Stack → Option Kind → Change
change_to syms e s kind = record { rest = s; pushed = option_map (λ k. new_activation syms e k s) kind }
