-- Call stacks: the functions that a thread has entered and hasn't left.
use Rattle.std.specs.Prelude.{ℕ, ◌==◌, Bool, false, List, [], ◌∷◌, ◌++◌, flat_map, Option, None, Some, if◌then◌else◌}
use Rattle.std.specs.List.{list_any}
use Rattle.event_costs.specs.Keys.{ArcKey}
use Rattle.event_costs.specs.declared.numbers.FuncId.{FuncId}
use Rattle.sym_map.specs.SymbolMap.{SymbolMap, place_of}
use Rattle.shadow_stack.specs.declared.frame.Kind.{Kind}
use Rattle.shadow_stack.specs.declared.frame.Kind.TheVariants.{Root}
use Rattle.shadow_stack.specs.Kinds.{is_jump, is_root}

-- a frame without its start: its function, what it came from, and the arc that entered it, which a root lacks
pub record Activation : Type 0 where
  pub func : FuncId
  pub kind : Kind
  pub arc : Option ArcKey

-- the activations of a thread, the top first
abbrev pub Stack : Type 0
Stack = List Activation

-- how many frames that are no roots may be live
abbrev pub most_frames : ℕ
most_frames = 4194304

-- the stack of a thread that begins at this pc
abbrev pub root : SymbolMap → ℕ → Stack
root syms pc = record { func = (place_of syms pc).func; kind = Root; arc = None } ∷ []

-- the lowest activation is a root
abbrev pub is_rooted : Stack → Bool
is_rooted [] = false
is_rooted (a ∷ []) = is_root a.kind
is_rooted (a ∷ (b ∷ s)) = is_rooted (b ∷ s)

-- whether it is an activation of this function
abbrev pub is_activation_of : FuncId → Activation → Bool
is_activation_of func a = a.func.0 == func.0

abbrev pub has_func : FuncId → Stack → Bool
has_func func s = list_any (is_activation_of func) s

-- the top is an activation of this function
abbrev pub is_top : FuncId → Stack → Bool
is_top func [] = false
is_top func (a ∷ s) = is_activation_of func a

-- A group is a root or a call with the jumps directly above it.
pub record Group : Type 0 where
  pub jumps : Stack
  pub base : Activation

-- the activations of a group, the top first
abbrev pub members : Group → Stack
members g = g.jumps ++ g.base ∷ []

-- an activation on top of these groups
abbrev pub on_groups : Activation → List Group → List Group
on_groups a [] = record { jumps = []; base = a } ∷ []
on_groups a (g ∷ gs) = if is_jump a.kind then record { jumps = a ∷ g.jumps; base = g.base } ∷ gs else record {
  jumps = [];
  base = a;
} ∷ (g ∷ gs)

-- the groups of a stack, the innermost first
abbrev pub groups : Stack → List Group
groups [] = []
groups (a ∷ s) = on_groups a (groups s)

abbrev pub stack_of_groups : List Group → Stack
stack_of_groups gs = flat_map members gs

-- what the innermost group begins with, and the groups beneath it
abbrev pub base_of : List Group → Kind
base_of [] = Root
base_of (g ∷ gs) = g.base.kind

abbrev pub rest_of : List Group → List Group
rest_of [] = []
rest_of (g ∷ gs) = gs

-- the function of the top, if there is one
abbrev pub top_of : Stack → Option FuncId
top_of [] = None
top_of (a ∷ s) = Some a.func
