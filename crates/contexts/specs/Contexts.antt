-- Calling contexts: a function with those that called it, by their numbers, the nearest first.
use Rattle.std.specs.Prelude.{◌≡◌, ℕ, ◌+◌, Bool, false, List, [], ◌∷◌, ◌++◌, if◌then◌else◌, map, slice_index, slice_index_or, take}
use Rattle.std.specs.List.{list_any, position_or_len}
use Rattle.std.specs.Str.{bytes_eq}
use Rattle.std.specs.Ordering.{nat_cmp}
use Rattle.std.specs.Cmp.Lexicographic.{slice_cmp}
use Rattle.std.specs.declared.cmp.Ordering.{Ordering}
use Rattle.event_costs.specs.declared.numbers.FuncId.{FuncId}
use Rattle.shadow_stack.specs.Stacks.{Stack}

abbrev pub Context : Type 0
Context = List ℕ

-- The context of the top frame of a stack: its function and the functions of up to so many frames beneath, the nearest
-- first.
abbrev pub context : ℕ → Stack → Context
context callers s = take (callers + 1) (map (λ a. a.func.0) s)

-- the function whose context it is
abbrev pub function_of : Context → FuncId
function_of c = record { 0 = slice_index c 0 }

abbrev pub same_context : Context → Context → Bool
same_context a b = bytes_eq a b

-- in the order of their lists of numbers, a prefix first
abbrev pub context_order : Context → Context → Ordering
context_order a b = slice_cmp nat_cmp a b

-- ---- contexts by their numbers

abbrev pub has_context : List Context → Context → Bool
has_context contexts c = list_any (λ other. same_context c other) contexts

abbrev pub with_context : List Context → Context → List Context
with_context contexts c = if has_context contexts c then contexts else contexts ++ c ∷ []

-- the number of a context, or of the next one where it hasn't come up
abbrev pub number : List Context → Context → FuncId
number contexts c = record { 0 = position_or_len (λ other. same_context c other) contexts }

-- the context of a number
abbrev pub context_at : List Context → FuncId → Context
context_at contexts number = slice_index_or contexts number.0 []

-- no context comes twice
abbrev pub AreDistinct : List Context → Type 0
AreDistinct [] = Unit {0}
AreDistinct (c ∷ cs) = (has_context cs c ≡ false) × AreDistinct cs

-- contexts in the order in which they came up, which is that of their numbers, and how many more fit without memory
pub record Held : Type 0 where
  pub contexts : List Context
  pub room : ℕ
