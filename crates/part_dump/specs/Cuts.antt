-- Where a trace is cut into segments, and why.
use Rattle.std.specs.Prelude.{ℕ, zero, suc, ◌+◌, ◌%◌, ◌==◌, Bool, false, List, [], ◌∷◌, ◌++◌, nat_lt, length, map}
use Rattle.std.specs.Prelude.{slice_get, take, Option, None, Some, if◌then◌else◌, option_and_then}
use Rattle.std.specs.List.{list_any}
use Rattle.std.specs.Option.{option_map_or, option_or}
use Rattle.std.specs.Str.{bytes_eq}
use Rattle.event_costs.specs.declared.numbers.FuncId.{FuncId}
use Rattle.cg_format.specs.declared.trigger.Trigger.{Trigger}
use Rattle.cg_format.specs.declared.trigger.Trigger.TheVariants.{Every, Before, After}
use Rattle.sym_map.specs.SymbolMap.{SymbolMap}
use Rattle.shadow_stack.specs.Changes.{change, drop_count}
use Rattle.shadow_stack.specs.Stacks.{Stack}
use Rattle.shadow_stack.specs.Traces.{EventOnStack}
use Rattle.cache_lru.specs.Costs.{each_after}
use Rattle.part_dump.specs.Steps.{Step}

-- What was asked for: a cut after each so many steps, and at functions of these names.
pub record DumpPoints : Type 0 where
  pub every : Option ℕ
  pub before : Option (List ℕ)
  pub after : Option (List ℕ)

-- the function of this number has this name
abbrev pub has_name : SymbolMap → List ℕ → FuncId → Bool
has_name syms name func =
    option_map_or (λ text. bytes_eq text name) (slice_get (map (λ function. function.name) syms.functions) func.0) false

-- the event pushed a frame of a function of this name
abbrev pub enters : SymbolMap → List ℕ → EventOnStack → Bool
enters syms name x = option_map_or (λ a. has_name syms name a.func) (change syms x.event x.stack).pushed false

-- the frames that an event drops, by the end of its thread too
abbrev pub dropped_frames : SymbolMap → EventOnStack → Stack
dropped_frames syms x = take (drop_count syms x.event x.stack) x.stack

-- the event dropped a frame of a function of this name
abbrev pub leaves : SymbolMap → List ℕ → EventOnStack → Bool
leaves syms name x = list_any (λ a. has_name syms name a.func) (dropped_frames syms x)

-- the number of steps so far is a multiple of this one
abbrev pub every_cut : Option ℕ → ℕ → Option Trigger
every_cut every steps = option_and_then (λ n. if steps % n == 0 then Some (Every n) else None) every

abbrev pub before_cut : SymbolMap → Option (List ℕ) → EventOnStack → Option Trigger
before_cut syms before x = option_and_then (λ name. if enters syms name x then Some (Before name) else None) before

abbrev pub after_cut : SymbolMap → Option (List ℕ) → EventOnStack → Option Trigger
after_cut syms after x = option_and_then (λ name. if leaves syms name x then Some (After name) else None) after

-- Whether a cut stands after an event, the last of so many, and its trigger: the first of these that holds.
abbrev pub cut_after : SymbolMap → DumpPoints → ℕ → EventOnStack → Option Trigger
cut_after syms asked steps x =
    option_or (every_cut asked.every steps) (option_or (before_cut syms asked.before x) (after_cut syms asked.after x))

-- Segments

-- a list that is cut: the pieces that a cut ends, each with its mark, and the elements after the last cut
pub record Split (X T : Type 0) : Type 0 where
  pub closed : List (List X × T)
  pub recent : List X

-- an element in front of the first piece
abbrev pub with_first : {X T : Type 0} → X → List X → List (List X × T) → Split X T
with_first x last [] = record { closed = []; recent = x ∷ last }
with_first x last (p ∷ ps) = record { closed = (x ∷ p.0, p.1) ∷ ps; recent = last }

-- an element that is a piece of its own
abbrev pub closes : {X T : Type 0} → X → T → Split X T → Split X T
closes x mark s = record { closed = (x ∷ [], mark) ∷ s.closed; recent = s.recent }

-- A list of elements is cut after each that is marked; only the first so many marks count.
abbrev pub split : {X T : Type 0} → ℕ → List (X × Option T) → Split X T
split n [] = record { closed = []; recent = [] }
split n ((x, None) ∷ ms) = with_first x (split n ms).recent (split n ms).closed
split zero ((x, Some mark) ∷ ms) = with_first x (split zero ms).recent (split zero ms).closed
split (suc n) ((x, Some mark) ∷ ms) = closes x mark (split n ms)

-- only the first 4,095 cuts count
abbrev pub most_cuts : ℕ
most_cuts = 4095

-- a step with the trigger of the cut after it
abbrev pub marked_after : SymbolMap → DumpPoints → List Step → Step → Step × Option Trigger
marked_after syms asked before x = (x, cut_after syms asked (length before + 1) x.on_stack)

-- the segments of a trace
unfoldable pub cuts : SymbolMap → DumpPoints → List Step → Split Step Trigger
cuts syms asked trace = split most_cuts (each_after (marked_after syms asked) [] trace)

-- a list that is cut, with one more element and its mark; at most so many marks count
abbrev pub with_last : {X T : Type 0} → ℕ → Split X T → X → Option T → Split X T
with_last most s x None = record { closed = s.closed; recent = s.recent ++ x ∷ [] }
with_last most s x (Some mark) =
    if nat_lt (length s.closed) most then record { closed = s.closed ++ (s.recent ++ x ∷ [], mark) ∷ []; recent = [] }
    else record { closed = s.closed; recent = s.recent ++ x ∷ [] }
