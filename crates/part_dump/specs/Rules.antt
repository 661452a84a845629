-- The rule of a run's cuts, as it is looked at after each event.
use Rattle.std.specs.Prelude.{◌≡◌, ℕ, ◌↔◌, Bool, false, List, Contains, Option, None, Some, option_map}
use Rattle.std.specs.Prelude.{if◌then◌else◌}
use Rattle.std.specs.List.{list_any}
use Rattle.std.specs.Option.{option_map_or, option_or}
use Rattle.event_costs.specs.FuncSet.{is_among}
use Rattle.event_costs.specs.declared.numbers.FuncId.{FuncId}
use Rattle.event_costs.specs.declared.outcome.Noted.{Noted}
use Rattle.cg_format.specs.declared.trigger.Trigger.{Trigger}
use Rattle.cg_format.specs.declared.trigger.Trigger.TheVariants.{Before, After}
use Rattle.sym_map.specs.SymbolMap.{SymbolMap, IsNamed}
use Rattle.shadow_stack.specs.Changes.{change}
use Rattle.shadow_stack.specs.Traces.{EventOnStack}
use Rattle.part_dump.specs.Cuts.{DumpPoints, dropped_frames, every_cut}

-- what was asked for, and the functions of the names
pub record Rule : Type 0 where
  pub dump_points : DumpPoints
  pub before : List FuncId
  pub after : List FuncId

-- These are the functions of the name; none, where there is no name.
abbrev pub AreNamed : SymbolMap → Option (List ℕ) → List FuncId → Type 0
AreNamed syms None funcs = (func : FuncId) → ¬ Contains funcs func
AreNamed syms (Some name) funcs = (func : FuncId) → Contains funcs func ↔ IsNamed syms.functions name func

pub record IsRuleOf (syms : SymbolMap) (asked : DumpPoints) (rule : Rule) : Type 0 where
  pub said : rule.dump_points ≡ asked
  pub before : AreNamed syms asked.before rule.before
  pub after : AreNamed syms asked.after rule.after

-- what an event did to the stack of its thread, where the functions of a set are watched
pub record IsNotedOf (syms : SymbolMap) (watched : List FuncId) (x : EventOnStack) (noted : Noted) : Type 0 where
  pub pushed : noted.pushed ≡ option_map (λ a. a.func) (change syms x.event x.stack).pushed
  pub left : noted.left ≡ list_any (λ a. is_among watched a.func) (dropped_frames syms x)

abbrev pub before_due : Rule → Option FuncId → Option (List ℕ) → Option Trigger
before_due rule pushed None = None
before_due rule pushed (Some name) = if option_map_or (is_among rule.before) pushed false
    then Some (Before name) else None

abbrev pub after_due : Bool → Option (List ℕ) → Option Trigger
after_due left None = None
after_due left (Some name) = if left then Some (After name) else None

-- the trigger of a cut after the last of so many steps, which did this to its thread's stack
abbrev pub due_after : Rule → ℕ → Noted → Option Trigger
due_after rule steps noted =
    option_or (every_cut rule.dump_points.every steps)
    (option_or (before_due rule noted.pushed rule.dump_points.before) (after_due noted.left rule.dump_points.after))
