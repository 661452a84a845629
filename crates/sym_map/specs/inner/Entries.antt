-- At which ranges functions are entered.
use Rattle.std.specs.Prelude.{ℕ, Bool, false, ◌==◌, if◌then◌else◌, List, find, Option, Some, None, option_map}
use Rattle.std.specs.Option.{option_and_then, option_map_or}
use Rattle.event_costs.specs.declared.numbers.FuncId.{FuncId}
use Rattle.sym_map.specs.declared.range.Range.{Range}
use Rattle.sym_map.specs.inner.Ranges.{symbol_of}

-- the function whose symbol has the range's start as its value
abbrev pub entered_func : Range → Option FuncId
entered_func range = option_and_then (λ symbol. if symbol.value == range.start then Some symbol.func else None)
    (symbol_of range.cover)

-- that function has this number
abbrev pub enters : ℕ → Range → Bool
enters func range = option_map_or (λ f. f.0 == func) (entered_func range) false

-- the start of the first range at which a function is entered
abbrev pub start_of_first : ℕ → List Range → Option ℕ
start_of_first func ranges = option_map (λ range. range.start) (find (enters func) ranges)
