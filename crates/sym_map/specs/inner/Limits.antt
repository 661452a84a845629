-- Where the next symbols of a section begin.
use Rattle.std.specs.Prelude.{ℕ, ◌<◌, ◌≤◌, List, length, slice_index_or, Option, Some, None, Contains}
use Rattle.elf_read.specs.declared.symbol.Symbol.{Symbol}
use Rattle.sym_map.specs.declared.limit.Lowest.{Lowest}

-- a section and the value of one of its symbols
pub record Limit : Type 0 where
  pub section : ℕ
  pub value : ℕ

abbrev pub limit_of : Symbol → Limit
limit_of symbol = record { section = symbol.section; value = symbol.value }

-- The least value of the section above this one, and nothing where there is none above.
abbrev pub IsNextValue : List Limit → Limit → Option ℕ → Type 0
IsNextValue limits limit None = (value : ℕ) → limit.value < value
    → ¬ Contains limits (record { section = limit.section; value = value })
IsNextValue limits limit (Some next) =
    (limit.value < next) × Contains limits (record { section = limit.section; value = next })
    × ((value : ℕ) → limit.value < value → Contains limits (record { section = limit.section; value = value })
    → next ≤ value)

-- no value is less
abbrev pub IsBelow : List Limit → ℕ → Type 0
IsBelow limits low = (limit : Limit) → Contains limits limit → low ≤ limit.value

-- the least value of a section, and the next one; nothing where it has no value
abbrev pub IsLowest : List Limit → ℕ → Option Lowest → Type 0
IsLowest limits section None = (value : ℕ) → ¬ Contains limits (record { section = section; value = value })
IsLowest limits section (Some lowest) =
    Contains limits (record { section = section; value = lowest.value })
    × ((value : ℕ) → Contains limits (record { section = section; value = value }) → lowest.value ≤ value)
    × IsNextValue limits (record { section = section; value = lowest.value }) lowest.next

-- the same of each section
abbrev pub AreLowest : List Limit → List (Option Lowest) → Type 0
AreLowest limits sections =
    (section : ℕ) → section < length sections → IsLowest limits section (slice_index_or sections section None)

-- none has a greater value than one before it
abbrev pub Fall : List Symbol → Type 0
Fall symbols = (i j : ℕ) (d : Symbol) → i ≤ j → j < length symbols
    → (slice_index_or symbols j d).value ≤ (slice_index_or symbols i d).value
