-- The symbols of all addresses.
use Rattle.std.specs.Prelude.{◌≡◌, ℕ, ◌<◌, ◌^◌, ◌↔◌, List, ◌∷◌, length, map, slice_get, Some, All, Contains}
use Rattle.std.specs.List.Sorted.{IsStrictlySortedBy}
use Rattle.elf_read.specs.declared.symbol.Symbol.{Symbol}
use Rattle.elf_read.specs.Image.{Image}
use Rattle.event_costs.specs.declared.numbers.FileId.{FileId}
use Rattle.event_costs.specs.declared.numbers.FuncId.{FuncId}
use Rattle.sym_map.specs.declared.function.Function.{Function}
use Rattle.sym_map.specs.declared.range.Range.{Range}
use Rattle.sym_map.specs.declared.range.SymbolHere.{SymbolHere}
use Rattle.sym_map.specs.FunctionOrder.{by_function}
use Rattle.sym_map.specs.inner.Functions.{key_of}
use Rattle.sym_map.specs.inner.Naming.{with_name}
use Rattle.byte_text.specs.Names.{unknown as unknown_name}
use Rattle.sym_map.specs.inner.Ranges.{cover_at, symbol_of}
use Rattle.sym_map.specs.inner.Rising.{Rise}
use Rattle.sym_map.specs.inner.Shows.{Shows}
use Rattle.sym_map.specs.Symbols.{candidates, symbol_at}

-- the function of a symbol, by the number of its file
abbrev pub symbol_key : Image → List Range → FileId → Symbol → Function
symbol_key image lines unknown symbol = key_of lines unknown (with_name image symbol)

-- the function of code without a symbol
abbrev pub unknown_key : FileId → Function
unknown_key unknown = record { home = unknown; name = unknown_name }

-- the symbol of a range is this one
abbrev pub IsSymbolOf : (Symbol → Function) → List Function → SymbolHere → Symbol → Type 0
IsSymbolOf key functions here symbol = (slice_get functions here.func.0 ≡ Some (key symbol))
    × (here.value ≡ symbol.value)

-- All functions in rising order, the number of the unknown one, and the symbols of all addresses of 32 bits, where
-- the lines and the number of the unknown file are known.
pub record AreSymbolsOf (image : Image) (lines : List Range) (unknown_file : FileId) (functions : List Function)
    (unknown_func : FuncId) (ranges : List Range) : Type 0 where
  pub functions_rise : IsStrictlySortedBy by_function functions
  pub functions_are : (function : Function)
      → Contains functions function ↔ Contains
      (unknown_key unknown_file ∷ map (symbol_key image lines unknown_file) (candidates image)) function
  pub few : length functions < 2 ^ 32
  pub values : All (λ symbol. symbol.value < 2 ^ 32) (candidates image)
  pub unknown_is : slice_get functions unknown_func.0 ≡ Some (unknown_key unknown_file)
  pub rise : Rise ranges
  pub shows : (address : ℕ) → address < 2 ^ 32
      → Shows (IsSymbolOf (symbol_key image lines unknown_file) functions) (symbol_of (cover_at ranges address))
      (symbol_at image address)
