-- The functions and files of a map.
use Rattle.std.specs.Prelude.{ℕ}
use Rattle.sym_map.specs.SymbolMap.{IsFile, IsFunc, SymbolMap, place_of}

-- each address has a function and a file of the map
abbrev pub KnowsPlaces : SymbolMap → Type 0
KnowsPlaces syms = (address : ℕ)
    → IsFunc syms (place_of syms address).func × IsFile syms (place_of syms address).file
