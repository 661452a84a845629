-- The map that tells code by its addresses.
use Rattle.std.specs.Prelude.{ℕ, ◌^◌, List, map, min}
use Rattle.std.specs.List.{range_with_len}
use Rattle.event_costs.specs.declared.numbers.FileId.{FileId}
use Rattle.sym_map.specs.SymbolMap.{SymbolMap, place_of}

-- no file: the address stands for it
abbrev pub no_file : FileId
no_file = record { 0 = 0 }

-- the line of an address is the address; past the last one of 32 bits it is the last one
abbrev pub address_line : ℕ → ℕ
address_line address = min address 4294967295

-- what is said of each of so many addresses
unfoldable pub told : {A : Type 0} → ℕ → (ℕ → A) → List A
told count say = map say (range_with_len 0 count)

-- Each address is a line of its own in no file; functions and entries are those of a map.
unfoldable pub address_map : SymbolMap → SymbolMap
address_map m = record m {
  places = told (2 ^ 32) (λ address. record { func = (place_of m address).func; file = no_file; line = address });
}
