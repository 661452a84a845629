-- A map of symbols as contracts see it, and what it says.
use Rattle.std.specs.Prelude.{◌≡◌, ℕ, ◌<◌, ◌^◌, Bool, false, min, List, length, map, slice_get, slice_index_or, Option}
use Rattle.std.specs.Prelude.{Some, None, All, AllPairs, ◌≢◌}
use Rattle.std.specs.Option.{option_map_or}
use Rattle.std.specs.Ordering.{nat_cmp, ordering_then}
use Rattle.std.specs.Cmp.Lexicographic.{slice_cmp}
use Rattle.std.specs.declared.cmp.Ordering.{Ordering}
use Rattle.byte_text.specs.Names.{clean_name, unknown as unknown_name}
use Rattle.event_costs.specs.declared.numbers.FileId.{FileId}
use Rattle.event_costs.specs.declared.numbers.FuncId.{FuncId}
use Rattle.event_costs.specs.Keys.{Place}
use Rattle.sym_map.specs.declared.function.Function.{Function}
use Rattle.sym_map.specs.Places.{Identity, Location, unknown_function}

-- Functions by their numbers, each with the number of its file; files by their numbers; the entries of the functions;
-- the place of each address of 32 bits, and whether the symbol of that address begins there; and the place of code
-- without a symbol and a line.
pub record SymbolMap : Type 0 where
  pub functions : List Function
  pub files : List (List ℕ)
  pub entries : List (Option ℕ)
  pub places : List Place
  pub begins : List Bool
  pub unknown : Place

-- the place of an address; past the last one of 32 bits it is that one's
unfoldable pub place_of : SymbolMap → ℕ → Place
place_of m address = slice_index_or m.places (min address 4294967295) m.unknown

-- the symbol of the address begins there
unfoldable pub is_entry_at : SymbolMap → ℕ → Bool
is_entry_at m address = slice_index_or m.begins (min address 4294967295) false

-- what makes a function
abbrev pub identity_in : List (List ℕ) → Function → Identity
identity_in files function = record { file = slice_index_or files function.home.0 unknown_name; name = function.name }

-- what makes each function, in the order of their numbers
abbrev pub identities : SymbolMap → List Identity
identities m = map (identity_in m.files) m.functions

-- what makes the function of this number
abbrev pub identity_of : SymbolMap → FuncId → Identity
identity_of m func = slice_index_or (identities m) func.0 unknown_function

-- the file in which the function of this number begins
abbrev pub home_of : SymbolMap → FuncId → FileId
home_of m func = option_map_or (λ function. function.home) (slice_get m.functions func.0) m.unknown.file

-- the name of a file's number
abbrev pub file_text : SymbolMap → FileId → List ℕ
file_text m file = slice_index_or m.files file.0 unknown_name

-- a place with the names that its numbers stand for
abbrev pub location_of : SymbolMap → Place → Location
location_of m place = record { function = identity_of m place.func; file = file_text m place.file; line = place.line }

-- the entry of the function of this number
abbrev pub entry_of : SymbolMap → FuncId → Option ℕ
entry_of m func = slice_index_or m.entries func.0 None

-- the line of that entry, 0 where there is none
abbrev pub entry_line_of : SymbolMap → FuncId → ℕ
entry_line_of m func = option_map_or (λ entry. (place_of m entry).line) (entry_of m func) 0

-- the function of this number has this name
abbrev pub IsNamed : List Function → List ℕ → FuncId → Type 0
IsNamed functions name func = slice_get (map (λ function. function.name) functions) func.0 ≡ Some name

-- by the bytes of the file, and then by those of the name
abbrev pub by_identity : Identity → Identity → Ordering
by_identity x y = ordering_then (slice_cmp nat_cmp x.file y.file) (slice_cmp nat_cmp x.name y.name)

-- a number of a function, and of a file
abbrev pub IsFunc : SymbolMap → FuncId → Type 0
IsFunc m func = func.0 < length m.functions

abbrev pub IsFile : SymbolMap → FileId → Type 0
IsFile m file = file.0 < length m.files

-- the text is a cleaned name
abbrev pub IsCleaned : List ℕ → Type 0
IsCleaned text = (name : List ℕ) × (text ≡ clean_name name)

-- What holds of every map, in its own words: names are cleaned texts, functions and files differ, and the lines of
-- places and entries have 32 bits.
pub record IsSound (m : SymbolMap) : Type 0 where
  pub few_functions : length m.functions < 2 ^ 32
  pub few_files : length m.files < 2 ^ 32
  pub functions_cleaned : All (λ function. IsCleaned function.name) m.functions
  pub files_cleaned : All IsCleaned m.files
  pub functions_differ : AllPairs (λ x y. x ≢ y) (identities m)
  pub files_differ : AllPairs (λ x y. x ≢ y) m.files
  -- a function's file is one of the map's, and it is that of its identity
  pub homes : (func : FuncId) → IsFunc m func → IsFile m (home_of m func)
  pub home_texts : (func : FuncId) → IsFunc m func → file_text m (home_of m func) ≡ (identity_of m func).file
  -- places are in the map, past the last address too
  pub place_functions : (address : ℕ) → IsFunc m (place_of m address).func
  pub place_files : (address : ℕ) → IsFile m (place_of m address).file
  pub place_lines : (address : ℕ) → (place_of m address).line < 2 ^ 32
  pub entry_lines : (func : FuncId) → IsFunc m func → entry_line_of m func < 2 ^ 32
