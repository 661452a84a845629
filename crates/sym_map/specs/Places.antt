-- Functions, and the function and line of an address.
use Rattle.std.specs.Prelude.{◌≡◌, ℕ, ◌^◌, ◌<◌, Bool, true, false, ◌==◌, List, ◌∷◌, map, flat_map, Option, Some, None}
use Rattle.std.specs.Option.{option_map_or}
use Rattle.elf_read.specs.declared.symbol.Symbol.{Symbol}
use Rattle.elf_read.specs.Image.{Image}
use Rattle.dwarf_line.specs.Program.{SequenceOf}
use Rattle.dwarf_line.specs.LineRow.{LineRow, line_at}
use Rattle.byte_text.specs.Names.{clean_name, unknown as unknown_name}
use Rattle.sym_map.specs.Symbols.{symbol_name, candidates, symbol_at}

-- What makes a function: the cleaned file of the line where it begins, and its cleaned name. Symbols with the same of
-- both are one function.
pub record Identity : Type 0 where
  pub file : List ℕ
  pub name : List ℕ

-- the function of code without a symbol
abbrev pub unknown_function : Identity
unknown_function = record { file = unknown_name; name = unknown_name }

-- the function of a symbol
abbrev pub function_of : Image → List (SequenceOf LineRow) → Symbol → Identity
function_of image lines symbol =
    record { file = clean_name (line_at lines symbol.value).file; name = clean_name (symbol_name image symbol) }

-- the function of an address
abbrev pub function_at : Image → List (SequenceOf LineRow) → ℕ → Identity
function_at image lines address = option_map_or (function_of image lines) (symbol_at image address) unknown_function

-- a function, and a line of a file
pub record Location : Type 0 where
  pub function : Identity
  pub file : List ℕ
  pub line : ℕ

-- The place of an address: its function, and the file and line that it comes from.
abbrev pub location_at : Image → List (SequenceOf LineRow) → ℕ → Location
location_at image lines address =
    let row = line_at lines address in
    record { function = function_at image lines address; file = clean_name row.file; line = row.line }

-- An entry address is the value of its own symbol.
abbrev pub is_entry : Image → ℕ → Bool
is_entry image address = option_map_or (λ symbol. symbol.value == address) (symbol_at image address) false

-- an entry address of this function
pub record Enters (image : Image) (lines : List (SequenceOf LineRow)) (function : Identity) (address : ℕ) : Type 0 where
  pub in_range : address < 2 ^ 32
  pub is_entry : is_entry image address ≡ true
  pub of_function : function_at image lines address ≡ function

-- The entry of a function is the lowest of its entry addresses; it has none where there is no such address.
abbrev pub IsEntryOf : Image → List (SequenceOf LineRow) → Identity → Option ℕ → Type 0
IsEntryOf image lines function None = (address : ℕ) → ¬ Enters image lines function address
IsEntryOf image lines function (Some entry) =
    Enters image lines function entry × ((address : ℕ) → address < entry → ¬ Enters image lines function address)

-- all functions: those of the candidates, and the unknown one
abbrev pub functions_of : Image → List (SequenceOf LineRow) → List Identity
functions_of image lines = unknown_function ∷ map (function_of image lines) (candidates image)

-- all files: those of the rows of the line table, and the unknown one
abbrev pub files_of : List (SequenceOf LineRow) → List (List ℕ)
files_of lines = unknown_name ∷ map (λ row. clean_name row.file) (flat_map (λ sequence. sequence.rows) lines)
