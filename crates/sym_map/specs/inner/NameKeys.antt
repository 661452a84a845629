-- Functions by the ranks of their names.
use Rattle.std.specs.Prelude.{ℕ, List}
use Rattle.event_costs.specs.declared.numbers.FileId.{FileId}
use Rattle.name_numbers.specs.FileNames.{file_name}
use Rattle.name_numbers.specs.declared.file_names.FileName.{FileName}
use Rattle.name_numbers.specs.declared.file_names.RankInFile.{RankInFile}
use Rattle.sym_map.specs.declared.function.Function.{Function}
use Rattle.sym_map.specs.declared.range.Range.{Range}
use Rattle.sym_map.specs.inner.Functions.{home_at}
use Rattle.sym_map.specs.inner.Naming.{NumberedSymbol}

-- the function of a name in a file
abbrev pub function_of_name : FileName → Function
function_of_name name = record { home = record { 0 = name.file }; name = name.name }

-- the key of a candidate's function
abbrev pub name_key : List Range → FileId → NumberedSymbol → RankInFile
name_key ranges unknown ranked =
    record { file = (home_at ranges unknown ranked.symbol.value).0; rank = ranked.number }

-- the function of a key
abbrev pub function_named : List (List ℕ) → RankInFile → Function
function_named names key = function_of_name (file_name names key)
