-- How functions, costs and events are written.
use Rattle.std.specs.Prelude.{ℕ, List, [], ◌∷◌, ◌++◌, codes, decimal}
use Rattle.std.specs.List.{join_by}
use Rattle.byte_text.specs.Names.{clean_name}
use Rattle.cg_read.specs.declared.rows.FuncKey.{FuncKey}

-- the object, where it isn't empty
abbrev pub object_text : List ℕ → List ℕ
object_text [] = []
object_text (byte ∷ bytes) = codes " [" ++ clean_name (byte ∷ bytes) ++ codes "]"

-- a function by its file, its name and its object
abbrev pub name_text : FuncKey → List ℕ
name_text f = clean_name f.file ++ codes ":" ++ clean_name f.name ++ object_text f.object

-- costs, one for each event
abbrev pub costs_text : List ℕ → List ℕ
costs_text costs = join_by decimal (codes " ") costs
