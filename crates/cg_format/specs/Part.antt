-- The text of a part. What is written before a row is found by looking back at the lines written so far.
use Rattle.std.specs.Prelude.{ℕ, Bool, false, ◌==◌, if◌then◌else◌, List, [], ◌∷◌, fold, length, map, reverse, Option}
use Rattle.std.specs.Prelude.{None, Some, All}
use Rattle.std.specs.Option.{option_map_or}
use Rattle.arc_costs.specs.Contents.{Listed}
use Rattle.arc_costs.specs.Rows.{ArcRow, LineRow}
use Rattle.event_costs.specs.Costs.{events_shown}
use Rattle.event_costs.specs.declared.numbers.FileId.{FileId}
use Rattle.event_costs.specs.declared.numbers.FuncId.{FuncId}
use Rattle.sym_map.specs.SymbolMap.{SymbolMap, IsFile, IsFunc, entry_line_of, home_of}
use Rattle.cg_format.specs.Heading.{heading, object_line, totals}
use Rattle.cg_format.specs.Marks.{Mark, Plain, File, Function, Callee, Calls, Costs, functions, text_of}
use Rattle.cg_format.specs.Rows.{all_rows, by_function, file_of, function_of}
use Rattle.cg_format.specs.Sums.{sum_of_lines}
use Rattle.cg_format.specs.declared.file_key.FileKey.{FileKey}
use Rattle.cg_format.specs.declared.file_key.FileKey.TheVariants.{Home, Other, Back, OfCallee}
use Rattle.cg_format.specs.declared.head.PartHead.{PartHead}
use Rattle.cg_format.specs.declared.row.Row.{Row}
use Rattle.cg_format.specs.declared.row.Row.TheVariants.{Line, Arc}

-- the file of the last line that names one, which is no callee's
abbrev pub current_file : List Mark → Option FileId
current_file [] = None
current_file (File OfCallee file ∷ before) = current_file before
current_file (File _ file ∷ before) = Some file
current_file (_ ∷ before) = current_file before

-- the function of the last function line
abbrev pub current_function : List Mark → Option FuncId
current_function [] = None
current_function (Function function ∷ before) = Some function
current_function (_ ∷ before) = current_function before

abbrev pub is_file : Option FileId → FileId → Bool
is_file current file = option_map_or (λ known. known.0 == file.0) current false

abbrev pub is_function : Option FuncId → FuncId → Bool
is_function current function = option_map_or (λ known. known.0 == function.0) current false

-- a line with a file, where it isn't the current one
abbrev pub in_file : FileKey → FileId → List Mark → List Mark
in_file key file before = if is_file (current_file before) file then before else File key file ∷ before

-- the first function stands below the object
abbrev pub in_object : PartHead → List Mark → List Mark
in_object head before = if length (functions before) == 0 then Plain (object_line head) ∷ before else before

-- a function where it isn't the current one: an empty line, its file and its name
abbrev pub in_function : PartHead → SymbolMap → FuncId → List Mark → List Mark
in_function head m function before =
    if is_function (current_function before) function then before
    else Function function ∷ in_file Home (home_of m function) (in_object head (Plain [] ∷ before))

-- in a function's file, or in another one
abbrev pub place_key : SymbolMap → FuncId → FileId → FileKey
place_key m function file = if (home_of m function).0 == file.0 then Back else Other

-- where a row stands: its function, and the file of its line
abbrev pub at_row : PartHead → SymbolMap → List Mark → Row → List Mark
at_row head m before row =
    in_file (place_key m (function_of row) (file_of row)) (file_of row) (in_function head m (function_of row) before)

abbrev pub cost_line : PartHead → ℕ → List ℕ → Mark
cost_line head line cost = Costs line (events_shown head.branch cost)

-- the lines of a row, where its place stands
abbrev pub row_lines : PartHead → SymbolMap → List Mark → Row → List Mark
row_lines head m before (Line row) = cost_line head row.place.line row.cost ∷ before
row_lines head m before (Arc row) =
    cost_line head row.arc.line row.cost
    ∷ Calls row.calls (entry_line_of m row.arc.callee)
    ∷ Callee row.arc.callee
    ∷ in_file OfCallee (home_of m row.arc.callee) before

-- the lines once a row is written
abbrev pub after_row : PartHead → SymbolMap → List Mark → Row → List Mark
after_row head m before row = row_lines head m (at_row head m before row) row

-- the lines of a part, the newest first
abbrev pub part_lines : PartHead → Listed → SymbolMap → List Mark
part_lines head rows m =
    let sum = sum_of_lines rows.lines in
    Plain (totals head sum) ∷ Plain []
    ∷ fold (after_row head m) (reverse (map Plain (heading head sum)))
    (by_function (length m.functions) (all_rows rows))

-- the text of a part
unfoldable pub part_text : PartHead → Listed → SymbolMap → List ℕ
part_text head rows m = text_of m (part_lines head rows m)

-- each function and file of a row is one of the map
pub record IsKnownLine (m : SymbolMap) (row : LineRow) : Type 0 where
  pub function : IsFunc m row.place.func
  pub file : IsFile m row.place.file

pub record IsKnownArc (m : SymbolMap) (row : ArcRow) : Type 0 where
  pub caller : IsFunc m row.arc.caller
  pub file : IsFile m row.arc.file
  pub callee : IsFunc m row.arc.callee

pub record AreKnown (m : SymbolMap) (rows : Listed) : Type 0 where
  pub lines : All (IsKnownLine m) rows.lines
  pub arcs : All (IsKnownArc m) rows.arcs
