-- The rows of a part, in the order in which they are written.
use Rattle.std.specs.Prelude.{ℕ, zero, suc, Bool, ◌==◌, List, [], ◌∷◌, ◌++◌, map, filter, flat_map}
use Rattle.event_costs.specs.declared.numbers.FileId.{FileId}
use Rattle.event_costs.specs.declared.numbers.FuncId.{FuncId}
use Rattle.arc_costs.specs.Contents.{Listed}
use Rattle.cg_format.specs.declared.row.Row.{Row}
use Rattle.cg_format.specs.declared.row.Row.TheVariants.{Line, Arc}

-- the function whose row it is: that of the line, or the caller of the arc
abbrev pub function_of : Row → FuncId
function_of (Line row) = row.place.func
function_of (Arc row) = row.arc.caller

-- the file of the line
abbrev pub file_of : Row → FileId
file_of (Line row) = row.place.file
file_of (Arc row) = row.arc.file

abbrev pub is_row_of : ℕ → Row → Bool
is_row_of function row = (function_of row).0 == function

-- the numbers from 0 on, so many of them
abbrev pub below : ℕ → List ℕ
below zero = []
below (suc n) = below n ++ n ∷ []

-- the line rows, and then the arc rows
abbrev pub all_rows : Listed → List Row
all_rows rows = map Line rows.lines ++ map Arc rows.arcs

-- By rising function, of which there are so many; the rows of a function stay in their order.
abbrev pub by_function : ℕ → List Row → List Row
by_function functions rows = flat_map (λ function. filter (is_row_of function) rows) (below functions)
