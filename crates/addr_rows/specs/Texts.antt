-- The text of a part by address (Valgrind manual, Callgrind Format Specification, version 1: subposition lists): that
-- of a part, with the address before each line.
use Rattle.std.specs.Prelude.{ℕ, Bool, ◌==◌, List, [], ◌∷◌, ◌++◌, codes, decimal, false, filter, flat_map, fold, length}
use Rattle.std.specs.Prelude.{map, reverse}
use Rattle.std.specs.Fmt.{digits}
use Rattle.std.specs.Option.{option_map_or}
use Rattle.event_costs.specs.Costs.{events_shown}
use Rattle.event_costs.specs.declared.numbers.FuncId.{FuncId}
use Rattle.sym_map.specs.SymbolMap.{SymbolMap, entry_of, home_of, place_of}
use Rattle.cg_format.specs.Heading.{description_lines, identity_lines, summary_lines, totals}
use Rattle.cg_format.specs.Marks.{Mark, Callee, Plain, cost_text, text_of}
use Rattle.cg_format.specs.Part.{at_row, in_file}
use Rattle.cg_format.specs.Rows.{below, function_of}
use Rattle.cg_format.specs.Sums.{sum_of_lines}
use Rattle.cg_format.specs.declared.file_key.FileKey.TheVariants.{OfCallee}
use Rattle.cg_format.specs.declared.head.PartHead.{PartHead}
use Rattle.cg_format.specs.declared.row.Row.{Row}
use Rattle.cg_format.specs.declared.row.Row.TheVariants as plain
use Rattle.addr_rows.specs.Known.{IsKnownArc, IsKnownLine}
use Rattle.addr_rows.specs.Plain.{plain as plain_rows, plain_arc, plain_line}
use Rattle.addr_rows.specs.Rows.{AddrListed}
use Rattle.addr_rows.specs.declared.row.AddrRow.{AddrRow}
use Rattle.addr_rows.specs.declared.row.AddrRow.TheVariants.{Arc, Line}

-- an address and its line
abbrev pub position : ℕ → ℕ → List ℕ
position address line = codes "0x" ++ digits 16 false address ++ codes " " ++ decimal line

-- the address and line of a function's entry, zeros where it has none
abbrev pub entry_position : SymbolMap → FuncId → List ℕ
entry_position m func =
    option_map_or (λ entry. position entry (place_of m entry).line) (entry_of m func) (codes "0x0 0")

-- an address, its line and the costs shown there
abbrev pub cost_text_at : PartHead → ℕ → ℕ → List ℕ → List ℕ
cost_text_at head address line cost = position address line ++ cost_text (events_shown head.branch cost)

-- how often a callee was called, and where it begins
abbrev pub calls_text : SymbolMap → ℕ → FuncId → List ℕ
calls_text m calls callee = codes "calls=" ++ decimal calls ++ codes " " ++ entry_position m callee

-- a row as one of a part by line
abbrev pub plain_row : AddrRow → Row
plain_row (Line row) = plain.Line (plain_line row)
plain_row (Arc row) = plain.Arc (plain_arc row)

-- the line rows, and then the arc rows
abbrev pub all_rows : AddrListed → List AddrRow
all_rows rows = map Line rows.lines ++ map Arc rows.arcs

-- by rising function, of which there are so many; the rows of a function stay in their order
abbrev pub is_row_of : ℕ → AddrRow → Bool
is_row_of function row = (function_of (plain_row row)).0 == function

abbrev pub by_function : ℕ → List AddrRow → List AddrRow
by_function functions rows = flat_map (λ function. filter (is_row_of function) rows) (below functions)

-- the functions and files of a row are those of the map
abbrev pub IsKnown : SymbolMap → AddrRow → Type 0
IsKnown m (Line row) = IsKnownLine m row
IsKnown m (Arc row) = IsKnownArc m row

-- the lines of a row, where its place stands
abbrev pub row_lines : PartHead → SymbolMap → List Mark → AddrRow → List Mark
row_lines head m before (Line row) = Plain (cost_text_at head row.addr row.place.line row.cost) ∷ before
row_lines head m before (Arc row) =
    Plain (cost_text_at head row.addr row.arc.line row.cost)
    ∷ Plain (calls_text m row.calls row.arc.callee)
    ∷ Callee row.arc.callee
    ∷ in_file OfCallee (home_of m row.arc.callee) before

-- the lines once a row is written
abbrev pub after_row : PartHead → SymbolMap → List Mark → AddrRow → List Mark
after_row head m before row = row_lines head m (at_row head m before (plain_row row)) row

-- the lines before the first function, where the line rows have this sum
abbrev pub heading : PartHead → List ℕ → List (List ℕ)
heading head sum =
    identity_lines head ++ description_lines head ++ codes "positions: instr line" ∷ summary_lines head sum

-- the lines of a part, the newest first
abbrev pub addr_lines : PartHead → AddrListed → SymbolMap → List Mark
addr_lines head rows m =
    let sum = sum_of_lines (plain_rows rows).lines in
    Plain (totals head sum) ∷ Plain []
    ∷ fold (after_row head m) (reverse (map Plain (heading head sum)))
    (by_function (length m.functions) (all_rows rows))

-- the text of a part
unfoldable pub addr_text : PartHead → AddrListed → SymbolMap → List ℕ
addr_text head rows m = text_of m (addr_lines head rows m)
