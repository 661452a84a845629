-- The functions and files of rows that are known.
use Rattle.std.proofs.Common.{◌<◌, length, map, All}
use Rattle.std.proofs.lemmas.List.Elements.{All-append, All-map, All-weaker}
use Rattle.sym_map.specs.SymbolMap.{SymbolMap}
use Rattle.cg_format.specs.Rows.{function_of}
use Rattle.addr_rows.specs.Known.{AreKnown}
use Rattle.addr_rows.specs.Rows.{AddrListed}
use Rattle.addr_rows.specs.Texts.{IsKnown, all_rows, plain_row}
use Rattle.addr_rows.specs.declared.row.AddrRow.{AddrRow}
use Rattle.addr_rows.specs.declared.row.AddrRow.TheVariants.{Line, Arc}

pub known_rows : (m : SymbolMap) (rows : AddrListed) → AreKnown m rows → All (IsKnown m) (all_rows rows)
known_rows m rows known =
    All-append (IsKnown m) (map Line rows.lines) (map Arc rows.arcs) (All-map (IsKnown m) Line rows.lines known.lines)
    (All-map (IsKnown m) Arc rows.arcs known.arcs)

function_known : (m : SymbolMap) (row : AddrRow) → IsKnown m row
    → (function_of (plain_row row)).0 < length m.functions
function_known m (Line row) known = known.function
function_known m (Arc row) known = known.caller

-- all functions are below their number
pub functions_below : (m : SymbolMap) (rows : AddrListed) → AreKnown m rows
    → All (λ row. (function_of (plain_row row)).0 < length m.functions) (all_rows rows)
functions_below m rows known =
    All-weaker (IsKnown m) (λ row. (function_of (plain_row row)).0 < length m.functions) (function_known m)
    (all_rows rows) (known_rows m rows known)
