-- Rows whose functions and files are those of a map.
use Rattle.std.specs.Prelude.{All}
use Rattle.sym_map.specs.SymbolMap.{IsFile, IsFunc, SymbolMap}
use Rattle.addr_rows.specs.Rows.{AddrListed}
use Rattle.addr_rows.specs.declared.rows.AddrArc.{AddrArc}
use Rattle.addr_rows.specs.declared.rows.AddrLine.{AddrLine}

pub record IsKnownLine (m : SymbolMap) (row : AddrLine) : Type 0 where
  pub function : IsFunc m row.place.func
  pub file : IsFile m row.place.file

pub record IsKnownArc (m : SymbolMap) (row : AddrArc) : Type 0 where
  pub caller : IsFunc m row.arc.caller
  pub file : IsFile m row.arc.file
  pub callee : IsFunc m row.arc.callee

-- each function and file of the rows is one of the map
pub record AreKnown (m : SymbolMap) (rows : AddrListed) : Type 0 where
  pub lines : All (IsKnownLine m) rows.lines
  pub arcs : All (IsKnownArc m) rows.arcs
