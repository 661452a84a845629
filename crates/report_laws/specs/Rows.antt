-- The profile of the rows of a part by address: what its text is to read as.
use Rattle.std.specs.Prelude.{◌≡◌, ℕ, ◌<◌, ◌^◌, List, All, map, IfSome, Option}
use Rattle.std.specs.List.Sorted.{IsNonDecreasingBy}
use Rattle.event_costs.specs.declared.numbers.FuncId.{FuncId}
use Rattle.sym_map.specs.SymbolMap.{IsFunc, SymbolMap, entry_of}
use Rattle.cg_format.specs.declared.head.PartHead.{PartHead}
use Rattle.cg_read.specs.AddressReading.{AddrContents}
use Rattle.addr_rows.specs.Known.{AreKnown}
use Rattle.addr_rows.specs.Plain.{plain, plain_arc, plain_line}
use Rattle.addr_rows.specs.Rows.{AddrListed}
use Rattle.addr_rows.specs.declared.rows.AddrArc.{AddrArc}
use Rattle.addr_rows.specs.declared.rows.AddrLine.{AddrLine}
use Rattle.reads_back.specs.Rows.{FitsArc, FitsLine, IsOfRows}

-- the entries of a map's functions have 32 bits
abbrev pub AreEntriesSmall : SymbolMap → Type 0
AreEntriesSmall m = (func : FuncId) → IsFunc m func → IfSome (entry_of m func) (λ entry. entry < 2 ^ 32)

-- What rows by address keep to be written: their functions and files are those of the map, each has a number for each
-- kind of event, all numbers have 64 bits, and both kinds of row come by rising function.
pub record AreWritable (m : SymbolMap) (rows : AddrListed) : Type 0 where
  pub of_map : AreKnown m rows
  pub lines_fit : All (λ (row : AddrLine). FitsLine (plain_line row)) rows.lines
  pub arcs_fit : All (λ (row : AddrArc). FitsArc (plain_arc row)) rows.arcs
  pub line_addresses : All (λ (row : AddrLine). row.addr < 2 ^ 64) rows.lines
  pub arc_addresses : All (λ (row : AddrArc). row.addr < 2 ^ 64) rows.arcs
  pub lines_rise : IsNonDecreasingBy (λ (row : AddrLine). row.place.func.0) rows.lines
  pub arcs_rise : IsNonDecreasingBy (λ (row : AddrArc). row.arc.caller.0) rows.arcs

-- The profile of the rows: without their addresses it is that of the plain rows, and each row has its address.
pub record IsOfAddrRows (head : PartHead) (command : Option (List ℕ)) (rows : AddrListed) (m : SymbolMap)
    (p : AddrContents) : Type 0 where
  pub lines : IsOfRows head command (plain rows) m p.lines
  pub self_addresses : p.self_addresses ≡ map (λ (row : AddrLine). row.addr) rows.lines
  pub call_addresses : p.call_addresses ≡ map (λ (row : AddrArc). row.addr) rows.arcs
