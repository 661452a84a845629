-- Rows by address: the rows of events by the map that tells code by its addresses, so that there is one for each
-- function and address at which an event counts, and for each arc and the address that it was entered from.
use Rattle.std.specs.Prelude.{List, map}
use Rattle.event_costs.specs.Keys.{ArcKey}
use Rattle.sym_map.specs.SymbolMap.{SymbolMap, place_of}
use Rattle.arc_costs.specs.Contents.{Listed}
use Rattle.arc_costs.specs.Rows.{ArcRow}
use Rattle.arc_costs.specs.Rows.{LineRow}
use Rattle.shadow_stack.specs.Traces.{EventOnStack}
use Rattle.recorder.specs.Rows.{rows_of}
use Rattle.addr_rows.specs.Rows.{AddrListed}
use Rattle.addr_rows.specs.declared.rows.AddrArc.{AddrArc}
use Rattle.addr_rows.specs.declared.rows.AddrLine.{AddrLine}
use Rattle.sym_map.specs.AddressMap.{address_map}

-- a row whose address stands for its file and line, with the place that a map gives the address
abbrev pub located_line : SymbolMap → LineRow → AddrLine
located_line m row = record { addr = row.place.line; place = place_of m row.place.line; cost = row.cost }

abbrev pub located_key : SymbolMap → ArcKey → ArcKey
located_key m arc = record {
  caller = arc.caller;
  file = (place_of m arc.line).file;
  line = (place_of m arc.line).line;
  callee = arc.callee;
}

abbrev pub located_arc : SymbolMap → ArcRow → AddrArc
located_arc m row = record {
  addr = row.arc.line;
  arc = located_key m row.arc;
  calls = row.calls;
  cost = row.cost;
}

abbrev pub located_rows : SymbolMap → Listed → AddrListed
located_rows m rows = record {
  lines = map (located_line m) rows.lines;
  arcs = map (located_arc m) rows.arcs;
}

-- the rows by address of events, with their stacks by the map that tells code by its addresses
unfoldable pub addr_rows_of : SymbolMap → List EventOnStack → AddrListed
addr_rows_of m xs = located_rows m (rows_of (address_map m) xs)
