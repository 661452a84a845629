-- Rows by address without their addresses.
use Rattle.std.specs.Prelude.{map}
use Rattle.arc_costs.specs.Contents.{Listed}
use Rattle.arc_costs.specs.Rows.{ArcRow, LineRow}
use Rattle.addr_rows.specs.Rows.{AddrListed}
use Rattle.addr_rows.specs.declared.rows.AddrArc.{AddrArc}
use Rattle.addr_rows.specs.declared.rows.AddrLine.{AddrLine}

-- a row without its address
abbrev pub plain_line : AddrLine → LineRow
plain_line row = record { place = row.place; cost = row.cost }

abbrev pub plain_arc : AddrArc → ArcRow
plain_arc row = record { arc = row.arc; calls = row.calls; cost = row.cost }

abbrev pub plain : AddrListed → Listed
plain rows = record { lines = map plain_line rows.lines; arcs = map plain_arc rows.arcs }
