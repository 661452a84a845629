-- Rows that stand elsewhere.
use Rattle.std.specs.Prelude.{ℕ, List, [], get_or}
use Rattle.sym_map.specs.SymbolMap.{SymbolMap}
use Rattle.cg_format.specs.Rows.{function_of}
use Rattle.addr_rows.specs.EventRows.{located_rows}
use Rattle.addr_rows.specs.Rows.{AddrListed}
use Rattle.addr_rows.specs.Texts.{plain_row}
use Rattle.addr_rows.specs.declared.row.AddrRow.{AddrRow}
use Rattle.addr_rows.specs.declared.row.AddrRow.TheVariants.{Line}
use Rattle.addr_rows.specs.declared.row.RowRef.{RowRef}
use Rattle.addr_rows.specs.declared.row.Rows.{Rows}
use Rattle.addr_rows.specs.declared.row.Rows.TheVariants.{ByAddress, Placed}

-- the rows as they are written
abbrev pub listed : SymbolMap → Rows → AddrListed
listed m (Placed rows) = rows.now.rows
listed m (ByAddress rows) = located_rows m rows.now

-- a row of no cost
abbrev pub no_row : AddrRow
no_row = Line (record {
  addr = 0;
  place = record { func = record { 0 = 0 }; file = record { 0 = 0 }; line = 0 };
  cost = [];
})

abbrev pub row_at : List AddrRow → ℕ → AddrRow
row_at rows index = get_or rows index no_row

abbrev pub ref_to : List AddrRow → ℕ → RowRef
ref_to rows index = record { function = (function_of (plain_row (row_at rows index))).0; index = index }

abbrev pub row_of : List AddrRow → RowRef → AddrRow
row_of rows place = row_at rows place.index
