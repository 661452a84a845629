-- Rows of a line table by the addresses that they may speak for.
use Rattle.std.specs.Prelude.{ℕ, Bool, ◌&&◌, nat_le, nat_lt, if◌then◌else◌, List, [], ◌∷◌, map, flat_map, reverse}
use Rattle.std.specs.Prelude.{◌<◌, ◌^◌, slice_index, slice_range, Option, Some, None}
use Rattle.dwarf_line.specs.declared.row.Row.{Row}
use Rattle.dwarf_line.specs.declared.row.Sequence.{Sequence}
use Rattle.dwarf_line.specs.Rows.{Rows}
use Rattle.sym_map.specs.declared.range.LineHere.{LineHere}
use Rattle.sym_map.specs.declared.range.Label.TheVariants as label
use Rattle.sym_map.specs.declared.range.Span.{Span}

-- A row, which speaks for the addresses from `start` up to, and without, `end`, but for those of which a later row of
-- its sequence or an earlier sequence speaks.
pub record RowSpan : Type 0 where
  pub start : ℕ
  pub end : ℕ
  pub row : Row

-- a row of a sequence that ends at this address
abbrev pub span_of : ℕ → Row → RowSpan
span_of end row = record { start = row.addr; end = end; row = row }

-- the rows of a sequence
abbrev pub rows_in : List Row → Sequence → List Row
rows_in rows sequence = slice_range rows sequence.first sequence.last

-- a sequence's rows as spans, the last one on top
unfoldable pub pile : List Row → Sequence → List RowSpan
pile rows sequence = reverse (map (span_of sequence.end) (rows_in rows sequence))

-- the rows of all sequences as spans, the first sequence on top
abbrev pub piles : List Row → List Sequence → List RowSpan
piles rows sequences = flat_map (pile rows) sequences

abbrev pub row_spans : Rows → List RowSpan
row_spans table = piles table.rows table.sequences

abbrev pub covers_row : ℕ → RowSpan → Bool
covers_row address span = nat_le span.start address && nat_lt address span.end

-- the row on top at an address
abbrev pub row_seen : List RowSpan → ℕ → Option Row
row_seen [] address = None
row_seen (span ∷ spans) address = if covers_row address span then Some span.row else row_seen spans address

-- the rows of all sequences
abbrev pub all_rows : Rows → List Row
all_rows table = flat_map (rows_in table.rows) table.sequences

-- a row's file is one of so many, and its line has 32 bits
abbrev pub IsBounded : ℕ → Row → Type 0
IsBounded files row = (row.file < files) × (row.line < 2 ^ 32)

-- the line of a row, where the numbers of the files are these
abbrev pub line_here : List ℕ → Row → LineHere
line_here ids row = record { file = record { 0 = slice_index ids row.file }; line = row.line }

-- a row as a span of what it says, and all rows
abbrev pub line_span : List ℕ → RowSpan → Span
line_span ids span = record { end = span.end; start = span.start; label = label.Line (line_here ids span.row) }

abbrev pub line_spans : List ℕ → List RowSpan → List Span
line_spans ids spans = map (line_span ids) spans
