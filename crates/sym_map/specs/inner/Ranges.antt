-- Ranges of addresses in rising order, with what is seen from each one's start up to the next one's.
use Rattle.std.specs.Prelude.{ℕ, ◌^◌, Bool, true, false, ◌==◌, List, Option, Some, None}
use Rattle.std.specs.Option.{option_map_or}
use Rattle.event_costs.specs.Keys.{Place}
use Rattle.dwarf_line.specs.LineRow.{last_at}
use Rattle.sym_map.specs.declared.function.Function.{Function}
use Rattle.sym_map.specs.declared.range.Here.{Here}
use Rattle.sym_map.specs.declared.range.LineHere.{LineHere}
use Rattle.sym_map.specs.declared.range.Range.{Range}
use Rattle.sym_map.specs.declared.range.Cover.{Cover}
use Rattle.sym_map.specs.declared.range.Cover.TheVariants as what
use Rattle.sym_map.specs.declared.range.SymbolHere.{SymbolHere}
use Rattle.sym_map.specs.AddressMap.{address_line, no_file, told}
use Rattle.sym_map.specs.SymbolMap.{SymbolMap}

-- the ranges of the symbols, and those of the lines; and whether each address is a line of its own in their place
pub record AddressRanges : Type 0 where
  pub symbols : List Range
  pub lines : List Range
  pub by_address : Bool

-- the same, where each address is a line of its own
abbrev pub lines_by_address : AddressRanges → AddressRanges
lines_by_address ranges = record ranges { by_address = true }

abbrev pub start_of : Range → ℕ
start_of range = range.start

-- what the ranges say of an address: what the last one that begins at or below it says
abbrev pub cover_at : List Range → ℕ → Cover
cover_at ranges address = option_map_or (λ range. range.cover) (last_at start_of address ranges) what.Nothing

-- the symbol that is seen
abbrev pub symbol_of : Cover → Option SymbolHere
symbol_of what.Nothing = None
symbol_of (what.Symbol symbol) = Some symbol
symbol_of (what.Line line) = None

-- the line that is seen
abbrev pub line_of : Cover → Option LineHere
line_of what.Nothing = None
line_of (what.Symbol symbol) = None
line_of (what.Line line) = Some line

-- the line of an address at which this is seen, where each address is a line of its own, or not
abbrev pub line_or_address : Bool → ℕ → Cover → Option LineHere
line_or_address true address cover = Some (record { file = no_file; line = address_line address })
line_or_address false address cover = line_of cover

-- what is known of an address
abbrev pub here_at : AddressRanges → ℕ → Here
here_at ranges address = record {
  symbol = symbol_of (cover_at ranges.symbols address);
  line = line_or_address ranges.by_address address (cover_at ranges.lines address);
}

-- the place that is known of an address; this one has neither a symbol nor a line
abbrev pub place_in : Place → Here → Place
place_in unknown here = record {
  func = option_map_or (λ symbol. symbol.func) here.symbol unknown.func;
  file = option_map_or (λ line. line.file) here.line unknown.file;
  line = option_map_or (λ line. line.line) here.line 0;
}

-- the symbol that is known of an address begins there
abbrev pub begins_at : ℕ → Here → Bool
begins_at address here = option_map_or (λ symbol. symbol.value == address) here.symbol false

-- the map that says what the ranges do
abbrev pub map_of : List Function → List (List ℕ) → List (Option ℕ) → AddressRanges → Place → SymbolMap
map_of functions files entries ranges unknown = record {
  functions = functions;
  files = files;
  entries = entries;
  places = told (2 ^ 32) (λ address. place_in unknown (here_at ranges address));
  begins = told (2 ^ 32) (λ address. begins_at address (here_at ranges address));
  unknown = unknown;
}
