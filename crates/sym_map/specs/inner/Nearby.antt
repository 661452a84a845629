-- Ranges by their numbers.
use Rattle.std.specs.Prelude.{ℕ, ◌+◌, Bool, ◌&&◌, ◌||◌, ◌==◌, nat_le, nat_lt, List, length, slice_get, slice_index_or}
use Rattle.std.specs.Option.{option_map_or}
use Rattle.sym_map.specs.declared.range.Here.{Here}
use Rattle.sym_map.specs.declared.range.Range.{Range}
use Rattle.sym_map.specs.declared.range.Cover.{Cover}
use Rattle.sym_map.specs.declared.range.Cover.TheVariants as what
use Rattle.sym_map.specs.declared.known_ranges.Near.{Near}
use Rattle.sym_map.specs.inner.Ranges.{AddressRanges, line_or_address, symbol_of}

-- a range of which nothing is known
abbrev pub no_range : Range
no_range = record { start = 0; cover = what.Nothing }

-- the address lies in the range of this number: that one begins at or below it, and the next one above it
abbrev pub is_held : List Range → ℕ → ℕ → Bool
is_held ranges number address =
    nat_lt number (length ranges) && nat_le (slice_index_or ranges number no_range).start address
    && ((number + 1 == length ranges) || nat_lt address (slice_index_or ranges (number + 1) no_range).start)

-- what the range of this number says
abbrev pub cover_by_number : List Range → ℕ → Cover
cover_by_number ranges number = option_map_or (λ range. range.cover) (slice_get ranges number) what.Nothing

-- what the ranges of these numbers say of an address
abbrev pub here_by : AddressRanges → Near → ℕ → Here
here_by ranges near address = record {
  symbol = symbol_of (cover_by_number ranges.symbols near.symbol);
  line = line_or_address ranges.by_address address (cover_by_number ranges.lines near.line);
}
