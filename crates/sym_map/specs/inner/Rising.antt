-- Ranges in rising order.
use Rattle.std.specs.Prelude.{ℕ, ◌+◌, ◌<◌, List, length, slice_index_or}
use Rattle.sym_map.specs.inner.Ranges.{AddressRanges}
use Rattle.sym_map.specs.declared.range.Range.{Range}

-- each begins above the one before
abbrev pub Rise : List Range → Type 0
Rise ranges = (k : ℕ) (d : Range) → k + 1 < length ranges
    → (slice_index_or ranges k d).start < (slice_index_or ranges (k + 1) d).start

-- so they do in both lists
pub record AllRise (ranges : AddressRanges) : Type 0 where
  pub symbols : Rise ranges.symbols
  pub lines : Rise ranges.lines
