-- Spans of addresses that lie over each other, and ranges that say what is seen of them.
use Rattle.std.specs.Prelude.{◌≡◌, ℕ, ◌+◌, ◌-◌, ◌<◌, ◌≤◌, ◌^◌, Bool, ◌&&◌, nat_le, nat_lt, if◌then◌else◌, List, [], ◌∷◌}
use Rattle.std.specs.Prelude.{length, take, slice_get, slice_index_or, Option, Some, None, true, false, ◌⊎◌}
use Rattle.std.specs.Option.{option_map_or}
use Rattle.sym_map.specs.declared.range.Range.{Range}
use Rattle.sym_map.specs.declared.range.Label.{Label}
use Rattle.sym_map.specs.declared.range.Label.TheVariants as label
use Rattle.sym_map.specs.declared.range.Cover.{Cover}
use Rattle.sym_map.specs.declared.range.Cover.TheVariants as what
use Rattle.sym_map.specs.declared.range.Span.{Span}
use Rattle.sym_map.specs.inner.Ranges.{cover_at}
use Rattle.sym_map.specs.inner.Rising.{Rise}

-- what is seen where one lies over the other
abbrev pub or_below : Cover → Cover → Cover
or_below what.Nothing below = below
or_below (what.Symbol symbol) below = what.Symbol symbol
or_below (what.Line line) below = what.Line line

abbrev pub is_nothing : Cover → Bool
is_nothing what.Nothing = true
is_nothing (what.Symbol symbol) = false
is_nothing (what.Line line) = false

-- what is seen where one thing alone is said
abbrev pub label_cover : Label → Cover
label_cover (label.Symbol symbol) = what.Symbol symbol
label_cover (label.Line line) = what.Line line

-- a span covers the addresses from its start up to its end
abbrev pub covers : Span → ℕ → Bool
covers span address = nat_le span.start address && nat_lt address span.end

-- what a span gives an address
abbrev pub span_cover : Span → ℕ → Cover
span_cover span address = if covers span address then label_cover span.label else what.Nothing

-- what is seen at an address of a pile of spans, the first of which lies on top
abbrev pub cover : List Span → ℕ → Cover
cover [] address = what.Nothing
cover (span ∷ spans) address = or_below (span_cover span address) (cover spans address)

-- the first address above all starts
abbrev pub reach : List Range → ℕ
reach ranges = option_map_or (λ range. range.start + 1) (slice_get ranges (length ranges - 1)) 0

-- the ranges say what is seen of the spans, at all addresses of 32 bits
pub record IsCutOf (spans : List Span) (ranges : List Range) : Type 0 where
  pub rise : Rise ranges
  pub within : reach ranges ≤ 2 ^ 32
  pub same : (address : ℕ) → address < 2 ^ 32 → cover_at ranges address ≡ cover spans address

-- the ranges say what is seen of one list of ranges that lies over another
pub record IsMergeOf (above below ranges : List Range) : Type 0 where
  pub rise : Rise ranges
  pub within : reach ranges ≤ 2 ^ 32
  pub same : (address : ℕ) → cover_at ranges address ≡ or_below (cover_at above address) (cover_at below address)

-- So many ranges were passed: from an address on they say what is kept, and the next one doesn't begin below it.
pub record IsPassed (ranges : List Range) (next : ℕ) (here : Cover) (low : ℕ) : Type 0 where
  pub within : next ≤ length ranges
  pub taken : (address : ℕ) → low ≤ address → cover_at (take next ranges) address ≡ here
  pub ahead : (d : Range) → next < length ranges → low ≤ (slice_index_or ranges next d).start

-- The least start of the two ranges that come next; there is none where both lists are at their ends.
abbrev pub IsNextStart : List Range → ℕ → List Range → ℕ → Option ℕ → Type 0
IsNextStart above i below j None = (length above ≤ i) × (length below ≤ j)
IsNextStart above i below j (Some start) =
    ((d : Range) → i < length above → start ≤ (slice_index_or above i d).start)
    × ((d : Range) → j < length below → start ≤ (slice_index_or below j d).start)
    × (((i < length above) × ((d : Range) → (slice_index_or above i d).start ≡ start))
    ⊎ ((j < length below) × ((d : Range) → (slice_index_or below j d).start ≡ start)))
