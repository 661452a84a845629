-- Places of instructions, one after another, each with a stretch of instructions of the same function.
use Rattle.std.specs.Prelude.{◌≡◌, ℕ, ◌+◌, ◌*◌, ◌<◌, ◌^◌, List, length, nat_lt, slice_index_or, if◌then◌else◌}
use Rattle.event_costs.specs.Keys.{Place}
use Rattle.sym_map.specs.declared.place_index.Spot.{Spot}
use Rattle.sym_map.specs.inner.Ranges.{lines_by_address}
use Rattle.sym_map.specs.inner.Ranges.{AddressRanges, here_at}
use Rattle.sym_map.specs.inner.Ranges.{place_in}

-- the instructions of the spot's stretch are of the function of its place
abbrev pub AreAlike : AddressRanges → Place → Spot → Type 0
AreAlike ranges unknown spot = (k : ℕ) → k < spot.count
    → (place_in unknown (here_at ranges (spot.start + 4 * k))).func ≡ spot.place.func

-- the spot of the instruction at an address
pub record IsSpot (ranges : AddressRanges) (unknown : Place) (address : ℕ) (spot : Spot) : Type 0 where
  pub place : spot.place ≡ place_in unknown (here_at ranges address)
  pub alike : AreAlike ranges unknown spot
  pub within : spot.start + 4 * spot.count < 2 ^ 32

-- these are the spots of the instructions from an address on, none of which is past the last address
pub record AreIndexed (ranges : AddressRanges) (unknown : Place) (first : ℕ) (spots : List Spot) : Type 0 where
  pub within : first + 4 * length spots < 2 ^ 32
  pub at : (k : ℕ) (d : Spot) → k < length spots
      → IsSpot ranges unknown (first + 4 * k) (slice_index_or spots k d)

-- the same, where each address is a line of its own at the first so many of them
abbrev pub lines_by_address_up_to : ℕ → ℕ → AddressRanges → AddressRanges
lines_by_address_up_to count k ranges = if nat_lt k count then lines_by_address ranges else ranges

pub record AreByAddress (ranges : AddressRanges) (unknown : Place) (first count : ℕ) (spots : List Spot) : Type 0 where
  pub within : first + 4 * length spots < 2 ^ 32
  pub at : (k : ℕ) (d : Spot) → k < length spots
      → IsSpot (lines_by_address_up_to count k ranges) unknown (first + 4 * k) (slice_index_or spots k d)
