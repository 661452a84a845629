-- Numbers of 0 and 1 that are kept as bits.
use Rattle.std.specs.Prelude.{ℕ, List, map}
use Rattle.std.specs.Int.{bit_at}
use Rattle.std.specs.List.{range_with_len}
use Rattle.event_costs.specs.Costs.{event_kinds}

-- the bit of each kind of event, the first one lowest
unfoldable pub ones_in : ℕ → List ℕ
ones_in bits = map (bit_at bits) (range_with_len 0 event_kinds)
