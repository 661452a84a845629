use Rattle.std.proofs.Common.{ℕ}
use Rattle.event_costs.specs.Keys.{Place}
use Rattle.sym_map.specs.inner.Ranges.{AddressRanges}
use Rattle.sym_map.specs.inner.Indexed.{AreIndexed}
use Rattle.sym_map.proofs.place_index.widen.Given as goal

abbrev pub invariant-spots : goal.invariant-spots
invariant-spots l = (ranges : AddressRanges) (unknown : Place) (first : ℕ)
    → AreIndexed ranges unknown first l.fn.spots → AreIndexed ranges unknown first l.spots
