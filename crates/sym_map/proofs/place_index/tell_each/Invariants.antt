use Rattle.std.proofs.Common.{◌≡◌, ◌+◌, ◌*◌}
use Rattle.event_costs.specs.Keys.{Place}
use Rattle.sym_map.specs.inner.Ranges.{AddressRanges}
use Rattle.sym_map.specs.inner.Indexed.{AreIndexed, AreByAddress}
use Rattle.sym_map.proofs.place_index.tell_each.Given as goal

abbrev pub invariant-spots : goal.invariant-spots
invariant-spots l = (ranges : AddressRanges) (unknown : Place) → AreIndexed ranges unknown l.first l.fn.spots
    → AreByAddress ranges unknown l.first l.i l.spots × (l.address ≡ l.first + 4 * l.i)
