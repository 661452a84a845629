use Rattle.std.proofs.Common.{take}
use Rattle.cycles.specs.inner.Pairs.{AreFound, IsPairs}
use Rattle.cycles.proofs.pairs.pairs_of.Given as goal

abbrev pub invariant-rows : goal.invariant-rows
invariant-rows l = record {
  pairs : IsPairs (take l.row-index l.rows) l.arcs.items l.numbers.items;
  found : AreFound l.arcs.items l.places;
}
