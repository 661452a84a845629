use Rattle.std.proofs.Common.{◌≡◌, length, take}
use Rattle.call_graph.proofs.CycleLemmas.{MarkInside}
use Rattle.call_graph.proofs.cyclic.cycles_of.Given as goal

abbrev pub invariant-arcs : goal.invariant-arcs
invariant-arcs l = record {
  size : length l.cyclic.items ≡ l.count;
  inside : MarkInside (take l.arc-index l.arcs) l.number l.cyclic.items;
}
