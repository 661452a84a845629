use Rattle.std.proofs.Common.{◌≡◌, ◌+◌, ◌*◌, ◌≤◌, length}
use Rattle.sym_map.specs.inner.Indexed.{AreAlike, AreIndexed}
use Rattle.sym_map.proofs.place_index.spots_from.Given as goal

abbrev pub invariant-words : goal.invariant-words
invariant-words l = record {
  symbol : l.near.symbol ≤ length l.ranges.symbols;
  line : l.near.line ≤ length l.ranges.lines;
  counted : length l.spots.items ≡ l.word;
  indexed : AreIndexed l.ranges l.unknown l.first l.spots.items;
  alike : AreAlike l.ranges l.unknown l.last;
  behind : l.last.start + 4 * l.last.count ≡ l.first + 4 * l.word;
}
