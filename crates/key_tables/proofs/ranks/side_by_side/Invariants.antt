use Rattle.std.proofs.Common.{take}
use Rattle.key_tables.proofs.RankLemmas.{Stand}
use Rattle.key_tables.proofs.ranks.side_by_side.Given as goal

abbrev pub invariant-texts : goal.invariant-texts
invariant-texts l = Stand l.bytes.items l.places.items (take l.text-index l.texts)
