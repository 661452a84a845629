use Rattle.std.proofs.Common.{◌≡◌, ◌++◌, take}
use Rattle.key_tables.specs.Keys.{NumberEach, missing}
use Rattle.key_tables.proofs.index.Index.gain_from.Given as goal

abbrev pub invariant-others : goal.invariant-others
invariant-others g l = record {
  added : l.added.items ≡ missing g.K.PartialEq.eq l.own (take l.other-index l.others);
  numbers : NumberEach (l.own ++ l.added.items) l.numbers.items (take l.other-index l.others);
}
