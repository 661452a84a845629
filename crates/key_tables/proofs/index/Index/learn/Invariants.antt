use Rattle.std.proofs.Common.{◌-◌, length}
use Rattle.key_tables.specs.Indexes.{Knows}
use Rattle.key_tables.proofs.index.Index.learn.Given as goal

abbrev pub decreases-keys : goal.decreases-keys
decreases-keys g l = length l.keys - l.self.count

abbrev pub invariant-keys : goal.invariant-keys
invariant-keys g l = Knows g.K.Ord.cmp l.keys l.self
