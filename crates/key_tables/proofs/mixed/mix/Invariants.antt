use Rattle.std.proofs.Common.{◌≡◌, take}
use Rattle.key_tables.specs.inner.Mixed.{mixed}
use Rattle.key_tables.proofs.mixed.mix.Given as goal

abbrev pub invariant-bytes : goal.invariant-bytes
invariant-bytes l = l.number ≡ mixed (take l.byte-index l.bytes)
