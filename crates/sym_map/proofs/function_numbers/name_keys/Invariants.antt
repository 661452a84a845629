use Rattle.std.proofs.Common.{◌≡◌, take, map}
use Rattle.sym_map.specs.inner.NameKeys.{name_key}
use Rattle.sym_map.proofs.function_numbers.name_keys.Given as goal

abbrev pub invariant-ranked : goal.invariant-ranked
invariant-ranked l = l.keys.items ≡ map (name_key l.lines.ranges.items l.lines.unknown) (take l.one-index l.ranked)
