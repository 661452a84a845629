use Rattle.std.proofs.Common.{◌≡◌, take, map}
use Rattle.name_numbers.specs.inner.FileNameKeys.{clean_key}
use Rattle.name_numbers.proofs.file_names.clean_keys.Given as goal

abbrev pub invariant-keys : goal.invariant-keys
invariant-keys l = l.clean.items ≡ map (clean_key l.ranks) (take l.key-index l.keys)
