use Rattle.std.proofs.Common.{◌≡◌, take, map}
use Rattle.name_numbers.specs.inner.FileNameKeys.{placed_key}
use Rattle.name_numbers.proofs.file_names.names_at.Given as goal

abbrev pub invariant-keys : goal.invariant-keys
invariant-keys l = l.items.items ≡ map (placed_key l.places) (take l.key-index l.keys)
