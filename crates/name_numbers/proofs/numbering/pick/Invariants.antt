use Rattle.std.proofs.Common.{◌≡◌, take, map}
use Rattle.std.specs.Prelude.{slice_index}
use Rattle.name_numbers.proofs.numbering.pick.Given as goal

abbrev pub invariant-places : goal.invariant-places
invariant-places l = l.chosen.items ≡ map (slice_index l.numbers) (take l.place-index l.places)
