use Rattle.std.proofs.Common.{◌≡◌, map}
use Rattle.name_numbers.proofs.Tags.{key_of, AreInOrder}
use Rattle.name_numbers.proofs.numbering.tag.Given as goal

abbrev pub invariant-keys : goal.invariant-keys
invariant-keys g l = record { keys : map key_of l.tagged.items ≡ l.yielded; in_order : AreInOrder l.tagged.items }
