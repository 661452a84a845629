use Rattle.name_numbers.proofs.NameOrder.{ArePlaced}
use Rattle.name_numbers.proofs.names.gather.Given as goal

abbrev pub invariant-order : goal.invariant-order
invariant-order l = ArePlaced l.texts l.places l.order l.i l.keys.items l.numbers.items
