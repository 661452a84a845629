use Rattle.name_numbers.specs.inner.Fronts.{IsFront}
use Rattle.name_numbers.proofs.name_order.front.Given as goal

abbrev pub invariant-bytes : goal.invariant-bytes
invariant-bytes l = IsFront l.bytes l.place l.front
