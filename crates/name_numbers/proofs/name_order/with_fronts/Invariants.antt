use Rattle.std.specs.Prelude.{All}
use Rattle.name_numbers.specs.Texts.{texts_at}
use Rattle.name_numbers.specs.inner.NameOrder.{IsFronted}
use Rattle.name_numbers.proofs.NameOrder.{AreInOrder}
use Rattle.name_numbers.proofs.name_order.with_fronts.Given as goal

abbrev pub invariant-places : goal.invariant-places
invariant-places l = record {
  fronts : All (IsFronted (texts_at l.texts l.places) l.skip) l.fronted.items;
  in_order : AreInOrder l.fronted.items l.number;
}
