use Rattle.std.proofs.Common.{take}
use Rattle.std.specs.Prelude.{All}
use Rattle.name_numbers.specs.Texts.{text_at}
use Rattle.name_numbers.specs.inner.Places.{BeginsWith}
use Rattle.name_numbers.specs.declared.text_place.TextPlace.{TextPlace}
use Rattle.name_numbers.proofs.names.common_front.Given as goal

abbrev pub invariant-places : goal.invariant-places
invariant-places l = All (λ (p : TextPlace). BeginsWith l.common (text_at l.texts p)) (take l.place-index l.places)
