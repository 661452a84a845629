use Rattle.std.proofs.Common.{◌≡◌, ◌++◌, take, flat_map, codes}
use Rattle.annotate.proofs.names.push_texts.Given as goal

abbrev pub invariant-texts : goal.invariant-texts
invariant-texts l = l.text ≡ l.initial.text ++ flat_map (λ t. codes " " ++ t) (take l.piece-index l.rest)
