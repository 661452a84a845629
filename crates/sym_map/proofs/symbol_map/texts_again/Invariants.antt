use Rattle.std.proofs.Common.{◌≡◌, take}
use Rattle.sym_map.proofs.symbol_map.texts_again.Given as goal

abbrev pub invariant-texts : goal.invariant-texts
invariant-texts l = l.copies.items ≡ take l.text-index l.texts
