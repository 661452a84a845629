use Rattle.std.proofs.Common.{◌≡◌, take}
use Rattle.cg_read.proofs.joined.text_copies.Given as goal

abbrev pub invariant-texts : goal.invariant-texts
invariant-texts l = l.copies.items ≡ take l.text-index l.texts
