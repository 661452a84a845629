use Rattle.std.proofs.Common.{◌≡◌, take}
use Rattle.cg_read.proofs.texts.texts_of.Given as goal

abbrev pub invariant-pieces : goal.invariant-pieces
invariant-pieces l = l.texts.items ≡ take l.piece-index l.pieces
