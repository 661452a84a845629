use Rattle.std.proofs.Common.{◌≡◌, map, take}
use Rattle.cg_read.specs.inner.Texts.{text_in}
use Rattle.cg_read.proofs.texts.texts_numbered.Given as goal

abbrev pub invariant-numbers : goal.invariant-numbers
invariant-numbers l = l.copies.items ≡ map (text_in l.texts) (take l.number-index l.numbers)
