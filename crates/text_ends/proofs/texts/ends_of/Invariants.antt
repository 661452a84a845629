use Rattle.text_ends.specs.inner.Ends.{AreEndsFrom}
use Rattle.text_ends.proofs.texts.ends_of.Given as goal

abbrev pub invariant-back : goal.invariant-back
invariant-back l = AreEndsFrom l.bytes l.block l.ends.items
