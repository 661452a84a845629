use Rattle.std.proofs.Common.{take}
use Rattle.annotate.specs.inner.SourceRows.{AreNumbersOf}
use Rattle.annotate.proofs.sources.numbers_of.Given as goal

abbrev pub invariant-files : goal.invariant-files
invariant-files l = AreNumbersOf (take l.number l.files) l.numbers
