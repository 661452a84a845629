use Rattle.std.proofs.Common.{length}
use Rattle.name_numbers.proofs.Tags.{IsGathered}
use Rattle.name_numbers.proofs.numbering.gather.Given as goal

abbrev pub invariant-tagged : goal.invariant-tagged
invariant-tagged g l =
    IsGathered g.K.Ord.cmp g.met.K.Ord.total g.met.K.ExactOrder.exact l.fn.tagged.items (length l.yielded) l.keys.items
    l.numbers.items
