use Rattle.key_tables.proofs.FirstLemmas.{none_numbered}
use Rattle.key_tables.proofs.text_keys.TextKeys.new.Goals as goal

pub invariant_of-result : goal.invariant_of-result
invariant_of-result g c =
    rw (c.new.ensures.items, c.new-2.ensures.items)
    (none_numbered g.K.Ord.cmp g.K.TextKey.latest g.K.PartialEq.eq c.new-3.result)
