use Rattle.std.proofs.Common.{not, ap, sym}
use Rattle.cache_lru.proofs.cache.Cache.refer_block.Goals as goal

pub returns-then-is_newest-clause-miss : goal.returns-then-is_newest-clause-miss
returns-then-is_newest-clause-miss c =
    λ shape history stands.
    sym (ap not (c.is_newest.ensures.hit c.if-is_newest.true shape history stands))

pub returns-then-is_newest-clause-stands : goal.returns-then-is_newest-clause-stands
returns-then-is_newest-clause-stands c =
    c.is_newest.ensures.stands c.if-is_newest.true
