use Rattle.cache_lru.proofs.ShapeLemmas.{power_by_log}
use Rattle.cache_lru.proofs.geometry.is_power_of_two.Goals as goal

pub returns : goal.returns
returns c =
    power_by_log c.args.number c.ilog2.result c.ilog2.ensures.bound c.ilog2.ensures.power_le
    c.ilog2.ensures.next_power_gt
