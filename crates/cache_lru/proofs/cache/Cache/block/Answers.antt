use Rattle.cache_lru.proofs.ShapeLemmas.{line_bits_below}
use Rattle.cache_lru.proofs.cache.Cache.block.Goals as goal

pub overflow_shr-result : goal.overflow_shr-result
overflow_shr-result c = line_bits_below _ c.self.inside.line_bits c.self.invariant.geometry c.self.invariant.shift
