use Rattle.cache_lru.proofs.ShapeLemmas.{sets_of-power}
use Rattle.cache_lru.proofs.geometry.Geometry.sets.Goals as goal

pub returns-clause-power : goal.returns-clause-power
returns-clause-power c = sets_of-power _ c.self.invariant
