use Rattle.std.proofs.Common.{ap, sym, ◌∙◌}
use Rattle.cache_lru.proofs.ShapeLemmas.{power_between}
use Rattle.cache_lru.proofs.geometry.Geometry.line_bits.Goals as goal

pub returns-clause-power : goal.returns-clause-power
returns-clause-power c =
    ap (λ shape. shape.line) (sym c.self.view_is)
    ∙ power_between c.self.inside.line c.ilog2.result c.self.invariant.line_is_power c.ilog2.ensures.power_le
    c.ilog2.ensures.next_power_gt
