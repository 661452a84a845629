use Rattle.std.proofs.Common.{arith}
use Rattle.cache_lru.proofs.ShapeLemmas.{size-mod, sets_of-power}
use Rattle.cache_lru.proofs.geometry.Geometry.new.Goals as goal

pub returns-then-size-bytes_of_set-ne0-clause-accepted : goal.returns-then-size-bytes_of_set-ne0-clause-accepted
returns-then-size-bytes_of_set-ne0-clause-accepted c =
    (λ never. cc, λ g. absurd (let whole = size-mod _ g in omega (arith, c.if-size-bytes_of_set-ne0.true, whole)))

pub returns-then-not-is_power_of_two-2-clause-accepted : goal.returns-then-not-is_power_of_two-2-clause-accepted
returns-then-not-is_power_of_two-2-clause-accepted c = (
  λ never. cc,
  λ g. absurd (
      let power = c.is_power_of_two-2.ensures.1 (sets_of-power _ g) in
      let no = c.if-not-is_power_of_two-2.true in
      cc
      ),
)
