use Rattle.std.proofs.Common.{◌<◌, ◌+◌, ◌*◌, ◌-◌, length, subst, sym, arith}
use Rattle.sym_map.specs.inner.Indexed.{IsSpot}
use Rattle.sym_map.proofs.Spots.{spots_set}
use Rattle.sym_map.proofs.place_index.widen.Goals as goal

pub spots-preserved : goal.spots-preserved
spots-preserved c = λ ranges unknown first old.
    let spots = c.spots.spots in
    let i = c.spots.i - 1 in
    let are = c.spots.invariant ranges unknown first old in
    let at : i < length spots = omega (arith, c.spots-test.true, c.spots.auto.i, c.spots.auto.spots) in
    let before : i - 1 < length spots = omega (arith, at) in
    spots_set ranges unknown first spots (i - 1) c.widen_spot.result before are
    (c.widen_spot.ensures ranges unknown (first + 4 * (i - 1)) (first + 4 * i)
    (subst (IsSpot ranges unknown (first + 4 * (i - 1))) (sym c.index-spots-i.is) (are.at (i - 1) c.index-spots-i.result before))
    (subst (IsSpot ranges unknown (first + 4 * i)) (sym c.index-spots-i-in-spots.is) (are.at i c.index-spots-i-in-spots.result at)))
