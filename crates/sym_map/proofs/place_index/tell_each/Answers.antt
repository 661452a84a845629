use Rattle.std.proofs.Common.{◌≡◌, ◌<◌, ◌+◌, ◌*◌, ◌%◌, ◌^◌, ℕ, length, subst, sym, arith}
use Rattle.sym_map.specs.inner.Ranges.{lines_by_address}
use Rattle.sym_map.specs.inner.Indexed.{IsSpot}
use Rattle.sym_map.proofs.Spots.{all_by_address, next_left, next_by_address, none_by_address}
use Rattle.sym_map.proofs.place_index.tell_each.Goals as goal

pub spots-preserved : goal.spots-preserved
spots-preserved c = λ ranges unknown old.
    let spots = c.spots.spots in
    let i = c.spots.i in
    let first = c.args.first in
    let are = c.spots.invariant ranges unknown old in
    let at : i < length spots = omega (arith, c.spots-test.true, c.spots.auto.spots) in
    let within = are.0.within in
    let address = are.1 in (
      next_by_address ranges unknown first i spots c.spot_by_address.result at are.0
          (subst (λ (n : ℕ). IsSpot (lines_by_address ranges) unknown n c.spot_by_address.result) address
          (c.spot_by_address.ensures ranges unknown (subst (IsSpot ranges unknown c.spots.address) (sym c.index-spots-i.is)
          (next_left ranges unknown first i c.spots.address spots c.index-spots-i.result address at are.0)))),
      next first i c.spots.address (length spots) address at within,
    )
  where
    next : (first i address count : ℕ) → address ≡ first + 4 * i → i < count → first + 4 * count < 2 ^ 32
        → (address + 4) % 4294967296 ≡ first + 4 * (i + 1)
    next first i address count at below within = omega (arith, at, below, within)

pub spots-init : goal.spots-init
spots-init c = λ ranges unknown old. (none_by_address ranges unknown c.args.first _ old, omega arith)

pub returns : goal.returns
returns c = λ ranges unknown old.
    all_by_address ranges unknown c.args.first c.spots.i c.spots.spots
    (omega (arith, c.spots-test.false, c.spots.auto.spots)) (c.spots.invariant ranges unknown old).0
