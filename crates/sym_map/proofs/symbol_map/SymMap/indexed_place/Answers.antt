use Rattle.std.proofs.Common.{◌≡◌, subst}
use Rattle.std.specs.Prelude.{IfSome}
use Rattle.event_costs.specs.Keys.{Place}
use Rattle.sym_map.proofs.Told.{kept_place}
use Rattle.sym_map.proofs.symbol_map.SymMap.indexed_place.Goals as goal

pub returns : goal.returns
returns c =
    subst (λ (p : Place). IfSome c.place.result (λ place. place ≡ p))
    (kept_place c.self.inside _ c.self.view_is c.args.pc c.ranges.pc.fits)
    (c.place.ensures c.self.inside.ranges c.self.inside.unknown c.self.invariant.1)
