use Rattle.std.proofs.Common.{◌∙◌, ap, sym}
use Rattle.event_costs.specs.Keys.{Place}
use Rattle.sym_map.proofs.Told.{kept_place}
use Rattle.sym_map.proofs.symbol_map.SymMap.way_within.Goals as goal

pub returns-clause-place : goal.returns-clause-place
returns-clause-place c =
    c.in_ok-place.ensures.place c.self.inside.ranges c.self.inside.unknown c.self.invariant.1
    ∙ kept_place c.self.inside _ c.self.view_is c.args.pc c.ranges.pc.fits

pub returns-clause-next_func : goal.returns-clause-next_func
returns-clause-next_func c =
    ap (λ (p : Place). p.func) c.place.view_is
    ∙ sym (c.in_ok-place.ensures.next c.self.inside.ranges c.self.inside.unknown c.self.invariant.1)
    ∙ ap (λ (p : Place). p.func) (kept_place c.self.inside _ c.self.view_is c.args.next c.ranges.next.fits)
