use Rattle.std.proofs.Common.{◌<◌, ◌∙◌, ap, length, subst, sym}
use Rattle.event_costs.specs.Keys.{Place}
use Rattle.sym_map.specs.inner.Ranges.{place_in}
use Rattle.sym_map.proofs.Soundness.{sound}
use Rattle.sym_map.proofs.Told.{kept_place, place_is}
use Rattle.sym_map.proofs.symbol_map.SymMap.place.Goals as goal

pub returns-in-Some-clause-place : goal.returns-in-Some-clause-place
returns-in-Some-clause-place c =
    c.in-Some.ensures c.self.inside.ranges c.self.inside.unknown c.self.invariant.1
    ∙ kept_place c.self.inside _ c.self.view_is c.args.pc c.ranges.pc.fits

pub returns-in-Some-clause-func_known : goal.returns-in-Some-clause-func_known
returns-in-Some-clause-func_known c =
    let is = c.in-Some.ensures c.self.inside.ranges c.self.inside.unknown c.self.invariant.1
    ∙ sym (place_is c.self.inside.functions c.self.inside.files.items c.self.inside.entries.items c.self.inside.ranges
    c.self.inside.unknown c.args.pc c.ranges.pc.fits) in
    rw (← c.self.view_is)
    (subst (λ (p : Place). p.func.0 < length c.self.inside.functions) (sym is)
    ((sound _ _ _ _ _ c.self.invariant.0).place_functions c.args.pc))

pub returns-in-Some-clause-file_known : goal.returns-in-Some-clause-file_known
returns-in-Some-clause-file_known c =
    let is = c.in-Some.ensures c.self.inside.ranges c.self.inside.unknown c.self.invariant.1
    ∙ sym (place_is c.self.inside.functions c.self.inside.files.items c.self.inside.entries.items c.self.inside.ranges
    c.self.inside.unknown c.args.pc c.ranges.pc.fits) in
    rw (← c.self.view_is)
    (subst (λ (p : Place). p.file.0 < length c.self.inside.files.items) (sym is)
    ((sound _ _ _ _ _ c.self.invariant.0).place_files c.args.pc))

pub returns-clause-place : goal.returns-clause-place
returns-clause-place c =
    c.place_in.ensures ∙ ap (place_in c.self.inside.unknown) c.here_at.ensures
    ∙ kept_place c.self.inside _ c.self.view_is c.args.pc c.ranges.pc.fits
