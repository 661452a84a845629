use Rattle.std.proofs.Common.{◌<◌, ◌∙◌, ap, length, subst, sym}
use Rattle.event_costs.specs.Keys.{Place}
use Rattle.sym_map.specs.inner.Ranges.{place_in}
use Rattle.sym_map.proofs.Soundness.{sound}
use Rattle.sym_map.proofs.Told.{kept_place, place_is}
use Rattle.sym_map.proofs.near_places.NearPlaces.place.Goals as goal

pub returns-in-Some-clause-place : goal.returns-in-Some-clause-place
returns-in-Some-clause-place c =
    c.in-Some.ensures c.syms.inside.ranges c.syms.inside.unknown c.syms.invariant.1
    ∙ kept_place c.syms.inside _ c.syms.view_is c.args.pc c.ranges.pc.fits

pub returns-in-Some-clause-func_known : goal.returns-in-Some-clause-func_known
returns-in-Some-clause-func_known c =
    let is = c.in-Some.ensures c.syms.inside.ranges c.syms.inside.unknown c.syms.invariant.1
    ∙ sym (place_is c.syms.inside.functions c.syms.inside.files.items c.syms.inside.entries.items c.syms.inside.ranges
    c.syms.inside.unknown c.args.pc c.ranges.pc.fits) in
    rw (← c.syms.view_is)
    (subst (λ (p : Place). p.func.0 < length c.syms.inside.functions) (sym is)
    ((sound _ _ _ _ _ c.syms.invariant.0).place_functions c.args.pc))

pub returns-in-Some-clause-file_known : goal.returns-in-Some-clause-file_known
returns-in-Some-clause-file_known c =
    let is = c.in-Some.ensures c.syms.inside.ranges c.syms.inside.unknown c.syms.invariant.1
    ∙ sym (place_is c.syms.inside.functions c.syms.inside.files.items c.syms.inside.entries.items c.syms.inside.ranges
    c.syms.inside.unknown c.args.pc c.ranges.pc.fits) in
    rw (← c.syms.view_is)
    (subst (λ (p : Place). p.file.0 < length c.syms.inside.files.items) (sym is)
    ((sound _ _ _ _ _ c.syms.invariant.0).place_files c.args.pc))

pub returns-clause-place : goal.returns-clause-place
returns-clause-place c =
    c.place_in.ensures ∙ ap (place_in c.syms.inside.unknown) (c.here_by.ensures ∙ c.number-number.ensures)
    ∙ kept_place c.syms.inside _ c.syms.view_is c.args.pc c.ranges.pc.fits
