use Rattle.std.proofs.Common.{◌∙◌, sym}
use Rattle.cg_read.specs.Profiles.{Contents, contents}
use Rattle.cg_read.specs.declared.profile.Profile.TheInside.{Inside}
use Rattle.cg_read.proofs.WidthLemmas.{own_is_longer}
use Rattle.cg_read.proofs.profile.Profile.merge_by.Goals as goal

abbrev view : Inside → Contents
view p = contents p.events.items p.command p.functions p.files.items p.self_rows.items p.call_rows.items

pub returns-then-begins_with-clause-joined : goal.returns-then-begins_with-clause-joined
returns-then-begins_with-clause-joined c =
    let starts =
    rw (c.deref.ensures.value, c.deref-2.ensures.value) at (sym c.begins_with.ensures ∙ c.if-begins_with.true) in
    let appended = rw (← c.self.view_is, ← c.other.view_is) at c.in_ok-append.ensures.appended in
    rw (← c.self.view_is, ← c.other.view_is)
    (own_is_longer (view c.self.inside) (view c.other.inside) c.append.new.self c.self.invariant starts appended)
