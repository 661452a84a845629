use Rattle.cg_read.specs.Merge.{missing}
use Rattle.cg_read.specs.Profiles.{Contents, contents, same_function}
use Rattle.cg_read.specs.declared.profile.Profile.TheInside.{Inside}
use Rattle.cg_read.proofs.JoinLemmas.{grown_has}
use Rattle.cg_read.proofs.profile.Profile.append.Goals as goal

abbrev view : Inside → Contents
view p = contents p.events.items p.command p.functions p.files.items p.self_rows.items p.call_rows.items

pub returns-in-Ok-clause-appended : goal.returns-in-Ok-clause-appended
returns-in-Ok-clause-appended c =
    let is = c.in_ok-functions.ensures.functions in
    rw (← c.self.view_is, ← c.other.view_is)
    (grown_has (view c.self.inside) (view c.other.inside) c.append_rows.new.self
    (missing same_function c.self.inside.functions c.other.inside.functions) c.self.invariant
    (rw is at c.in_ok-functions.ensures.apart) (rw (is, ← c.other.view_is) at c.in-Ok.ensures.has_rows))
