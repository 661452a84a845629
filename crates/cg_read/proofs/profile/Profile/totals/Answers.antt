use Rattle.std.proofs.Common.{◌≡◌, ◌∙◌, length}
use Rattle.cg_read.proofs.profile.Profile.totals.Goals as goal

pub returns-clause-limit : goal.returns-clause-limit
returns-clause-limit c = λ event err.
    let events : c.len.result ≡ length c.self.inside.events.items = c.len.ensures ∙ c.self.inside.events.ok.0 in
    rw (← c.self.view_is) (rw (c.deref.ensures.value, events) at (c.column_totals.ensures.limit event err))
