use Rattle.std.proofs.Common.{◌≡◌, subst, true}
use Rattle.event_costs.specs.Keys.{Place}
use Rattle.arc_costs.specs.Lines.{has_line}
use Rattle.recorder.proofs.StayLemmas.{known_line}
use Rattle.ctx_costs.proofs.track.Track.has_row_at.Goals as goal

pub returns : goal.returns
returns c = λ yes.
    subst (λ (p : Place). has_line p c.args.self.now.rows.lines ≡ true) c.row_place.ensures
    (known_line c.row_place.result c.args.self.now.rows.lines c.args.index (c.is_line_at.ensures yes))
