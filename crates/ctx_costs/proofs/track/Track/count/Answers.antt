use Rattle.std.proofs.Common.{ap, get_or, if◌then◌else◌, ◌+◌, ◌∙◌}
use Rattle.event_costs.specs.Keys.{Place}
use Rattle.arc_costs.specs.Lines.{line_sum}
use Rattle.event_costs.specs.Order.{same_place}
use Rattle.arc_costs.proofs.FitLemmas.{fits_from_numbers}
use Rattle.ctx_costs.proofs.Others.{line_more}
use Rattle.ctx_costs.proofs.track.Track.count.Goals as goal

pub add_total-requires : goal.add_total-requires
add_total-requires g c =
    fits_from_numbers c.args.self.now.total (g.C.EventCost.numbers c.args.cost.now) c.requires.total

pub returns-clause-line_sums : goal.returns-clause-line_sums
returns-clause-line_sums g c = λ kind place.
    line_more c.args.self.now.rows.lines c.add_line-row.new.rows.lines _ (g.C.EventCost.numbers c.args.cost.now)
    c.add_line-row.ensures.stands kind place
    ∙ ap (λ (p : Place). line_sum kind place c.args.self.now.rows.lines
    + (if same_place place p then get_or (g.C.EventCost.numbers c.args.cost.now) kind 0 else 0))
    c.row_place-place.ensures
