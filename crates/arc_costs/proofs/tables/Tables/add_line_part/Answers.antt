use Rattle.std.proofs.Common.{◌+◌, ◌<◌, ◌≤◌, ◌^◌, [], ◌∷◌, ◌++◌, map, slice_index, sym, ◌∙◌, ap, subst, if◌then◌else◌}
use Rattle.event_costs.specs.Costs.{sum_of_costs}
use Rattle.arc_costs.specs.Contents.{Contents, cost_row}
use Rattle.arc_costs.specs.Lines.{LinesStandFor, add_line, has_line, line, line_sum}
use Rattle.event_costs.specs.Order.{same_place}
use Rattle.arc_costs.specs.Amounts.{add_amount}
use Rattle.arc_costs.proofs.LineLemmas.{has_line_row, line_added, line_adds, line_index_is}
use Rattle.arc_costs.proofs.LineLemmas.{line_keys, line_takes, lines_stand}
use Rattle.arc_costs.proofs.tables.Tables.add_line_part.Goals as goal

pub add_near-requires-clause-room : goal.add_near-requires-clause-room
add_near-requires-clause-room g c =
    let seen = ap (λ (v : Contents). has_line c.args.place v.lines) (sym c.self.view_is)
    ∙ has_line_row c.args.place c.self.inside.lines.rows in
    λ absent. subst (λ (v : Contents). 1 ≤ v.line_room) (sym c.self.view_is) (c.requires.room (seen ∙ absent))

pub add_near-requires-clause-fits : goal.add_near-requires-clause-fits
add_near-requires-clause-fits g c =
    line_takes c.self.inside.lines.rows c.args.place (g.C.Part.amount c.args.cost.now)
    (λ event. subst (λ (v : Contents). line_sum event c.args.place v.lines
    + slice_index (g.C.Part.amount c.args.cost.now) event < 2 ^ 64)
    (sym c.self.view_is) (c.requires.fits event))

pub returns-clause-lines : goal.returns-clause-lines
returns-clause-lines g c =
    ap (map cost_row) c.add_near.ensures.rows
    ∙ line_adds c.self.inside.lines.rows c.args.place (g.C.Part.amount c.args.cost.now)
    ∙ ap (λ (v : Contents). add_line v.lines (line c.args.place (g.C.Part.amount c.args.cost.now))) c.self.view_is

pub returns-clause-line_room : goal.returns-clause-line_room
returns-clause-line_room g c =
    let seen = ap (λ (v : Contents). has_line c.args.place v.lines) (sym c.self.view_is)
    ∙ has_line_row c.args.place c.self.inside.lines.rows in
    ap (λ b. c.add_near.new.self.room + (if b then 0 else 1)) seen ∙ c.add_near.ensures.room
    ∙ ap (λ (v : Contents). v.line_room) c.self.view_is

pub returns-clause-stands : goal.returns-clause-stands
returns-clause-stands g c =
    λ additions stands.
    subst (λ rows. LinesStandFor (map cost_row rows)
    (additions ++ line c.args.place (g.C.Part.amount c.args.cost.now) ∷ []))
    (sym c.add_near.ensures.rows)
    (lines_stand (map cost_row c.self.inside.lines.rows)
    (map cost_row (add_amount same_place sum_of_costs c.self.inside.lines.rows c.args.place
    (g.C.Part.amount c.args.cost.now)))
    additions (line c.args.place (g.C.Part.amount c.args.cost.now) ∷ [])
    (line_added c.self.inside.lines.rows c.args.place (g.C.Part.amount c.args.cost.now) c.add_near.ensures.whole
    c.add_near.ensures.whole_amount)
    (subst (λ (v : Contents). LinesStandFor v.lines additions) (sym c.self.view_is) stands))

pub returns-clause-keys : goal.returns-clause-keys
returns-clause-keys g c =
    λ other. ap (has_line other) (returns-clause-lines g c)
    ∙ line_keys c.args.self.now.lines (line c.args.place (g.C.Part.amount c.args.cost.now)) other

pub returns-clause-index : goal.returns-clause-index
returns-clause-index g c = line_index_is c.args.place c.add_near.new.self.rows ∙ c.add_near.ensures.place
