use Rattle.std.proofs.Common.{◌+◌, ◌<◌, ◌≤◌, ◌^◌, [], ◌∷◌, ◌++◌, map, sym, ◌∙◌, ap, subst, if◌then◌else◌, slice_index}
use Rattle.arc_costs.specs.Arcs.{ArcsStandFor, add_arc, arc_sum, cost_of_arc, has_arc}
use Rattle.arc_costs.specs.Amounts.{amount_at}
use Rattle.arc_costs.specs.Contents.{Contents, arc_row}
use Rattle.event_costs.specs.Order.{same_arc}
use Rattle.arc_costs.specs.Totals.{add_total, nothing, of_cost}
use Rattle.arc_costs.specs.inner.Sums.{CanAddTotal, IsWholeTotal}
use Rattle.arc_costs.proofs.ArcLemmas.{arc_adds, arc_keys_more, arc_takes_cost, has_arc_row, one_more_arc}
use Rattle.arc_costs.proofs.FitLemmas.{can_add_of_cost}
use Rattle.arc_costs.proofs.tables.Tables.add_arc.Goals as goal

pub add_near-row-requires-clause-room : goal.add_near-row-requires-clause-room
add_near-row-requires-clause-room g c =
    let seen = ap (λ (v : Contents). has_arc c.args.arc.now v.arcs) (sym c.self.view_is)
    ∙ has_arc_row c.args.arc.now c.self.inside.arcs.rows in
    λ absent. subst (λ (v : Contents). 1 ≤ v.arc_room) (sym c.self.view_is) (c.requires.room (seen ∙ absent))

pub add_near-row-requires-clause-fits : goal.add_near-row-requires-clause-fits
add_near-row-requires-clause-fits g c =
    let held = amount_at same_arc nothing c.self.inside.arcs.rows c.args.arc.now in
    subst (CanAddTotal held) (sym c.of_cost.ensures)
    (can_add_of_cost held c.args.cost.now
    (arc_takes_cost c.self.inside.arcs.rows c.args.arc.now c.args.cost.now
    (λ event. subst (λ (v : Contents). arc_sum event c.args.arc.now v.arcs + slice_index c.args.cost.now event < 2 ^ 64)
    (sym c.self.view_is) (c.requires.fits event))))

pub returns-clause-arcs : goal.returns-clause-arcs
returns-clause-arcs g c =
    ap (map arc_row)
    (c.add_near-row.ensures.rows ∙ ap (add_total same_arc c.self.inside.arcs.rows c.args.arc.now) c.of_cost.ensures)
    ∙ arc_adds c.self.inside.arcs.rows c.args.arc.now (of_cost c.args.cost.now)
    ∙ ap (λ (v : Contents). add_arc v.arcs (cost_of_arc c.args.arc.now c.args.cost.now)) c.self.view_is

pub returns-clause-arc_room : goal.returns-clause-arc_room
returns-clause-arc_room g c =
    let seen = ap (λ (v : Contents). has_arc c.args.arc.now v.arcs) (sym c.self.view_is)
    ∙ has_arc_row c.args.arc.now c.self.inside.arcs.rows in
    ap (λ b. c.add_near-row.new.self.room + (if b then 0 else 1)) seen ∙ c.add_near-row.ensures.room
    ∙ ap (λ (v : Contents). v.arc_room) c.self.view_is

pub returns-clause-stands : goal.returns-clause-stands
returns-clause-stands g c =
    λ additions stands.
    subst (λ rows. ArcsStandFor (map arc_row rows) (additions ++ cost_of_arc c.args.arc.now c.args.cost.now ∷ []))
    (sym (c.add_near-row.ensures.rows ∙ ap (add_total same_arc c.self.inside.arcs.rows c.args.arc.now)
    c.of_cost.ensures))
    (one_more_arc c.self.inside.arcs.rows c.args.arc.now (of_cost c.args.cost.now) c.add_near-row.ensures.whole
    (subst IsWholeTotal c.of_cost.ensures c.add_near-row.ensures.whole_amount) additions
    (subst (λ (v : Contents). ArcsStandFor v.arcs additions) (sym c.self.view_is) stands))

pub returns-clause-keys : goal.returns-clause-keys
returns-clause-keys g c =
    λ other. ap (has_arc other) (returns-clause-arcs g c)
    ∙ arc_keys_more c.args.self.now.arcs (cost_of_arc c.args.arc.now c.args.cost.now) other
