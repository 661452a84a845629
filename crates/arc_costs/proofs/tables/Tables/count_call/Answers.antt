use Rattle.std.proofs.Common.{◌+◌, ◌<◌, ◌≤◌, ◌^◌, [], ◌∷◌, ◌++◌, map, sym, ◌∙◌, ap, subst, if◌then◌else◌, refl}
use Rattle.arc_costs.specs.Arcs.{ArcsStandFor, add_arc, call_sum, call_of_arc, has_arc}
use Rattle.arc_costs.specs.Amounts.{amount_at}
use Rattle.arc_costs.specs.Contents.{Contents, arc_row}
use Rattle.event_costs.specs.Order.{same_arc}
use Rattle.arc_costs.specs.Totals.{nothing, one_call}
use Rattle.arc_costs.proofs.ArcLemmas.{arc_adds, arc_keys_more, arc_takes_calls, has_arc_row, one_more_arc}
use Rattle.arc_costs.proofs.FitLemmas.{can_add_one_call}
use Rattle.arc_costs.proofs.tables.Tables.count_call.Goals as goal

pub add_near-row-requires-clause-room : goal.add_near-row-requires-clause-room
add_near-row-requires-clause-room g c =
    let seen = ap (λ (v : Contents). has_arc c.args.arc.now v.arcs) (sym c.self.view_is)
    ∙ has_arc_row c.args.arc.now c.self.inside.arcs.rows in
    λ absent. subst (λ (v : Contents). 1 ≤ v.arc_room) (sym c.self.view_is) (c.requires.room (seen ∙ absent))

pub add_near-row-requires-clause-fits : goal.add_near-row-requires-clause-fits
add_near-row-requires-clause-fits g c =
    can_add_one_call (amount_at same_arc nothing c.self.inside.arcs.rows c.args.arc.now)
    (arc_takes_calls c.self.inside.arcs.rows c.args.arc.now 1
    (subst (λ (v : Contents). call_sum c.args.arc.now v.arcs + 1 < 2 ^ 64) (sym c.self.view_is) c.requires.fits))

pub returns-clause-arcs : goal.returns-clause-arcs
returns-clause-arcs g c =
    ap (map arc_row) c.add_near-row.ensures.rows ∙ arc_adds c.self.inside.arcs.rows c.args.arc.now (one_call)
    ∙ ap (λ (v : Contents). add_arc v.arcs (call_of_arc c.args.arc.now)) c.self.view_is

pub returns-clause-arc_room : goal.returns-clause-arc_room
returns-clause-arc_room g c =
    let seen = ap (λ (v : Contents). has_arc c.args.arc.now v.arcs) (sym c.self.view_is)
    ∙ has_arc_row c.args.arc.now c.self.inside.arcs.rows in
    ap (λ b. c.add_near-row.new.self.room + (if b then 0 else 1)) seen ∙ c.add_near-row.ensures.room
    ∙ ap (λ (v : Contents). v.arc_room) c.self.view_is

pub returns-clause-stands : goal.returns-clause-stands
returns-clause-stands g c =
    λ additions stands.
    subst (λ rows. ArcsStandFor (map arc_row rows) (additions ++ call_of_arc c.args.arc.now ∷ []))
    (sym c.add_near-row.ensures.rows)
    (one_more_arc c.self.inside.arcs.rows c.args.arc.now (one_call) c.add_near-row.ensures.whole refl additions
    (subst (λ (v : Contents). ArcsStandFor v.arcs additions) (sym c.self.view_is) stands))

pub returns-clause-keys : goal.returns-clause-keys
returns-clause-keys g c =
    λ other. ap (has_arc other) (returns-clause-arcs g c)
    ∙ arc_keys_more c.args.self.now.arcs (call_of_arc c.args.arc.now) other
