use Rattle.std.proofs.Common.{◌||◌, map, ◌∙◌, ap, arith}
use Rattle.arc_costs.specs.Arcs.{arc_sum, call_sum, has_arc}
use Rattle.arc_costs.specs.Contents.{Contents, Listed, arc_row, cost_row}
use Rattle.arc_costs.specs.Lines.{has_line, line_sum}
use Rattle.arc_costs.proofs.ArcLemmas.{arcs_keys, arcs_stand}
use Rattle.arc_costs.proofs.LineLemmas.{lines_keys, lines_stand}
use Rattle.arc_costs.proofs.tables.Tables.merge.Goals as goal

pub merge_lines-requires-clause-costs : goal.merge_lines-requires-clause-costs
merge_lines-requires-clause-costs g c =
    λ event place.
    let old = ap (λ rows. line_sum event place (map cost_row rows)) c.make_room.ensures.rows
    ∙ ap (λ (v : Contents). line_sum event place v.lines) c.self.view_is in
    let news = ap (line_sum event place) c.deref.ensures.value
    ∙ ap (λ (v : Listed). line_sum event place v.lines) c.other.view_is in
    omega (arith, old, news, c.requires.line_costs event place)

pub merge_arcs-requires-clause-costs : goal.merge_arcs-requires-clause-costs
merge_arcs-requires-clause-costs g c =
    λ event arc.
    let old = ap (λ rows. arc_sum event arc (map arc_row rows)) c.make_room-2.ensures.rows
    ∙ ap (λ (v : Contents). arc_sum event arc v.arcs) c.self.view_is in
    let news = ap (arc_sum event arc) c.deref-2.ensures.value
    ∙ ap (λ (v : Listed). arc_sum event arc v.arcs) c.other.view_is in
    omega (arith, old, news, c.requires.arc_costs event arc)

pub merge_arcs-requires-clause-calls : goal.merge_arcs-requires-clause-calls
merge_arcs-requires-clause-calls g c =
    λ arc.
    let old = ap (λ rows. call_sum arc (map arc_row rows)) c.make_room-2.ensures.rows
    ∙ ap (λ (v : Contents). call_sum arc v.arcs) c.self.view_is in
    let news = ap (call_sum arc) c.deref-2.ensures.value ∙ ap (λ (v : Listed). call_sum arc v.arcs) c.other.view_is in
    omega (arith, old, news, c.requires.calls arc)

pub returns-clause-lines_stand : goal.returns-clause-lines_stand
returns-clause-lines_stand g c =
    λ additions stands.
    lines_stand c.args.self.now.lines (map cost_row c.merge_lines.new.table.rows) additions c.args.other.now.lines
    (λ event place.
    let old = ap (λ rows. line_sum event place (map cost_row rows)) c.make_room.ensures.rows
    ∙ ap (λ (v : Contents). line_sum event place v.lines) c.self.view_is in
    let news = ap (line_sum event place) c.deref.ensures.value
    ∙ ap (λ (v : Listed). line_sum event place v.lines) c.other.view_is in
    omega (arith, old, news, c.merge_lines.ensures.sums event place))
    stands

pub returns-clause-arcs_stand : goal.returns-clause-arcs_stand
returns-clause-arcs_stand g c =
    λ additions stands.
    arcs_stand c.args.self.now.arcs (map arc_row c.merge_arcs.new.table.rows) additions c.args.other.now.arcs
    (λ arc.
    let old = ap (λ rows. call_sum arc (map arc_row rows)) c.make_room-2.ensures.rows
    ∙ ap (λ (v : Contents). call_sum arc v.arcs) c.self.view_is in
    let news = ap (call_sum arc) c.deref-2.ensures.value ∙ ap (λ (v : Listed). call_sum arc v.arcs) c.other.view_is in
    omega (arith, old, news, c.merge_arcs.ensures.call_sums arc))
    (λ event arc.
    let old = ap (λ rows. arc_sum event arc (map arc_row rows)) c.make_room-2.ensures.rows
    ∙ ap (λ (v : Contents). arc_sum event arc v.arcs) c.self.view_is in
    let news = ap (arc_sum event arc) c.deref-2.ensures.value
    ∙ ap (λ (v : Listed). arc_sum event arc v.arcs) c.other.view_is in
    omega (arith, old, news, c.merge_arcs.ensures.cost_sums event arc))
    stands

pub returns-clause-line_keys : goal.returns-clause-line_keys
returns-clause-line_keys g c =
    λ place.
    ap (has_line place) c.merge_lines.ensures.rows
    ∙ lines_keys (map cost_row c.make_room.new.self.rows) c.deref.result.now place
    ∙ ap (λ rows. has_line place (map cost_row rows) || has_line place c.deref.result.now) c.make_room.ensures.rows
    ∙ ap (λ (v : Contents). has_line place v.lines || has_line place c.deref.result.now) c.self.view_is
    ∙ ap (λ news. has_line place c.args.self.now.lines || has_line place news) c.deref.ensures.value
    ∙ ap (λ (v : Listed). has_line place c.args.self.now.lines || has_line place v.lines) c.other.view_is

pub returns-clause-arc_keys : goal.returns-clause-arc_keys
returns-clause-arc_keys g c =
    λ arc.
    ap (has_arc arc) c.merge_arcs.ensures.rows
    ∙ arcs_keys (map arc_row c.make_room-2.new.self.rows) c.deref-2.result.now arc
    ∙ ap (λ rows. has_arc arc (map arc_row rows) || has_arc arc c.deref-2.result.now) c.make_room-2.ensures.rows
    ∙ ap (λ (v : Contents). has_arc arc v.arcs || has_arc arc c.deref-2.result.now) c.self.view_is
    ∙ ap (λ news. has_arc arc c.args.self.now.arcs || has_arc arc news) c.deref-2.ensures.value
    ∙ ap (λ (v : Listed). has_arc arc c.args.self.now.arcs || has_arc arc v.arcs) c.other.view_is
