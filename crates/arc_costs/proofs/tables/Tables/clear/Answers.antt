use Rattle.std.proofs.Common.{[], map, sym, ◌∙◌, ap, subst}
use Rattle.arc_costs.specs.Arcs.{ArcsStandFor, cleared_arcs, has_arc}
use Rattle.arc_costs.specs.Contents.{Contents, arc_row, cost_row}
use Rattle.arc_costs.specs.Lines.{LinesStandFor, cleared_lines, has_line}
use Rattle.arc_costs.proofs.ArcLemmas as arcs
use Rattle.arc_costs.proofs.LineLemmas as lines
use Rattle.arc_costs.proofs.tables.Tables.clear.Goals as goal

pub returns-clause-lines : goal.returns-clause-lines
returns-clause-lines g c =
    ap (map cost_row) c.clear.ensures.rows ∙ lines.lines-cleared c.self.inside.lines.rows
    ∙ ap (λ (v : Contents). cleared_lines v.lines) c.self.view_is

pub returns-clause-arcs : goal.returns-clause-arcs
returns-clause-arcs g c =
    ap (map arc_row) c.clear-2.ensures.rows ∙ arcs.arcs-cleared c.self.inside.arcs.rows
    ∙ ap (λ (v : Contents). cleared_arcs v.arcs) c.self.view_is

pub returns-clause-lines_stand : goal.returns-clause-lines_stand
returns-clause-lines_stand g c =
    subst (λ rows. LinesStandFor rows [])
    (sym (ap (map cost_row) c.clear.ensures.rows ∙ lines.lines-cleared c.self.inside.lines.rows))
    (lines.none_stand (map cost_row c.self.inside.lines.rows))

pub returns-clause-arcs_stand : goal.returns-clause-arcs_stand
returns-clause-arcs_stand g c =
    subst (λ rows. ArcsStandFor rows [])
    (sym (ap (map arc_row) c.clear-2.ensures.rows ∙ arcs.arcs-cleared c.self.inside.arcs.rows))
    (arcs.none_stand (map arc_row c.self.inside.arcs.rows))

pub returns-clause-line_keys : goal.returns-clause-line_keys
returns-clause-line_keys g c = λ place. ap (has_line place) (returns-clause-lines g c)
    ∙ lines.cleared_keys c.args.self.now.lines place

pub returns-clause-arc_keys : goal.returns-clause-arc_keys
returns-clause-arc_keys g c = λ arc. ap (has_arc arc) (returns-clause-arcs g c) ∙ arcs.cleared_keys c.args.self.now.arcs arc
