use Rattle.std.proofs.Common.{◌∙◌, ap, rules, sym}
use Rattle.std.specs.Prelude.{slice_set}
use Rattle.std.proofs.lemmas.List.{drop_all, take_all}
use Rattle.std.proofs.lemmas.List.Edits.{map_over_more}
use Rattle.std.proofs.lemmas.Simd.{map-map}
use Rattle.arc_costs.specs.Rows.{ArcRow}
use Rattle.ctx_rows.specs.Telling.{named_arc}
use Rattle.ctx_rows.specs.Texts.{numbered_arc}
use Rattle.ctx_rows.proofs.ranking.rank_arcs.Goals as goal

pub arcs-preserved : goal.arcs-preserved
arcs-preserved c =
    let f : ArcRow → ArcRow = λ row. numbered_arc c.args.ranked.now (named_arc c.args.contexts.now row) in
    ap (slice_set c.arcs.rows c.arcs.row-index) (c.ranked_arc.ensures ∙ ap f (sym c.row-item.is))
    ∙ map_over_more f c.args.rows.now c.arcs.rows c.arcs.row-index c.row-item.result c.arcs-test.true c.arcs.invariant
    c.row-item.is

pub returns : goal.returns
returns c = search (rules, take_all, drop_all, map-map)
