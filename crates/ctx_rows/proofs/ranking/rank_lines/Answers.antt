use Rattle.std.proofs.Common.{◌∙◌, ap, rules, sym}
use Rattle.std.specs.Prelude.{slice_set}
use Rattle.std.proofs.lemmas.List.{drop_all, take_all}
use Rattle.std.proofs.lemmas.List.Edits.{map_over_more}
use Rattle.std.proofs.lemmas.Simd.{map-map}
use Rattle.arc_costs.specs.Rows.{LineRow}
use Rattle.ctx_rows.specs.Telling.{named_line}
use Rattle.ctx_rows.specs.Texts.{numbered_line}
use Rattle.ctx_rows.proofs.ranking.rank_lines.Goals as goal

pub lines-preserved : goal.lines-preserved
lines-preserved c =
    let f : LineRow → LineRow = λ row. numbered_line c.args.ranked.now (named_line c.args.contexts.now row) in
    ap (slice_set c.lines.rows c.lines.row-index) (c.ranked_line.ensures ∙ ap f (sym c.row-item.is))
    ∙ map_over_more f c.args.rows.now c.lines.rows c.lines.row-index c.row-item.result c.lines-test.true c.lines.invariant
    c.row-item.is

pub returns : goal.returns
returns c = search (rules, take_all, drop_all, map-map)
