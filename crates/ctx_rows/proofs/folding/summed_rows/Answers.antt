use Rattle.std.proofs.Common.{ap, arith, []}
use Rattle.arc_costs.specs.Arcs.{arc_sum, call_sum}
use Rattle.arc_costs.specs.Lines.{line_sum}
use Rattle.ctx_rows.proofs.FoldLemmas.{sums_of}
use Rattle.ctx_rows.proofs.folding.summed_rows.Goals as goal

pub merge-requires-clause-line_costs : goal.merge-requires-clause-line_costs
merge-requires-clause-line_costs c event place =
    omega (arith, ap (line_sum event place) c.new-sums.ensures.lines, c.requires.lines event place)

pub merge-requires-clause-arc_costs : goal.merge-requires-clause-arc_costs
merge-requires-clause-arc_costs c event arc =
    omega (arith, ap (arc_sum event arc) c.new-sums.ensures.arcs, c.requires.arcs event arc)

pub returns : goal.returns
returns c =
    sums_of c.sorted.result c.args.rows.now c.merge.new.self.lines c.merge.new.self.arcs
    (c.in_ok-merge.ensures.lines_stand [] (λ event place. ap (line_sum event place) c.new-sums.ensures.lines))
    (c.in_ok-merge.ensures.arcs_stand [] (record {
      calls = λ arc. ap (call_sum arc) c.new-sums.ensures.arcs;
      costs = λ event arc. ap (arc_sum event arc) c.new-sums.ensures.arcs;
    }))
    c.sorted.ensures.lines c.sorted.ensures.arcs c.sorted.ensures.lines_rise c.sorted.ensures.arcs_rise
    c.sorted.ensures.lines_stand c.sorted.ensures.arcs_stand c.sorted.ensures.whole_lines c.sorted.ensures.whole_arcs
