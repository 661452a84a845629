use Rattle.std.proofs.Common.{◌*◌, ◌^◌, List, ℕ, take, ap, sym, ◌∙◌, arith}
use Rattle.std.proofs.lemmas.List.Sums.{fold_more}
use Rattle.event_costs.specs.Costs.{no_cost, sum_of_costs}
use Rattle.arc_costs.specs.Rows.{LineRow}
use Rattle.cg_format.specs.Sums.{sum_of_lines}
use Rattle.cg_format.proofs.sums.sum_of_lines.Goals as goal

abbrev plus : List ℕ → LineRow → List ℕ
plus sum row = sum_of_costs sum row.cost

pub lines-preserved : goal.lines-preserved
lines-preserved g c =
    let lines = c.args.lines.now in
    let i = c.lines.row-index in
    record {
      sum = c.add_numbers.ensures.sums ∙ ap (sum_of_costs c.lines.sum) c.numbers.ensures.numbers
          ∙ ap (plus c.lines.sum) c.row.view_is
          ∙ ap (λ sum. plus sum c.row-item.result) c.lines.invariant.sum
          ∙ ap (plus (sum_of_lines (take i lines))) c.row-item.is
          ∙ sym (fold_more plus no_cost lines i c.row-item.result (omega arith));
      bound = λ k d lt.
          omega (arith, c.add_numbers.ensures.bound (i * 2 ^ 64) c.lines.invariant.bound k d lt);
      whole = omega arith;
    }
