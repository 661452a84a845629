use Rattle.std.proofs.Common.{List, ℕ, get_or, take, sym, ap, subst, ◌∙◌, arith, refl}
use Rattle.std.proofs.lemmas.List.Sums.{fold_more, sum_by_more, sum_by_more_le}
use Rattle.event_costs.specs.Costs.{IsWhole, event_kinds, no_cost, sum_of_costs}
use Rattle.wait_report.proofs.Others.{fits_from_numbers}
use Rattle.arc_costs.proofs.RowLemmas.{zero_replicate}
use Rattle.wait_report.specs.Texts.{sum_of_rows}
use Rattle.wait_report.specs.declared.rows.WaitRow.{WaitRow}
use Rattle.wait_report.specs.inner.Passing.{number_of_sum, whole_sum}
use Rattle.wait_report.proofs.writing.sum_of_rows.Goals as goal

abbrev plus : List ℕ → WaitRow → List ℕ
plus sum row = sum_of_costs sum row.cost

abbrev number : ℕ → WaitRow → ℕ
number kind row = get_or row.cost kind 0

pub add-requires : goal.add-requires
add-requires c =
    fits_from_numbers c.rows.sum c.row-item.result.cost (λ kind.
    let so_far = c.rows.invariant.numbers kind in
    let more = sum_by_more_le (number kind) c.args.rows.now c.rows.row-index c.row-item.result (omega arith) in
    let item = ap (number kind) c.row-item.is in
    let all = c.requires kind in
    omega (arith, so_far, more, item, all))

pub rows-init : goal.rows-init
rows-init c = record { sum = refl; whole = refl; numbers = λ kind. zero_replicate event_kinds kind }

pub rows-preserved : goal.rows-preserved
rows-preserved c =
    let rows = c.args.rows.now in
    let i = c.rows.row-index in
    record {
      sum = c.add.ensures.sum
          ∙ ap (λ sum. plus sum c.row-item.result) c.rows.invariant.sum
          ∙ ap (plus (sum_of_rows (take i rows))) c.row-item.is
          ∙ sym (fold_more plus no_cost rows i c.row-item.result (omega arith));
      whole = subst IsWhole (sym c.add.ensures.sum)
          (whole_sum c.rows.sum c.row-item.result.cost c.rows.invariant.whole c.add.ensures.whole);
      numbers = λ kind.
          let new = ap (λ sum. get_or sum kind 0) c.add.ensures.sum in
          let both = number_of_sum c.rows.sum c.row-item.result.cost kind
          (c.rows.invariant.whole ∙ sym c.add.ensures.whole) in
          let so_far = c.rows.invariant.numbers kind in
          let item = ap (number kind) c.row-item.is in
          let more = sum_by_more (number kind) rows i c.row-item.result (omega arith) in
          omega (arith, new, both, so_far, item, more);
    }
